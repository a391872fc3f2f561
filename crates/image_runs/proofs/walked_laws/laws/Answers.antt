use Rattle.image_runs.proofs.RunWalks.{runs_pass_the_frames}
use Rattle.image_runs.proofs.RunEnds.{runs_end_as_programs}
use Rattle.image_runs.proofs.walked_laws.laws.Goals as goal

pub returns : goal.returns
returns c = record { passes = runs_pass_the_frames; ends = runs_end_as_programs }
