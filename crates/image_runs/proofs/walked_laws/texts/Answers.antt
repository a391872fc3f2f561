use Rattle.image_runs.proofs.TextRuns.{accepted_pass_the_frames, accepted_end_as_programs}
use Rattle.image_runs.proofs.walked_laws.texts.Goals as goal

pub returns : goal.returns
returns c = record { passes = accepted_pass_the_frames; ends = accepted_end_as_programs }
