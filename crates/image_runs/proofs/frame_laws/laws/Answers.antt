use Rattle.image_runs.proofs.FrameCallers.{lowered_finds_callers}
use Rattle.image_runs.proofs.frame_laws.laws.Goals as goal

pub returns : goal.returns
returns c = record { callers = lowered_finds_callers }
