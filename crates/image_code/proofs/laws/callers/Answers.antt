use Rattle.image_code.proofs.LoadedFrames.{yes_finds_callers}
use Rattle.image_code.proofs.laws.callers.Goals as goal

pub returns : goal.returns
returns c = yes_finds_callers
