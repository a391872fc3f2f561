use Rattle.entry_frames.proofs.Frames.{own_yes_finds_callers}
use Rattle.entry_frames.proofs.laws.frames.Goals as goal

pub returns : goal.returns
returns c = own_yes_finds_callers
