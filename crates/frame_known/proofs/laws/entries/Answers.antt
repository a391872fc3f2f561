use Rattle.frame_known.proofs.Kept.{kept_is_found}
use Rattle.frame_known.proofs.laws.entries.Goals as goal

pub returns : goal.returns
returns c = kept_is_found
