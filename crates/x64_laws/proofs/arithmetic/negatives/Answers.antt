use Rattle.x64_laws.proofs.Effects.{neg_is_negative}
use Rattle.x64_laws.proofs.arithmetic.negatives.Goals as goal

pub returns : goal.returns
returns c = neg_is_negative
