use Rattle.x64_laws.proofs.Effects.{add_is_sum, sub_is_difference}
use Rattle.x64_laws.proofs.arithmetic.sums.Goals as goal

pub returns : goal.returns
returns c = record { add = add_is_sum; sub = sub_is_difference }
