use Rattle.abi_unwind.proofs.Worked.{tails, no_tails}
use Rattle.abi_unwind.proofs.laws.trailing_parts.Goals as goal

pub returns : goal.returns
returns c = record { tails = tails; none = no_tails }
