use Rattle.std.proofs.Common.{length}
use Rattle.unwind_check.proofs.code_order.+are_pushes.Given as goal

abbrev pub decreases-are_pushes : goal.decreases-are_pushes
decreases-are_pushes l = length l.codes.now
