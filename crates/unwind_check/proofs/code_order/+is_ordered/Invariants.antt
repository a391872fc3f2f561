use Rattle.std.proofs.Common.{length}
use Rattle.unwind_check.proofs.code_order.+is_ordered.Given as goal

abbrev pub decreases-is_ordered : goal.decreases-is_ordered
decreases-is_ordered l = length l.codes.now
