use Rattle.std.proofs.Common.{length}
use Rattle.unwind_check.proofs.ends.+are_at_ends.Given as goal

abbrev pub decreases-are_at_ends : goal.decreases-are_at_ends
decreases-are_at_ends l = length l.codes.now
