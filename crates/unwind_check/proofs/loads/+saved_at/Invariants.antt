use Rattle.std.proofs.Common.{length}
use Rattle.unwind_check.proofs.loads.+saved_at.Given as goal

abbrev pub decreases-saved_at : goal.decreases-saved_at
decreases-saved_at l = length l.codes.now
