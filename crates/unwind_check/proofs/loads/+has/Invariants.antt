use Rattle.std.proofs.Common.{length}
use Rattle.unwind_check.proofs.loads.+has.Given as goal

abbrev pub decreases-has : goal.decreases-has
decreases-has l = length l.registers.now
