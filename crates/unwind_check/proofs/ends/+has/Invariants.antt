use Rattle.std.proofs.Common.{length}
use Rattle.unwind_check.proofs.ends.+has.Given as goal

abbrev pub decreases-has : goal.decreases-has
decreases-has l = length l.numbers.now
