use Rattle.std.proofs.Common.{length}
use Rattle.unwind_tails.proofs.epilogue.+allocation.Given as goal

abbrev pub decreases-allocation : goal.decreases-allocation
decreases-allocation l = length l.codes.now
