use Rattle.std.proofs.Common.{length}
use Rattle.unwind_tails.proofs.epilogue.+pops.Given as goal

abbrev pub decreases-pops : goal.decreases-pops
decreases-pops l = length l.codes.now
