use Rattle.std.proofs.Common.{length}
use Rattle.c_parse.proofs.Constants.{Constants}
use Rattle.c_parse.proofs.initialisers.constants.Given as goal

abbrev pub invariant-loop-following : goal.invariant-loop-following
invariant-loop-following l = Constants l.tokens l.found.items l.rest

abbrev pub decreases-loop-following : goal.decreases-loop-following
decreases-loop-following l = length l.rest
