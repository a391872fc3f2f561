use Rattle.c_parse_stmt.proofs.Declarations.{Begun}
use Rattle.c_parse_stmt.proofs.locals.locals.Given as goal

abbrev pub invariant-loop-following : goal.invariant-loop-following
invariant-loop-following l =
    Begun l.text l.base l.room l.fn.left l.tokens l.found.items l.rest l.left

abbrev pub decreases-loop-following : goal.decreases-loop-following
decreases-loop-following l = l.left.locals
