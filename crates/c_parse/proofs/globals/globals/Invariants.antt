use Rattle.std.proofs.Common.{◌≤◌, length}
use Rattle.c_parse.proofs.Declarations.{Read}
use Rattle.c_parse.proofs.globals.globals.Given as goal

abbrev pub invariant-loop-following : goal.invariant-loop-following
invariant-loop-following l =
    Read l.base l.bytes l.tokens l.found.items l.rest l.end × (l.end ≤ 1048576)

abbrev pub decreases-loop-following : goal.decreases-loop-following
decreases-loop-following l = length l.rest
