use Rattle.std.proofs.Common.{◌≡◌, ◌≤◌, ◌+◌, length}
use Rattle.c_parse.proofs.Parameters.{Parameters}
use Rattle.c_parse.proofs.functions.listed.Given as goal

abbrev pub invariant-loop-following : goal.invariant-loop-following
invariant-loop-following l =
    Parameters l.tokens l.found.items l.rest × (l.left + length l.found.items ≡ 8) × (l.left ≤ 7)

abbrev pub decreases-loop-following : goal.decreases-loop-following
decreases-loop-following l = l.left
