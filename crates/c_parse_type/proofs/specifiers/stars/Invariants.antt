use Rattle.std.proofs.Common.{◌≤◌, ◌+◌, length}
use Rattle.c_syntax.specs.Types.{AreStars}
use Rattle.c_parse_type.proofs.specifiers.stars.Given as goal

abbrev pub invariant-loop-following : goal.invariant-loop-following
invariant-loop-following l =
    (l.count + length l.rest ≤ length l.tokens) × AreStars l.count l.tokens l.rest

abbrev pub decreases-loop-following : goal.decreases-loop-following
decreases-loop-following l = length l.rest
