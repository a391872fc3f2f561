use Rattle.std.proofs.Common.{◌≤◌, ◌+◌, ◌-◌, ◌*◌, length, map}
use Rattle.c_parse_expr.specs.Words.{expression, Derives, Closes}
use Rattle.c_parse_expr.proofs.Listing.{AreArgumentsRead}
use Rattle.c_parse_expr.proofs.expressions.+reader.Given as goal

abbrev pub decreases-expression : goal.decreases-expression
decreases-expression l = 8 * l.room + 7

abbrev pub decreases-step : goal.decreases-step
decreases-step l = 8 * l.room + 6

abbrev pub decreases-operated : goal.decreases-operated
decreases-operated l = 8 * l.room + 10

abbrev pub decreases-chosen : goal.decreases-chosen
decreases-chosen l = 8 * l.room + 9

abbrev pub decreases-enclosed : goal.decreases-enclosed
decreases-enclosed l = 8 * l.room + 8

abbrev pub decreases-operand : goal.decreases-operand
decreases-operand l = 8 * l.room + 5

abbrev pub decreases-named : goal.decreases-named
decreases-named l = 8 * l.room + 4

abbrev pub decreases-arguments : goal.decreases-arguments
decreases-arguments l = 8 * l.room + 3

abbrev pub decreases-signed : goal.decreases-signed
decreases-signed l = 8 * l.room + 4

abbrev pub decreases-parenthesised : goal.decreases-parenthesised
decreases-parenthesised l = 8 * l.room + 10

abbrev pub decreases-grouped : goal.decreases-grouped
decreases-grouped l = 8 * l.room + 9

abbrev pub invariant-arguments-loop-following : goal.invariant-arguments-loop-following
invariant-arguments-loop-following l =
    AreArgumentsRead l.room l.over l.text (map expression l.exprs.items) l.tokens l.rest

abbrev pub decreases-arguments-loop-following : goal.decreases-arguments-loop-following
decreases-arguments-loop-following l = length l.rest

abbrev pub invariant-expression-loop-alloc : goal.invariant-expression-loop-alloc
invariant-expression-loop-alloc l = (l.left.over ≤ l.room)
    × Derives l.text l.level (expression l.left.expr) l.tokens l.left.rest.now
    × Closes (expression l.left.expr) l.left.rest.now

abbrev pub decreases-expression-loop-alloc : goal.decreases-expression-loop-alloc
decreases-expression-loop-alloc l = l.room - l.left.over
