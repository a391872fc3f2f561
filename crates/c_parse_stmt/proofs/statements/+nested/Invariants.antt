use Rattle.std.proofs.Common.{◌+◌, ◌*◌, length}
use Rattle.c_parse_stmt.proofs.Held.{Held}
use Rattle.c_parse_stmt.proofs.statements.+nested.Given as goal

abbrev pub decreases-inside : goal.decreases-inside
decreases-inside l = 4 * l.room + 2

abbrev pub decreases-try_statement : goal.decreases-try_statement
decreases-try_statement l = 4 * l.room + 2

abbrev pub decreases-statement : goal.decreases-statement
decreases-statement l = 4 * l.room + 3

abbrev pub decreases-item : goal.decreases-item
decreases-item l = 4 * l.room

abbrev pub decreases-items : goal.decreases-items
decreases-items l = 4 * l.room + 1

abbrev pub invariant-items-loop-end : goal.invariant-items-loop-end
invariant-items-loop-end l = Held l.text l.room l.fn.left l.tokens l.found.items l.rest l.left

abbrev pub decreases-items-loop-end : goal.decreases-items-loop-end
decreases-items-loop-end l = length l.rest
