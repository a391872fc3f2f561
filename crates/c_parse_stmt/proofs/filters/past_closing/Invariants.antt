use Rattle.std.proofs.Common.{◌-◌, ◌≤◌}
use Rattle.c_parse_stmt.specs.Words.{AreClosing}
use Rattle.c_parse_stmt.proofs.filters.past_closing.Given as goal

abbrev pub invariant-loop-count : goal.invariant-loop-count
invariant-loop-count l = AreClosing l.count l.tokens l.rest × (l.count ≤ l.most)

abbrev pub decreases-loop-count : goal.decreases-loop-count
decreases-loop-count l = l.most - l.count
