use Rattle.std.proofs.Common.{◌-◌, ◌≤◌}
use Rattle.c_parse_stmt.specs.Words.{AreOpening}
use Rattle.c_parse_stmt.proofs.filters.past_opening.Given as goal

abbrev pub invariant-loop-count : goal.invariant-loop-count
invariant-loop-count l = AreOpening l.count l.tokens l.rest × (l.count ≤ 65)

abbrev pub decreases-loop-count : goal.decreases-loop-count
decreases-loop-count l = 65 - l.count
