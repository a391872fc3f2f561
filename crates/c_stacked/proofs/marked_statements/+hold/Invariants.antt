use Rattle.std.proofs.Common.{◌≡◌}
use Rattle.c_stacked.proofs.Walked.{TryLeft}
use Rattle.c_stacked.proofs.marked_statements.+hold.Given as goal

abbrev pub invariant-hold_try-loop-stmt : goal.invariant-hold_try-loop-stmt
invariant-hold_try-loop-stmt l = TryLeft l.stmts l.stmt-index ≡ TryLeft l.stmts 0
