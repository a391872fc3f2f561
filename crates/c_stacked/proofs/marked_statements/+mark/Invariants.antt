use Rattle.std.proofs.Common.{◌≡◌}
use Rattle.c_stacked.proofs.Walked.{StatementsLeft}
use Rattle.c_stacked.proofs.marked_statements.+mark.Given as goal

abbrev pub invariant-mark_statements-loop-stmt : goal.invariant-mark_statements-loop-stmt
invariant-mark_statements-loop-stmt l = StatementsLeft l.stmts l.stmt-index l.marks
    ≡ StatementsLeft l.stmts 0 l.initial.marks
