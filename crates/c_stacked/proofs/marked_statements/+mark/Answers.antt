use Rattle.c_stacked.proofs.Walked.{StatementsLeft, statement_marked, statements_marked}
use Rattle.c_stacked.proofs.marked_statements.+mark.Goals as goal

pub mark_statements-loop-stmt-preserved : goal.mark_statements-loop-stmt-preserved
mark_statements-loop-stmt-preserved t c =
    statement_marked c.args.stmts.now c.loop-stmt.stmt-index c.stmt-item.result c.loop-stmt.marks
    c.mark_statement.new.marks (StatementsLeft c.args.stmts.now 0 c.args.marks.now)
    c.loop-stmt-test.true c.stmt-item.is c.mark_statement.ensures c.loop-stmt.invariant

pub mark_statements-returns : goal.mark_statements-returns
mark_statements-returns t c =
    statements_marked c.args.stmts.now c.loop-stmt.stmt-index c.loop-stmt.marks
    (StatementsLeft c.args.stmts.now 0 c.args.marks.now) c.loop-stmt-test.false
    c.loop-stmt.invariant
