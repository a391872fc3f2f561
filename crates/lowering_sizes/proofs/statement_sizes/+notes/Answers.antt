use Rattle.lowering_sizes.proofs.Lists.{notes_next}
use Rattle.lowering_sizes.proofs.statement_sizes.+notes.Goals as goal

pub statements_notes-loop-stmt-preserved : goal.statements_notes-loop-stmt-preserved
statements_notes-loop-stmt-preserved t c =
    notes_next c.args.stmts.now c.loop-stmt.stmt-index c.loop-stmt.most c.in_ok-notes.notes _
    c.stmt-item.result c.loop-stmt-test.true c.stmt-item.is c.loop-stmt.invariant
    c.in_ok-notes.ensures c.larger-next.ensures
