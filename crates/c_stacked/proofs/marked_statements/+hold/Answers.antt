use Rattle.std.proofs.Common.{◌∙◌, sym}
use Rattle.c_stacked.proofs.Walked.{try_found, try_after, no_try}
use Rattle.c_stacked.proofs.marked_statements.+hold.Goals as goal

pub hold_try-loop-stmt-preserved : goal.hold_try-loop-stmt-preserved
hold_try-loop-stmt-preserved t c =
    try_after c.args.stmts.now c.loop-stmt.stmt-index c.stmt-item.result c.loop-stmt-test.true
    c.stmt-item.is (sym c.holds_try.ensures ∙ c.if-holds_try.false)
    ∙ c.loop-stmt.invariant

pub hold_try-returns : goal.hold_try-returns
hold_try-returns t c =
    sym (no_try c.args.stmts.now c.loop-stmt.stmt-index c.loop-stmt-test.false)
    ∙ c.loop-stmt.invariant

pub hold_try-returns-then-holds_try : goal.hold_try-returns-then-holds_try
hold_try-returns-then-holds_try t c =
    sym (try_found c.args.stmts.now c.loop-stmt.stmt-index c.stmt-item.result
    c.loop-stmt-test.true c.stmt-item.is (sym c.holds_try.ensures ∙ c.if-holds_try.true))
    ∙ c.loop-stmt.invariant
