use Rattle.seh_ir.proofs.Lowering.{cold_next}
use Rattle.seh_ir.proofs.cold_parts.+cold.Goals as goal

pub statements_cold-loop-stmt-preserved : goal.statements_cold-loop-stmt-preserved
statements_cold-loop-stmt-preserved t c =
    cold_next c.args.stmts.now c.loop-stmt.stmt-index c.stmt-item.result c.args.at
    c.loop-stmt.place c.in_ok-next.next _ _ _ c.loop-stmt-test.true
    c.stmt-item.is c.loop-stmt.invariant.0 c.loop-stmt.invariant.1
    c.in_ok-next.ensures.cold c.in_ok-next.ensures.end
