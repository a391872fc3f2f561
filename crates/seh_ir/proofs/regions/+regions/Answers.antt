use Rattle.seh_ir.proofs.Lowering.{regions_next}
use Rattle.seh_ir.proofs.regions.+regions.Goals as goal

pub statements_regions-loop-stmt-preserved : goal.statements_regions-loop-stmt-preserved
statements_regions-loop-stmt-preserved t c =
    regions_next c.args.stmts.now c.loop-stmt.stmt-index c.stmt-item.result c.args.at
    c.loop-stmt.place c.in_ok-next.next _ _ _ c.loop-stmt-test.true
    c.stmt-item.is c.loop-stmt.invariant.0 c.loop-stmt.invariant.1
    c.in_ok-next.ensures.regions c.in_ok-next.ensures.end
