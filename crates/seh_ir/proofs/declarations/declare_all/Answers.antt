use Rattle.seh_ir.proofs.StatementCodes.{declared_next}
use Rattle.seh_ir.proofs.declarations.declare_all.Goals as goal

pub loop-one-preserved : goal.loop-one-preserved
loop-one-preserved c =
    declared_next c.args.names c.args.declared.now c.loop-one.one-index c.one-item.result _ _ _
    c.loop-one-test.true c.one-item.is c.loop-one.invariant c.in_ok-declare.ensures
