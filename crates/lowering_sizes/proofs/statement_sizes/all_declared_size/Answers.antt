use Rattle.lowering_sizes.proofs.Lists.{declared_size_next}
use Rattle.lowering_sizes.proofs.statement_sizes.all_declared_size.Goals as goal

pub loop-one-preserved : goal.loop-one-preserved
loop-one-preserved c =
    declared_size_next c.args.declared.now c.loop-one.one-index c.loop-one.total c.in_ok-size.size
    c.in_ok-total.total c.one-item.result c.loop-one-test.true c.one-item.is c.loop-one.invariant
    c.in_ok-size.ensures c.in_ok-total.ensures
