use Rattle.lowering_sizes.proofs.Lists.{declared_notes_next}
use Rattle.lowering_sizes.proofs.statement_sizes.declared_notes.Goals as goal

pub loop-one-preserved : goal.loop-one-preserved
loop-one-preserved c =
    declared_notes_next c.args.declared.now c.loop-one.one-index c.loop-one.most
    c.stacked_notes.result c.larger-next.result c.one-item.result c.loop-one-test.true
    c.one-item.is c.loop-one.invariant c.stacked_notes.ensures c.larger-next.ensures
