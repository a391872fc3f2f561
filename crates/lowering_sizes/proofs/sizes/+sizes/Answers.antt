use Rattle.lowering_sizes.proofs.Lists.{call_size_next}
use Rattle.lowering_sizes.proofs.sizes.+sizes.Goals as goal

pub call_size-loop-argument-preserved : goal.call_size-loop-argument-preserved
call_size-loop-argument-preserved t c =
    call_size_next c.args.arguments.now c.loop-argument.argument-index c.loop-argument.total
    c.in_ok-size.size c.in_ok-total.total c.argument-item.result c.loop-argument-test.true
    c.argument-item.is c.loop-argument.invariant c.in_ok-size.ensures c.in_ok-total.ensures
