use Rattle.seh_ir.proofs.Lists.{temporaries_next}
use Rattle.seh_ir.proofs.bodies.temporaries_in.Goals as goal

pub loop-instruction-preserved : goal.loop-instruction-preserved
loop-instruction-preserved c =
    temporaries_next c.args.code.now c.loop-instruction.instruction-index _ c.loop-instruction.most
    c.in_ok-own.own _ c.loop-instruction-test.true c.loop-instruction.invariant
    c.in_ok-own.ensures c.larger-next.ensures
