use Rattle.seh_ir.proofs.Lists.{passed_next}
use Rattle.seh_ir.proofs.bodies.passed_in.Goals as goal

pub loop-instruction-preserved : goal.loop-instruction-preserved
loop-instruction-preserved c =
    passed_next c.args.code.now c.loop-instruction.instruction-index _ c.loop-instruction.most _ _
    c.loop-instruction-test.true c.loop-instruction.invariant c.instruction_passes-own.ensures
    c.larger-next.ensures
