use Rattle.std.proofs.Common.{refl}
use Rattle.std.proofs.lemmas.Result.{IfOk-weaker}
use Rattle.c_checked.specs.Whole as whole
use Rattle.source_plans.specs.Views as views
use Rattle.source_steps.proofs.Leading.{led_by}
use Rattle.source_steps.proofs.machine.Interpreter.step.Goals as goal

pub returns : goal.returns
returns c =
    IfOk-weaker c.do_next.result _ _
    (λ step h es. led_by (whole.program c.args.program.now) _ _ _ (c.hasten-hastened.ensures es)
    refl (h (views.next_of c.hasten-hastened.result) es))
    c.do_next.ensures
