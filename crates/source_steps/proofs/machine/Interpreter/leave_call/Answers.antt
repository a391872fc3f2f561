use Rattle.std.proofs.Common.{ap, ◌∙◌}
use Rattle.source_meaning.specs.State.{Value}
use Rattle.source_machine.specs.Frames as frames
use Rattle.source_machine.specs.Machine as model
use Rattle.source_plans.specs.Views as views
use Rattle.source_steps.specs.Machines.{machine_of}
use Rattle.source_steps.proofs.Finishing.{left_other}
use Rattle.source_steps.proofs.machine.Interpreter.leave_call.Goals as goal

pub returns-in-Normal : goal.returns-in-Normal
returns-in-Normal c = λ x es.
    ap (λ h. model.left_call (machine_of c.args.self.now x es) c.args.count c.args.surplus
    c.args.part (views.result_of h)) c.in-Normal.is
    ∙ ap (λ m. model.with_next (model.with_activations m c.args.count c.args.surplus)
    (frames.Give (Value 0))) (c.close_part.ensures x es)
    ∙ ap (λ m. model.with_next m (frames.Give (Value 0))) (c.leave_activations.ensures x es)

pub returns-in-Returned : goal.returns-in-Returned
returns-in-Returned c = λ x es.
    let give = frames.Give (Value c.in-Returned.value) in
    ap (λ h. model.left_call (machine_of c.args.self.now x es) c.args.count c.args.surplus
    c.args.part (views.result_of h)) c.in-Returned.is
    ∙ ap (λ m. model.with_next (model.with_activations m c.args.count c.args.surplus) give)
    (c.close_part-in-Returned.ensures x es)
    ∙ ap (λ m. model.with_next m give) (c.leave_activations-in-Returned.ensures x es)

pub returns-in_default : goal.returns-in_default
returns-in_default c = λ x es.
    left_other (machine_of c.args.self.now x es) c.args.count c.args.surplus c.args.part c.args.how
    c.in_default.not-Normal c.in_default.not-Returned c.in_default.not-Target
    ∙ ap (λ m. model.with_next m (frames.Give (views.result_of c.args.how)))
    (c.leave_activations-in_default.ensures x es)
