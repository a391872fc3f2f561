use Rattle.std.proofs.Common.{ap, ◌∙◌}
use Rattle.source_machine.specs.Machine as model
use Rattle.source_plans.specs.Views as views
use Rattle.source_steps.specs.Machines.{machine_of}
use Rattle.source_steps.proofs.machine.Interpreter.follow.Goals as goal

pub returns-in_ok-push-in-Some : goal.returns-in_ok-push-in-Some
returns-in_ok-push-in-Some c = λ x es.
    ap (λ o. model.follow (machine_of c.args.self.now x es)
    (views.after_push o (views.next_of c.args.plan.next))) c.in-Some.is
    ∙ c.in_ok-push-in-Some.ensures (views.next_of c.args.plan.next) x es
