use Rattle.std.proofs.Common.{ap, ◌∙◌}
use Rattle.std.proofs.lemmas.Result.{IfOk-weaker}
use Rattle.source_machine.specs.Machine.{follow}
use Rattle.source_plans.specs.Views as views
use Rattle.source_steps.specs.Machines.{machine_of}
use Rattle.source_steps.specs.DataStack.{unless_over}
use Rattle.source_steps.proofs.Stacked.{put_step}
use Rattle.source_steps.proofs.machine.Interpreter.put_stacked.Goals as goal

pub returns-in-None : goal.returns-in-None
returns-in-None c = λ program ends.
    let plan = views.plan_of c.args.plan in
    IfOk-weaker c.follow.result _ _
    (λ next h x es.
    let m' = machine_of c.perform_stacked.new.self x es in
    put_step program c.args.data_end ends m' c.perform_stacked.result c.args.variable.now
    c.args.value c.local-base.result (views.place_of c.args.place) plan
    (machine_of c.args.self.now x es) c.local-base.ensures
    (λ go. c.perform_stacked.ensures go x es)
    ∙ ap (λ how. unless_over how (λ m. follow m plan) m') c.in-None.is
    ∙ h x es)
    c.follow.ensures

pub returns-in-Some : goal.returns-in-Some
returns-in-Some c = λ program ends x es.
    let plan = views.plan_of c.args.plan in
    let m' = machine_of c.perform_stacked.new.self x es in
    put_step program c.args.data_end ends m' c.perform_stacked.result c.args.variable.now
    c.args.value c.local-base.result (views.place_of c.args.place) plan
    (machine_of c.args.self.now x es) c.local-base.ensures
    (λ go. c.perform_stacked.ensures go x es)
    ∙ ap (λ how. unless_over how (λ m. follow m plan) m') c.in-Some.is
