use Rattle.std.proofs.Common.{ap, subst, sym, ◌∙◌, IfOk}
use Rattle.source_machine.specs.Machine as model
use Rattle.source_plans.specs.Views as views
use Rattle.source_steps.specs.Machines.{machine_of, Showed}
use Rattle.source_steps.proofs.Unshown.{unshown}
use Rattle.source_steps.proofs.machine.Interpreter.begin.Goals as goal

pub returns-in-Eval : goal.returns-in-Eval
returns-in-Eval c =
    let p = views.place_of c.args.place in
    subst (λ t. IfOk c.planned.result (Showed c.args.self.now c.planned.new.self
    (λ m. model.begun m (views.task_of t) p))) (sym c.in-Eval.is)
    (subst (λ q. IfOk c.planned.result (Showed c.args.self.now c.planned.new.self
    (λ m. model.follow m q))) c.expression_plan.ensures c.planned.ensures)

pub returns-in-Raise : goal.returns-in-Raise
returns-in-Raise c = λ x es.
    ap (λ t. model.begun (machine_of c.args.self.now x es) (views.task_of t)
    (views.place_of c.args.place)) c.in-Raise.is ∙ c.raise.ensures x es

pub returns-in-DoIteration : goal.returns-in-DoIteration
returns-in-DoIteration c =
    let p = views.place_of c.args.place in
    subst (λ t. IfOk c.planned-in-DoIteration.result
    (Showed c.args.self.now c.planned-in-DoIteration.new.self
    (λ m. model.begun m (views.task_of t) p))) (sym c.in-DoIteration.is)
    (subst (λ q. IfOk c.planned-in-DoIteration.result
    (Showed c.args.self.now c.planned-in-DoIteration.new.self (λ m. model.follow m q)))
    c.do_plan.ensures c.planned-in-DoIteration.ensures)

pub returns-in-AskVectored : goal.returns-in-AskVectored
returns-in-AskVectored c =
    unshown (λ t m. model.begun m (views.task_of t) (views.place_of c.args.place))
    c.args.self.now c.ask_vectored.new.self _ _ c.ask_vectored.result
    c.silently.result c.in-AskVectored.is c.silently.ensures c.ask_vectored.ensures
