use Rattle.std.proofs.Common.{ap, subst, sym, ◌∙◌, IfOk}
use Rattle.source_machine.specs.Machine as model
use Rattle.source_plans.specs.Views as views
use Rattle.source_steps.specs.Machines.{machine_of, Moved}
use Rattle.source_steps.proofs.machine.Interpreter.act_vectored.Goals as goal

pub returns-in-AskFrom : goal.returns-in-AskFrom
returns-in-AskFrom c = λ program x es.
    let exc = views.exception_of c.args.exception in
    let p = views.place_of c.args.place in
    let m = machine_of c.args.self.now x es in
    ap (λ a. model.done program m (views.vectored_action_of a exc p)) c.in-AskFrom.is
    ∙ c.ask_from.ensures x es

pub returns-in-Answered : goal.returns-in-Answered
returns-in-Answered c = λ program.
    let exc = views.exception_of c.args.exception in
    let p = views.place_of c.args.place in
    subst (λ a. IfOk c.answer_vectored.result (Moved c.args.self.now c.answer_vectored.new.self
    (λ m. model.done program m (views.vectored_action_of a exc p)))) (sym c.in-Answered.is)
    c.answer_vectored.ensures
