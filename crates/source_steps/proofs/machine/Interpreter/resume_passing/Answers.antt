use Rattle.std.proofs.Common.{subst, sym, IfOk}
use Rattle.source_machine.specs.Frames as frames
use Rattle.source_machine.specs.Machine as model
use Rattle.source_plans.specs.Views as views
use Rattle.source_steps.specs.Machines.{Moved}
use Rattle.source_steps.proofs.machine.Interpreter.resume_passing.Goals as goal

pub returns-in_ok-plan-in-Value : goal.returns-in_ok-plan-in-Value
returns-in_ok-plan-in-Value c =
    let f = frames.Operand (frames.PassesArgument (views.callee_of c.args.callee)
    c.args.values.items (views.arguments_from c.args.arguments.now.items c.args.next)
    (views.place_of c.args.place)) in
    subst (λ how. IfOk c.follow.result (Moved c.args.self.now c.follow.new.self
    (λ m. model.resumed m f (views.result_of how)))) (sym c.in-Value.is)
    (subst (λ q. IfOk c.follow.result (Moved c.args.self.now c.follow.new.self
    (λ m. model.follow m q))) c.in_ok-plan-in-Value.ensures c.follow.ensures)
