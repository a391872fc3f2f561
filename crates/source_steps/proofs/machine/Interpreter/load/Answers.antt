use Rattle.std.proofs.Common.{subst, IfOk}
use Rattle.source_machine.specs.Machine as model
use Rattle.source_steps.specs.Machines.{Moved}
use Rattle.source_steps.proofs.machine.Interpreter.load.Goals as goal

pub returns : goal.returns
returns c =
    subst (λ q. IfOk c.follow.result (Moved c.args.self.now c.follow.new.self
    (λ m. model.follow m q))) c.load_plan.ensures c.follow.ensures
