use Rattle.source_machine.specs.Machine as model
use Rattle.source_plans.specs.Views as views
use Rattle.source_steps.proofs.machine.Interpreter.planned.Goals as goal

pub returns : goal.returns
returns c =
    c.silently.ensures c.args.self.now c.follow.new.self
    (λ m. model.follow m (views.plan_of c.args.plan)) c.follow.ensures
