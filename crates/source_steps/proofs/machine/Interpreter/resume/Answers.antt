use Rattle.source_plans.specs.Views as views
use Rattle.source_steps.specs.Finished.{resumed_from}
use Rattle.source_steps.proofs.Unshown.{unshown}
use Rattle.source_steps.proofs.machine.Interpreter.resume.Goals as goal

pub returns-in-PassesArgument : goal.returns-in-PassesArgument
returns-in-PassesArgument c =
    unshown (λ f m. resumed_from m (views.frame_of f) (views.result_of c.args.how))
    c.args.self.now c.resume_passing.new.self _ _ c.resume_passing.result
    c.silently.result c.in-PassesArgument.is c.silently.ensures c.resume_passing.ensures
