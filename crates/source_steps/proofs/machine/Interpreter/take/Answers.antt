use Rattle.c_checked.specs.Whole as whole
use Rattle.source_machine.specs.Frames as frames
use Rattle.source_plans.specs.Views as views
use Rattle.source_steps.proofs.AtOnce.{begins}
use Rattle.source_steps.proofs.machine.Interpreter.take.Goals as goal

pub returns-in-None : goal.returns-in-None
returns-in-None c =
    let next = frames.Start (views.task_of c.args.task) (views.place_of c.args.place) in
    begins (whole.program c.args.program.now) c.args.self.now c.do_directly.new.self
    c.start.new.self next (views.next_of c.start.result) c.in-None.ensures
    (λ es. c.start.ensures next es)
