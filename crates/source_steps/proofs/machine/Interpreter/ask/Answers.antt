use Rattle.std.proofs.Common.{ap, sym, ◌∙◌}
use Rattle.c_checked.specs.Expression as tree
use Rattle.c_checked.specs.Statement as trees
use Rattle.source_meaning.specs.Tasks as tasks
use Rattle.source_machine.specs.Frames as frames
use Rattle.source_machine.specs.Machine as model
use Rattle.source_plans.specs.Views as views
use Rattle.source_steps.specs.Machines.{machine_of}
use Rattle.source_steps.proofs.machine.Interpreter.ask.Goals as goal

pub returns-in_ok-push-in-Funclet : goal.returns-in_ok-push-in-Funclet
returns-in_ok-push-in-Funclet c = λ x es.
    let h = views.handler_of c.args.handler in
    let exc = views.exception_of c.args.exception in
    let p = views.place_of c.args.place in
    ap (λ f. model.asked_by (machine_of c.args.self.now x es) (trees.filter f) h c.args.level exc p)
    c.in-Funclet.is
    ∙ c.in_ok-push-in-Funclet.ensures (frames.Start
    (tasks.RunFilter c.in-Funclet.number (tree.expression c.in-Funclet.value) h exc) p) x es
    ∙ ap (λ n. machine_of c.push.new.self n es) (sym c.start.ensures)
