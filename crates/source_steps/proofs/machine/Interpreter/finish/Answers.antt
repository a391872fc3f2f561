use Rattle.std.proofs.Common.{ap, sym, ◌∙◌, false}
use Rattle.source_meaning.specs.Tasks as tasks
use Rattle.source_machine.specs.Frames as frames
use Rattle.source_plans.specs.Views as views
use Rattle.source_steps.specs.Machines.{machine_of}
use Rattle.source_steps.specs.Finished.{operation_finished}
use Rattle.source_steps.proofs.machine.Interpreter.finish.Goals as goal

pub returns-in_ok-push-in-Raises : goal.returns-in_ok-push-in-Raises
returns-in_ok-push-in-Raises c = λ x es.
    let p = views.place_of c.args.place in
    ap (λ o. operation_finished (machine_of c.args.self.now x es) c.args.operation c.args.first
    c.args.second p o) c.in-Raises.is
    ∙ c.in_ok-push-in-Raises.ensures (frames.Start
    (tasks.Raise (record { code = c.in-Raises.code.0; flag = false; access = c.in-Raises.access }))
    p) x es
    ∙ ap (λ n. machine_of c.push.new.self n es) (sym c.start.ensures)
