use Rattle.std.proofs.Common.{ap, sym, ◌∙◌, true}
use Rattle.source_meaning.specs.Tasks as tasks
use Rattle.source_machine.specs.Frames as frames
use Rattle.source_plans.specs.Views as views
use Rattle.source_steps.specs.Machines.{machine_of}
use Rattle.source_steps.proofs.Finishing.{finished_other}
use Rattle.source_steps.proofs.machine.Interpreter.finish_try.Goals as goal

pub returns-in_ok-push-in_default : goal.returns-in_ok-push-in_default
returns-in_ok-push-in_default c = λ x es.
    let p = views.place_of c.args.place in
    let last = views.all_statements c.args.finally_block.now.items in
    finished_other (machine_of c.args.self.now x es) c.args.number last p c.args.how
    c.in_default.not-Normal c.in_default.not-LeftTry
    ∙ c.in_ok-push-in_default.ensures (frames.Start (tasks.RunFinally c.args.number last true) p) x
    es
    ∙ ap (λ n. machine_of c.push.new.self n es) (sym c.finally-in_default.ensures)
