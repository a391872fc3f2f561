use Rattle.std.proofs.Common.{ap, sym, ◌∙◌}
use Rattle.std.proofs.lemmas.Result.{IfOk-weaker}
use Rattle.c_checked.specs.Statement as trees
use Rattle.source_machine.specs.Frames as frames
use Rattle.source_machine.specs.Plans.{evaluated}
use Rattle.source_machine.specs.Machine as model
use Rattle.source_plans.specs.Views as views
use Rattle.source_steps.specs.Machines.{machine_of}
use Rattle.source_steps.proofs.machine.Interpreter.declare_local.Goals as goal

pub returns : goal.returns
returns c = λ program.
    let d = trees.declared c.args.declared.now in
    let p = views.place_of c.args.place in
    IfOk-weaker c.follow.result _ _
    (λ step h x es.
    ap (λ m. model.follow m (evaluated (frames.Initialises d.local p) d.value p
    (frames.Then (frames.SetLocal d.local 0 p)))) (c.set_local.ensures x es)
    ∙ ap (model.follow (machine_of c.set_local.new.self x es)) (sym c.initialise_plan.ensures)
    ∙ h x es)
    c.follow.ensures
