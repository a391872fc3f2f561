use Rattle.std.proofs.Common.{ap, sym, ◌∙◌}
use Rattle.std.proofs.lemmas.Result.{IfOk-weaker}
use Rattle.x64_memory.specs.PageMaps.{memory_of}
use Rattle.source_machine.specs.Machine as model
use Rattle.source_plans.specs.Views as views
use Rattle.source_steps.specs.Machines.{machine_of}
use Rattle.source_steps.proofs.Operating.{operated_is}
use Rattle.source_steps.proofs.machine.Interpreter.operate.Goals as goal

pub returns : goal.returns
returns c =
    let p = views.place_of c.args.place in
    IfOk-weaker c.finish.result _ _
    (λ next h x es.
    ap (model.operated (machine_of c.args.self.now x es) c.args.operation c.args.first c.args.second
    p) (sym c.perform-outcome.ensures.outcome)
    ∙ operated_is (machine_of c.args.self.now x es) (memory_of c.perform-outcome.new.space)
    c.args.operation c.args.first c.args.second p c.perform-outcome.result
    c.perform-outcome.ensures.kept
    ∙ h x es)
    c.finish.ensures
