use Rattle.std.proofs.Common.{ap, ◌∙◌}
use Rattle.source_machine.specs.Machine as model
use Rattle.source_plans.specs.Views as views
use Rattle.source_steps.specs.Machines.{machine_of}
use Rattle.source_steps.proofs.machine.Interpreter.search.Goals as goal

pub returns-then-level-eq0 : goal.returns-then-level-eq0
returns-then-level-eq0 c = λ x es.
    ap (λ l. model.searched (machine_of c.args.self.now x es) l
    (views.exception_of c.args.exception) (views.place_of c.args.place)) c.if-level-eq0.true
    ∙ c.unhandled.ensures (machine_of c.args.self.now x es)
