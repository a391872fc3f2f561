use Rattle.std.proofs.Common.{ap, ◌∙◌}
use Rattle.c_checked.specs.Expression.{lvalue}
use Rattle.c_checked.proofs.ExpressionTrees as made
use Rattle.source_meaning.specs.State.{Value}
use Rattle.source_machine.specs.Frames.{Give}
use Rattle.source_machine.specs.Machine as model
use Rattle.source_plans.specs.Views as views
use Rattle.source_steps.specs.Machines.{machine_of}
use Rattle.source_steps.proofs.machine.Interpreter.put.Goals as goal

pub returns-in-Local : goal.returns-in-Local
returns-in-Local c = λ x es.
    ap (λ l. model.put (machine_of c.args.self.now x es) l c.args.address c.args.value
    (views.place_of c.args.place)) (ap lvalue c.in-Local.is ∙ made.local_is _)
    ∙ ap (λ m. model.with_next m (Give (Value c.args.value))) (c.set_local.ensures x es)
