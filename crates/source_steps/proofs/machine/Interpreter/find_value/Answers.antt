use Rattle.std.proofs.Common.{sym, ◌∙◌}
use Rattle.c_checked.specs.Expression as tree
use Rattle.c_checked.specs.Whole as whole
use Rattle.source_plans.specs.Views as views
use Rattle.source_values.specs.Surrounding.{surroundings_of}
use Rattle.source_steps.proofs.AtOnce.{value_at_once}
use Rattle.source_steps.proofs.machine.Interpreter.find_value.Goals as goal

pub returns-in-Some : goal.returns-in-Some
returns-in-Some c =
    value_at_once (whole.program c.args._program.now) c.args.self.now (views.place_of c.args.place)
    (tree.expression c.args.expr.now) c.args.left c.args.data_end
    (surroundings_of c.surroundings-around.result) (c.in-Some.found, c.in-Some.rest) c.requires
    c.surroundings-around.ensures (sym c.value.ensures ∙ c.in-Some.is)
