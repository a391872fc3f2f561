use Rattle.std.proofs.Common.{◌≡◌, suc, ◌-◌, sym, ap, ◌∙◌, arith}
use Rattle.std.specs.Prelude.{option_map}
use Rattle.c_checked.specs.Expression as tree
use Rattle.c_checked.specs.Whole as whole
use Rattle.source_plans.specs.Views as views
use Rattle.source_values.specs.Surrounding.{surroundings_of, change_of}
use Rattle.source_steps.proofs.AtOnce.{made_at_once}
use Rattle.source_steps.proofs.machine.Interpreter.change_place.Goals as goal

pub returns-in-Some : goal.returns-in-Some
returns-in-Some c =
    let more : c.args.left ≡ suc (c.args.left - 1) = omega arith in
    made_at_once (whole.program c.args._program.now) c.args.self.now c.make_change.new.self
    (views.place_of c.args.place) (tree.node c.args.expr.now.node) c.args.expr.now.conversion
    c.args.left (c.args.left - 1) c.args.data_end (surroundings_of c.surroundings-around.result)
    (change_of c.in-Some.change) c.make_change.result c.requires c.surroundings-around.ensures more
    (sym c.pending_change.ensures ∙ ap (option_map change_of) c.in-Some.is) c.make_change.ensures
