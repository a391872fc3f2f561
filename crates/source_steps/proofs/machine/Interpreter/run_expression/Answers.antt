use Rattle.std.proofs.Common.{◌≡◌, suc, ◌-◌, subst, sym, arith}
use Rattle.std.specs.Prelude.{option_map}
use Rattle.c_checked.specs.Expression as tree
use Rattle.c_checked.specs.Statement as trees
use Rattle.c_checked.specs.Whole as whole
use Rattle.source_meaning.specs.Tasks as tasks
use Rattle.source_plans.specs.Views as views
use Rattle.source_steps.specs.Directly.{DoneAtOnce}
use Rattle.source_steps.proofs.AtOnce.{ran_at_once}
use Rattle.source_steps.proofs.machine.Interpreter.run_expression.Goals as goal

pub returns-in-Some : goal.returns-in-Some
returns-in-Some c =
    let program = whole.program c.args.program.now in
    let m = c.args.self.now in
    let p = views.place_of c.args.place in
    let left : m.steps_left ≡ suc (m.steps_left - 1) = omega arith in
    subst (λ o. DoneAtOnce program m (tasks.Run (trees.Evaluate (option_map tree.expression o))) p
    c.evaluate.new.self c.normally.result) (sym c.in-Some.is)
    (ran_at_once program m c.evaluate.new.self p (tree.expression c.in-Some.expr)
    (m.steps_left - 1) c.evaluate.result c.normally.result c.normally.ensures left
    c.evaluate.ensures)
