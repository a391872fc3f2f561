use Rattle.std.proofs.Common.{subst, sym}
use Rattle.c_checked.specs.Expression as tree
use Rattle.c_checked.specs.Whole as whole
use Rattle.source_plans.specs.Views as views
use Rattle.source_steps.specs.Directly.{DoneAtOnce}
use Rattle.source_steps.proofs.AtOnce.{evaluated_at_once}
use Rattle.source_steps.proofs.machine.Interpreter.do_directly.Goals as goal

pub returns-in-Eval : goal.returns-in-Eval
returns-in-Eval c =
    let program = whole.program c.args.program.now in
    let m = c.args.self.now in
    let p = views.place_of c.args.place in
    subst (λ t. DoneAtOnce program m (views.task_of t) p c.evaluate.new.self c.valued.result)
    (sym c.in-Eval.is)
    (evaluated_at_once program m c.evaluate.new.self p (tree.expression c.in-Eval.expr.now)
    c.evaluate.result c.valued.result c.valued.ensures c.evaluate.ensures)
