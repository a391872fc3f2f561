use Rattle.std.proofs.Common.{◌<◌, length, subst, sym, arith}
use Rattle.c_checked.specs.Whole as whole
use Rattle.source_meaning.specs.Tasks as tasks
use Rattle.source_plans.specs.Views as views
use Rattle.source_plans.proofs.Lists.{statement_there}
use Rattle.source_steps.specs.Directly.{DoneAtOnce}
use Rattle.source_steps.proofs.machine.Interpreter.run_listed.Goals as goal

pub returns : goal.returns
returns c =
    let ss = c.args.stmts.now.items in
    let there : c.args.index < length ss = let k = c.args.stmts.now.ok.0 in omega arith in
    subst (λ s. DoneAtOnce (whole.program c.args.program.now) c.args.self.now (tasks.Run s)
    (views.place_of c.args.place) c.run_directly.new.self c.run_directly.result)
    (sym (statement_there ss c.args.index c.index.result.now there c.index.ensures))
    c.run_directly.ensures
