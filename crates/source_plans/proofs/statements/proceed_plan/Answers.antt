use Rattle.std.proofs.Common.{◌+◌, ◌<◌, length, ap, sym, ◌∙◌, arith}
use Rattle.source_machine.specs.Frames as frames
use Rattle.source_machine.specs.Plans as plans
use Rattle.source_plans.specs.Views as views
use Rattle.source_plans.proofs.Lists.{statements_next}
use Rattle.source_plans.proofs.statements.proceed_plan.Goals as goal

pub returns : goal.returns
returns c =
    let p = views.place_of c.args.place in
    let ss = c.args.stmts.now.items in
    let there : c.args.next < length ss = let k = c.args.stmts.now.ok.0 in omega arith in
    c.push.ensures
    ∙ ap (λ n. frames.Push
    (frames.Sequel (frames.Continues (views.statements_from ss (c.args.next + 1)) p)) n)
    c.start.ensures
    ∙ ap (λ s. plans.proceed_plan s p) (sym (statements_next ss c.args.next there))
