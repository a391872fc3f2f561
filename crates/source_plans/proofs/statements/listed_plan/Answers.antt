use Rattle.std.proofs.Common.{◌<◌, ◌≤◌, length, ap, sym, ◌∙◌, arith}
use Rattle.source_machine.specs.Frames as frames
use Rattle.source_machine.specs.Plans as plans
use Rattle.source_plans.specs.Views as views
use Rattle.source_plans.proofs.Lists.{statements_past, statement_past, statement_there}
use Rattle.source_plans.proofs.statements.listed_plan.Goals as goal

pub returns-then-index-len : goal.returns-then-index-len
returns-then-index-len c =
    let p = views.place_of c.args.place in
    let ss = c.args.stmts.now.items in
    let past : length ss ≤ c.args.index = let k = c.args.stmts.now.ok.0 in omega arith in
    let end : length ss ≤ c.len-then-index-len.result = let k = c.args.stmts.now.ok.0 in
    omega arith in
    c.then.ensures
    ∙ ap (λ s. frames.Then (frames.Proceed s p))
    (statements_past ss c.len-then-index-len.result end)
    ∙ ap (λ s. plans.statement_plan s p) (sym (statement_past ss c.args.index past))

pub returns : goal.returns
returns c =
    let p = views.place_of c.args.place in
    let ss = c.args.stmts.now.items in
    let there : c.args.index < length ss = let k = c.args.stmts.now.ok.0 in omega arith in
    c.statement_plan.ensures ∙ ap (λ s. plans.statement_plan s p)
    (sym (statement_there ss c.args.index c.index.result.now there c.index.ensures))
