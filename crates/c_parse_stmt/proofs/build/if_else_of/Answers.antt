use Rattle.std.proofs.Common.{Some, ap, ◌∙◌}
use Rattle.c_parse_stmt.specs.Words.{Stmt, rolls-If, fold-roll-Stmt, expression, Statement, IfElse, node, statement}
use Rattle.c_syntax.specs.declared.statement.Stmt.TheViews.{roll-Stmt}
use Rattle.c_syntax.specs.declared.statement.Stmt.TheOpen.{If as If_F}
use denote.Hole.Carrier as Carrier
use Rattle.c_parse_stmt.proofs.build.if_else_of.Goals as goal

pub returns-in-Ok-clause-made : goal.returns-in-Ok-clause-made
unfolding roll-Stmt Carrier.roll
returns-in-Ok-clause-made c =
    let k = c.in-Ok in
    ap statement (rolls-If c.args.at c.args.condition k.then (Some k.otherwise))
    ∙ fold-roll-Stmt Statement node (If_F c.args.at c.args.condition k.then (Some k.otherwise))
    ∙ ap (λ (s : Stmt). IfElse c.args.at (expression c.args.condition) (statement s)
    (statement k.otherwise.value)) k.ensures.first
    ∙ ap (λ (s : Stmt). IfElse c.args.at (expression c.args.condition) (statement c.args.then)
    (statement s)) k.ensures.second
