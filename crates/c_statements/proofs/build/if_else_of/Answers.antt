use Rattle.std.proofs.Common.{Some, ap, ◌∙◌}
use Rattle.c_statements.specs.Words.{rolls-If, fold-roll-Stmt, layer}
use Rattle.c_checked.specs.declared.statement.Stmt.TheViews.{roll-Stmt}
use Rattle.c_checked.specs.declared.statement.Stmt.TheOpen.{If as If_F}
use denote.Hole.Carrier as Carrier
use Rattle.c_checked.specs.Statement.{Statement, statement}
use Rattle.c_statements.proofs.build.if_else_of.Goals as goal

pub returns : goal.returns
unfolding roll-Stmt Carrier.roll
returns c =
    let a = c.args in
    ap statement (rolls-If a.condition a.then (Some a.otherwise))
    ∙ fold-roll-Stmt Statement layer (If_F a.condition a.then (Some a.otherwise))
