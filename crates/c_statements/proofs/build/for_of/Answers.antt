use Rattle.std.proofs.Common.{sym, ap, ◌∙◌}
use Rattle.c_statements.specs.Words.{rolls-For, fold-roll-Stmt, layer}
use Rattle.c_checked.specs.declared.statement.Stmt.TheOpen.{For as For_F}
use Rattle.c_checked.specs.Statement.{Statement, statement}
use Rattle.c_statements.proofs.build.for_of.Goals as goal

pub returns : goal.returns
returns c =
    let a = c.args in
    let b = a.beginning in
    ap statement (sym (rolls-For b.declared b.first a.condition a.next a.body))
    ∙ fold-roll-Stmt Statement layer (For_F b.declared b.first a.condition a.next a.body)
