use Rattle.std.proofs.Common.{List, map, Some, None, sym, ap, ◌∙◌}
use Rattle.c_checked.specs.declared.statement.Declared.{Declared}
use Rattle.c_statements.specs.Words.{rolls-For, fold-roll-Stmt, For, declared, layer}
use Rattle.c_checked.specs.declared.statement.Stmt.TheOpen.{For as For_F}
use Rattle.c_checked.specs.Expression.{expression}
use Rattle.c_checked.specs.Statement.{Statement, statement}
use Rattle.c_statements.proofs.build.while_of.Goals as goal

pub returns : goal.returns
returns c =
    let e = c.args.condition in
    let body = c.args.body in
    let none = c.new in
    ap statement (sym (rolls-For none.result None (Some e) None body))
    ∙ fold-roll-Stmt Statement layer (For_F none.result None (Some e) None body)
    ∙ ap (λ (ds : List Declared). For (map declared ds) None (Some (expression e)) None
    (statement body.value)) none.ensures.items
