-- A block and a `__try` with a `__finally` block as those of the meaning.
use Rattle.std.proofs.Common.{◌≡◌, ℕ, sym, ap, ◌∙◌, map}
use Rattle.c_checked.specs.declared.statement.Stmt.TheVariants as stmts
use Rattle.c_checked.specs.declared.statement.Stmt.TheOpen as opened
use Rattle.c_checked.specs.declared.statement.Stmt.TheFolds.{fold-roll-Stmt}
use Rattle.c_checked.specs.Statement as trees
use Rattle.c_checked.specs.Statement.{Statement, statement, statements, layer}

pub block_is : (ss : _) → statement (stmts.Block ss)
    ≡ trees.Block (statements (map statement ss.items))
block_is ss =
    ap statement (sym (stmts.rolls-Block ss)) ∙ fold-roll-Stmt Statement layer (opened.Block ss)

pub try_finally_is : (body : _) (number : ℕ) (last : _)
    → statement (stmts.TryFinally body number last)
    ≡ trees.TryFinally (statements (map statement body.items)) number
    (statements (map statement last.items))
try_finally_is body number last =
    ap statement (sym (stmts.rolls-TryFinally body number last))
    ∙ fold-roll-Stmt Statement layer (opened.TryFinally body number last)
