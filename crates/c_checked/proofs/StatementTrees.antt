-- The code's statements as those of the meaning, one equation for each kind.
use Rattle.std.proofs.Common.{◌≡◌, Some, None, sym, ap, ◌∙◌, map}
use Rattle.std.specs.Prelude.{option_map}
use Rattle.c_checked.specs.declared.expression.Expr.{Expr}
use Rattle.c_checked.specs.declared.statement.Filter.{Filter}
use Rattle.c_checked.specs.declared.statement.Stmt.{Stmt}
use Rattle.c_checked.specs.declared.statement.Stmt.TheVariants as stmts
use Rattle.c_checked.specs.declared.statement.Stmt.TheOpen as opened
use Rattle.c_checked.specs.declared.statement.Stmt.TheFolds.{fold-roll-Stmt}
use Rattle.c_checked.specs.Expression.{expression}
use Rattle.c_checked.specs.Statement as trees
use Rattle.c_checked.specs.Statement.{Statement, statement, statements, filter, choice}
use Rattle.c_checked.specs.Statement.{layer}

pub if_is : (c : Expr) (s : _) (t : _) → statement (stmts.If c s t)
    ≡ choice (expression c) (statement s.value) (option_map (λ b. statement b.value) t)
if_is c s None =
    ap statement (sym (stmts.rolls-If c s None))
    ∙ fold-roll-Stmt Statement layer (opened.If c s None)
if_is c s (Some t) =
    ap statement (sym (stmts.rolls-If c s (Some t)))
    ∙ fold-roll-Stmt Statement layer (opened.If c s (Some t))

pub try_except_is : (b : _) (f : Filter) (h : _)
    → statement (stmts.TryExcept b f h) ≡ trees.TryExcept (statements (map statement b.items))
    (filter f) (statements (map statement h.items))
try_except_is b f h =
    ap statement (sym (stmts.rolls-TryExcept b f h))
    ∙ fold-roll-Stmt Statement layer (opened.TryExcept b f h)

pub if_none : (c : Expr) (s : _) (t : _) (x : Stmt) → x ≡ stmts.If c s t → t ≡ None
    → statement x ≡ trees.If (expression c) (statement s.value)
if_none c s t x is n = ap statement is ∙ ap (λ o. statement (stmts.If c s o)) n ∙ if_is c s None

pub if_some : (c : Expr) (s : _) (t : _) (b : _) (x : Stmt) → x ≡ stmts.If c s t → t ≡ Some b
    → statement x ≡ trees.IfElse (expression c) (statement s.value) (statement b.value)
if_some c s t b x is n =
    ap statement is ∙ ap (λ o. statement (stmts.If c s o)) n ∙ if_is c s (Some b)
