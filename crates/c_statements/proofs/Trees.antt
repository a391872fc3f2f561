-- The statements that were read, as those of the definitions, one equation for each kind that a
-- proof cites.
use Rattle.std.proofs.Common.{◌≡◌, ℕ, Some, sym, ap, ◌∙◌, map}
use Rattle.c_syntax.specs.declared.expression.Expr.{Expr}
use Rattle.c_syntax.specs.declared.statement.Stmt.{Stmt}
use Rattle.c_syntax.specs.declared.statement.Stmt.TheVariants as stmts
use Rattle.c_syntax.specs.declared.statement.Stmt.TheOpen as opened
use Rattle.c_syntax.specs.declared.statement.Stmt.TheFolds.{fold-roll-Stmt}
use Rattle.c_statements.specs.Words.{expression, Statement, statement, statements, node}
use Rattle.c_syntax.specs.Statement as trees

if_else_is : (at : ℕ) (c : Expr) (s : _) (t : _)
    → statement (stmts.If at c s (Some t)) ≡ trees.IfElse at (expression c) (statement s.value)
    (statement t.value)
if_else_is at c s t = ap statement (sym (stmts.rolls-If at c s (Some t)))
    ∙ fold-roll-Stmt Statement node (opened.If at c s (Some t))

pub break_is : (at : ℕ) → statement (stmts.Break at) ≡ trees.Break at
break_is at = ap statement (sym (stmts.rolls-Break at))
    ∙ fold-roll-Stmt Statement node (opened.Break at)

pub continue_is : (at : ℕ) → statement (stmts.Continue at) ≡ trees.Continue at
continue_is at = ap statement (sym (stmts.rolls-Continue at))
    ∙ fold-roll-Stmt Statement node (opened.Continue at)

pub leave_is : (at : ℕ) → statement (stmts.Leave at) ≡ trees.Leave at
leave_is at = ap statement (sym (stmts.rolls-Leave at))
    ∙ fold-roll-Stmt Statement node (opened.Leave at)

pub try_except_is : (b : _) (at : ℕ) (f : Expr) (h : _)
    → statement (stmts.TryExcept b at f h) ≡ trees.TryExcept (statements (map statement b.items)) at
    (expression f) (statements (map statement h.items))
try_except_is b at f h = ap statement (sym (stmts.rolls-TryExcept b at f h))
    ∙ fold-roll-Stmt Statement node (opened.TryExcept b at f h)

pub try_finally_is : (b : _) (at : ℕ) (l : _)
    → statement (stmts.TryFinally b at l) ≡ trees.TryFinally (statements (map statement b.items)) at
    (statements (map statement l.items))
try_finally_is b at l = ap statement (sym (stmts.rolls-TryFinally b at l))
    ∙ fold-roll-Stmt Statement node (opened.TryFinally b at l)

pub if_some : (at : ℕ) (c : Expr) (s : _) (o : _) (t : _) (x : Stmt) → x ≡ stmts.If at c s o
    → o ≡ Some t → statement x ≡ trees.IfElse at (expression c) (statement s.value)
    (statement t.value)
if_some at c s o t x is n = ap statement is ∙ ap (λ k. statement (stmts.If at c s k)) n
    ∙ if_else_is at c s t
