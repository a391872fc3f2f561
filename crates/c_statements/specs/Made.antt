-- What a walk made of a statement, and what it carries on.
use Rattle.std.specs.Prelude.{◌≡◌, List, [], ◌∷◌, ◌++◌, map}
use Rattle.c_checked.specs.declared.expression.Expr.{Expr}
use Rattle.c_checked.specs.declared.statement.Stmt.{Stmt}
use Rattle.c_checked.specs.Expression.{expression}
use Rattle.c_checked.specs.Statement.{statement}
use Rattle.c_expressions.specs.Kept.{least_of, kept}
use Rattle.c_expressions.specs.SymbolTables.{SymbolTable}
use Rattle.c_locals.specs.declared.environment.Environment.{Environment}
use Rattle.c_locals.specs.declared.environment.FunctionState.{FunctionState}
use Rattle.c_locals.specs.Views.{environment, numbering}
use Rattle.c_resolved.specs.Scopes.{Scope}
use Rattle.c_resolved.specs.Statements.{Value, ResolvedStatements, only, resolve_statement}
use Rattle.c_syntax.specs.declared.statement.Stmt.{Stmt as Read}
use Rattle.c_syntax.specs.Statement as trees

-- a statement of the text, in the innermost of these blocks
abbrev pub resolved : Read → Environment → SymbolTable → FunctionState → ResolvedStatements
resolved s env names state =
    resolve_statement (trees.statement s) (environment env names.around) names.block
    (numbering state)

-- the same as a block of its own
abbrev pub resolved_inside : Read → Environment → SymbolTable → FunctionState → ResolvedStatements
resolved_inside s env names state =
    resolve_statement (trees.statement s) (environment env (names.block ∷ names.around)) []
    (numbering state)

-- one statement, in a block whose names stay the same
pub record MakesOne (b : Scope) (before after : FunctionState) (made : Stmt)
    (r : ResolvedStatements) : Type 0 where
  pub done : statement made ∷ [] ≡ r.done
  pub counts : numbering after ≡ r.counts
  pub block : b ≡ r.block
  pub faults : least_of after.faults ≡ kept (least_of before.faults) r.faults

-- the statement that is a part of another one, whose names end with it
pub record MakesPart (was now : SymbolTable) (before after : FunctionState) (made : Stmt)
    (r : ResolvedStatements) : Type 0 where
  pub names : now ≡ was
  pub done : statement made ≡ only r.done
  pub counts : numbering after ≡ r.counts
  pub faults : least_of after.faults ≡ kept (least_of before.faults) r.faults

-- the statements of a block within another statement, whose names end with it
pub record MakesBlock (was now : SymbolTable) (before after : FunctionState) (made : List Stmt)
    (r : ResolvedStatements) : Type 0 where
  pub names : now ≡ was
  pub done : map statement made ≡ r.done
  pub counts : numbering after ≡ r.counts
  pub faults : least_of after.faults ≡ kept (least_of before.faults) r.faults

-- a condition, and then the statement that it governs
pub record MakesConditionAndBody (was now : SymbolTable) (before after : FunctionState) (e : Expr)
    (made : Stmt)
    (v : Value) (r : ResolvedStatements) : Type 0 where
  pub condition : expression e ≡ v.value
  pub names : now ≡ was
  pub done : statement made ≡ only r.done
  pub counts : numbering after ≡ r.counts
  pub faults : least_of after.faults ≡ kept (least_of before.faults) (v.faults ++ r.faults)
