-- The words of this crate's proofs: what its lemma files import, by the crates below.
pub use Rattle.c_syntax.specs.Expression.{Expression, expression}
pub use Rattle.c_syntax.specs.Statement.{statement, statements, Statement, Statements, ForInitialiser, node}
pub use Rattle.c_checked.specs.Statement.{declared, layer, For}
pub use Rattle.c_checked.specs.declared.expression.Expr.{Expr}
pub use Rattle.c_checked.specs.declared.statement.Stmt.{Stmt}
pub use Rattle.c_checked.specs.declared.statement.Stmt.TheFolds.{fold-roll-Stmt}
pub use Rattle.c_checked.specs.declared.statement.Stmt.TheVariants.{rolls-For, rolls-If}
pub use Rattle.c_resolved.specs.Scopes.{Scope}
pub use Rattle.c_resolved.specs.Statements.{Environment, Numbering, ResolvedStatements, resolve_statement, resolve_statements, Optional, inside, condition, any, optional, with_number, resolve_filter, resolve_for_initialiser, Value, only, jump, returned}
pub use Rattle.c_expressions.specs.Kept.{least_of, kept}
pub use Rattle.c_expressions.specs.SymbolTables.{SymbolTable, with_block, opened, closed}
pub use Rattle.c_locals.specs.Views.{numbering, resolved_at, in_loop, in_body, in_handler, in_finally, environment, reach}
pub use Rattle.c_locals.specs.WalkResults.{Resolves, IsBeginning}
pub use Rattle.c_locals.specs.declared.environment.FunctionState.{FunctionState}
pub use Rattle.c_statements.specs.Made.{MakesOne, MakesPart, MakesBlock, MakesConditionAndBody}
