-- The words of this crate's proofs: what its lemma files import, by the crates below.
pub use Rattle.c_syntax.specs.Expression.{start, Expression, expression}
pub use Rattle.c_syntax.specs.Statement.{local, Declaring, first}
pub use Rattle.c_syntax.specs.declared.expression.Base.{Base}
pub use Rattle.c_syntax.specs.declared.expression.CType.{CType}
pub use Rattle.c_checked.specs.Statement.{declared, statement, layer, Always, Funclet}
pub use Rattle.c_checked.specs.declared.expression.Expr.{Expr}
pub use Rattle.c_resolved.specs.Expressions.{LocalVariable, FaultAt, ResolvedExpression, fault_at, resolve_expression, Names}
pub use Rattle.c_resolved.specs.Program.{bytes_of_number, File, with_global, with_globals, global_entity, padded, initial_value, first_data, bytes_of_all}
pub use Rattle.c_resolved.specs.Scopes.{Scope, spelled}
pub use Rattle.c_resolved.specs.Statements.{Environment, Optional, ResolvedStatements, declare, declare_all, length_faults, local_entity, elements_of, variable_of, local_value, without_initialiser, is_taken, names_only, optional, to_type, unless_holds, with_name, ResolvedFilter, always, resolve_filter, to_answer, resolve_for_initialiser, Value, returned, Numbering, follow, is_accepting}
pub use Rattle.c_resolved.specs.Types.{is_scalar, size_of, bytes_in, is_void}
pub use Rattle.c_resolved.specs.declared.fault.Fault.TheVariants.{Duplicate, TypeClash}
pub use Rattle.c_types.specs.Views.{typed_node}
pub use Rattle.c_expressions.specs.Kept.{least_of, kept}
pub use Rattle.c_expressions.specs.SymbolTables.{SymbolTable, with_block}
pub use Rattle.c_expressions.specs.Views.{entity}
pub use Rattle.c_expressions.specs.declared.least.LeastFault.{LeastFault}
pub use Rattle.c_locals.specs.Values.{MayEvaluate, Evaluates, ResolvesFilter}
pub use Rattle.c_locals.specs.Views.{numbering, local_value_in, resolved_at, filter_resolved_at, environment}
pub use Rattle.c_locals.specs.WalkResults.{Resolves, declares, IsBeginning}
pub use Rattle.c_locals.specs.declared.declarations.Beginning.{Beginning}
pub use Rattle.c_locals.specs.declared.environment.FunctionState.{FunctionState}
