-- The words of this crate's proofs: what its lemma files import, by the crates below.
pub use Rattle.c_syntax.specs.Expression.{expression, start, Expression, node}
pub use Rattle.c_resolved.specs.Expressions.{FaultAt, Names, Passed, Wanted, Argument, ResolvedExpression, bad, given_that, only_where, fault_at, faults_of, called, call_with, pass, pass_all, resolve_expression, Entity, BuiltInFunction, CodeFunction, AbnormalFunction, AddingFunction, RemovingFunction, NamedHandler, handler_if, handler_named, no_handler, name_of, resolve_handler, handler_after, call_naming, call_with_handler, BuiltInConstant, OfType, before, spoiled, fits, passed, changed, is_lvalue, rule_2, rule_3, call, unsigned, rule_1, operand_is_lvalue, ruled}
pub use Rattle.c_resolved.specs.Operators.{TypedNode, typed, int, element_of, binary_of, comma_of, conditional_of, incremented, unary_of, as_is, as_type, can_become}
pub use Rattle.c_resolved.specs.Statements.{is_some, is_taken, with_name, Value, unless_holds}
pub use Rattle.c_resolved.specs.Types.{is_scalar, is_integer}
pub use Rattle.c_resolved.specs.declared.fault.Fault.{Fault}
pub use Rattle.c_resolved.specs.declared.fault.Fault.TheVariants.{ArgCount, TypeClash, NotLvalue, CodeOutsideFilter, AbnormalOutsideFinally}
pub use Rattle.c_types.specs.Views.{typed_node}
pub use Rattle.c_expressions.specs.Calls.{resolved_all, put_before, put_after, passed_of}
pub use Rattle.c_expressions.specs.Handlers.{named_by, naming_with, naming_of, naming_call}
pub use Rattle.c_expressions.specs.Kept.{kept, kept_one, least_of}
pub use Rattle.c_expressions.specs.Rules.{allowed_call, assigning_to, assigning_at, rule_of_two, assigning}
pub use Rattle.c_expressions.specs.Views.{wanted, entity, built_in_functions, built_in_constants, names_of}
pub use Rattle.c_expressions.specs.SymbolTables.{scopes_of}
