-- The words of this crate's proofs: what its lemma files import, by the crates below.
pub use Rattle.seh_num.specs.Widths.{bytes_of, low, wrapped}
pub use Rattle.seh_num.specs.declared.width.Width.{Width}
pub use Rattle.seh_num.specs.declared.width.Width.TheVariants.{W8, W16, W32, W64}
pub use Rattle.c_syntax.specs.Expression.{Expression, start}
pub use Rattle.c_syntax.specs.Limits.{size_of_base, size, elements, aligned, end_of_globals, bytes_from, accepts, numbered, funclets_of_all, locals_of_for_initialiser, every_limit, FunctionWithinFirst, EachWithinFirst, Within}
pub use Rattle.c_syntax.specs.Program.{Initialiser, Single, Several, Global, ExternalDeclaration, Globals, Function}
pub use Rattle.c_syntax.specs.Statement.{Local, ForInitialiser, Declaring, Evaluating, Statement, Statements}
pub use Rattle.c_syntax.specs.declared.declaration.Length.{Length}
pub use Rattle.c_syntax.specs.declared.declaration.Parameter.{Parameter}
pub use Rattle.c_syntax.specs.declared.expression.Base.{Base}
pub use Rattle.c_syntax.specs.declared.expression.Base.TheVariants.{Void, Char, UnsignedChar, Short, UnsignedShort, Int, Unsigned, LongLong, UnsignedLongLong}
pub use Rattle.c_syntax.specs.declared.expression.CType.{CType}
pub use Rattle.c_syntax.specs.declared.expression.Field.{Field}
pub use Rattle.c_syntax.specs.declared.expression.Identifier.{Identifier}
pub use Rattle.c_syntax.specs.declared.expression.Literal.{Literal}
pub use Rattle.c_syntax.specs.declared.operator.Arithmetic.{Arithmetic}
pub use Rattle.c_syntax.specs.declared.operator.BinaryOperator.{BinaryOperator}
pub use Rattle.c_syntax.specs.declared.operator.Comparison.{Comparison}
pub use Rattle.c_syntax.specs.declared.operator.Increment.{Increment}
pub use Rattle.c_syntax.specs.declared.operator.UnaryOperator.{UnaryOperator}
pub use Rattle.c_operations.specs.declared.operation.Operation.{Operation}
pub use Rattle.c_operations.specs.declared.operation.Signedness.{Signedness}
pub use Rattle.c_operations.specs.declared.operation.Size.{Size}
pub use Rattle.c_checked.specs.Expression.{Node, On, Lvalue, Arguments, Done, Next}
pub use Rattle.c_checked.specs.LocalScopes.{SeenNames, with_local, IsPart, expression_within, optional_within, after_declared, after_all_declared, declared_within, all_declared_within, after_statement, filter_within, statement_within, statements_within, node_within, arguments_within, first_seen, lvalue_within, functions_within, stacked_within, with_declared}
pub use Rattle.c_checked.specs.Sound.{TypingContext, same_sizes, expression_size, can_convert, size_after, filter_funclet, funclets_in, funclets, count_up, same_size, is_size, is_number, takes, node_size, node_sound, lvalue_size, lvalue_sound, expression_sound, are_sizes, constant_fits, argument_sizes, arguments_sound, call_fits, both, amount_fits, change_fits, unary_takes, is_in_memory, Inside, optional_sound, condition_sound, test_sound, value_fits, declared_sound, all_declared_sound, statement_sound, statements_sound, some_sizes, all_funclets, function_sound, functions_sound, main_sound, IsSound, result_sound, filter_sound, size_in_memory, is_divisor}
pub use Rattle.c_checked.specs.declared.expression.Conversion.{Conversion}
pub use Rattle.c_checked.specs.declared.expression.Conversion.TheVariants.{Kept, Scale}
pub use Rattle.c_checked.specs.declared.expression.Fixity.{Fixity}
pub use Rattle.c_resolved.specs.Accepted.{rank, is_earlier, earlier, least, Accepted}
pub use Rattle.c_resolved.specs.Expressions.{LocalVariable, Names, FaultAt, resolve_expression, Entity, GlobalVariable, GlobalArray, UserFunction, BuiltInFunction, CodeFunction, AbnormalFunction, AddingFunction, RemovingFunction, NamedHandler, is_handler_type, handler_if, handler_named, no_handler, name_of, resolve_handler, handler_after, call_naming, call_with_handler, BuiltInConstant, ResolvedExpression, ruled, rule_1, rule_2, rule_3, given_that, literal, name, field, Wanted, built_in_wants, fits, passed, Argument, Passed, before, spoiled, pass, pass_all, called, call_with, call, changed, resolve_arguments, OfType, ZeroLiteral, fault_at, integer_base, constant, is_lvalue, LocalArray, operand_is_lvalue, unsigned, built_in_result, faults_of, only_where}
pub use Rattle.c_resolved.specs.Operators.{TypedNode, typed, void_pointer, as_is, as_type, branch_type, as_branch, chosen, conditional_of, comma_of, compound_assigned, assigned, only_if, as_index, lvalue_of, with_lvalue, can_become, is_additive, right_operand, on_integers, sum, difference, arithmetic_of, comparison_of, binary_of, address, unary_of, cast_of, element_of, incremented, is_shift, working_type, int, operation_of, operation_in, long_operation, moved, relation_of, compared, are_comparable, increment_operator}
pub use Rattle.c_resolved.specs.Program.{parameter_variable, first_data, constant_value, bytes_of_number, bytes_of_all, filled, initial_value, global_entity, File, padded, with_global, with_globals, parameter_types, with_external_declaration, file_of, empty_file, with_parameters, result_size, around, function_of, functions_of, parameter_faults, main_name, are_main_parameters, place_of_function, main_of, resolve}
pub use Rattle.c_resolved.specs.ResolutionLaws.{IsNoLater, IsLeast, LeastIsReported, AcceptedIsSound}
pub use Rattle.c_resolved.specs.Scopes.{Scope, spelled, same_bytes, meaning_in, built_ins}
pub use Rattle.c_resolved.specs.Statements.{Environment, Numbering, ResolvedStatements, names_at, filter_names, any, condition, to_type, to_answer, Value, Optional, optional, with_name, length_faults, local_entity, elements_of, variable_of, local_value, without_initialiser, declare, declare_all, follow, only, returned, always, ResolvedFilter, resolve_filter, names_only, ResolvedForInitialiser, resolve_for_initialiser, unless_holds, is_taken, Near, Beyond, past_finally, inside, is_accepting, with_number, resolve_statement, resolve_statements, Reach, Nowhere, jump}
pub use Rattle.c_resolved.specs.Types.{is_pointer, is_void, is_integer, is_scalar, is_void_pointer, same_base, same_type, size_of, common, base_width, width_of, sort_of, size_of_width, to_width, conversion, index_width, scaled, bytes_in, pointed, is_sized_pointer, plain, pointer_to, access_of, promoted, is_void_base, promoted_base, wider}
pub use Rattle.c_resolved.specs.declared.fault.Fault.{Fault}
pub use Rattle.c_resolved.specs.declared.fault.Fault.TheVariants.{TypeClash, Duplicate, NotLvalue, ArgCount, CodeOutsideFilter, InfoOutsideFilter, AbnormalOutsideFinally, JumpOutOfFinally, JumpOutsideLoop, LeaveOutsideTry}
pub use Rattle.c_resolved.specs.Addresses.{with_address, mark_expression, mark_statement, mark_statements, holds_try, hold_try}
pub use Rattle.c_resolved.specs.Layout.{Layout, stored_bytes, is_array, is_addressable, element_count, begin_of, end_of, place_from, places_from, end_of_all, is_placed, any_placed, layout_of, with_parameter, stacked_parameters, data_frame_of, base_local}
pub use Rattle.c_resolved.specs.Placed.{place_of, only_place, variable_at, no_address, address_of, array_at, stacked_at, place_expression, place_node, place_lvalue, place_arguments, place_optional, place_declared, place_all_declared, place_filter, place_statement, place_statements}
pub use Rattle.c_resolved.specs.declared.variable.Place.{Place}
pub use Rattle.c_resolved.specs.declared.variable.Variable.{Variable}
