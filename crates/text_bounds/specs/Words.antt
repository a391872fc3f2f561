-- The words of this crate's proofs: what its lemma files import, by the crates below.
pub use Rattle.c_syntax.specs.Expression.{start, height, heights}
pub use Rattle.c_syntax.specs.Nodes.{nodes_of, nodes_of_arguments, nodes_of_optional, nodes_of_locals, nodes_of_for_initialiser, nodes_of_statement, nodes_of_statements, nodes_of_globals}
pub use Rattle.c_syntax.specs.Program.{ExternalDeclaration, Globals}
pub use Rattle.c_syntax.specs.Statement.{Statement, Statements, ForInitialiser, Declaring, Evaluating}
pub use Rattle.c_syntax.specs.declared.expression.Base.{Base}
pub use Rattle.c_syntax.specs.declared.expression.CType.{CType}
pub use Rattle.c_syntax.specs.declared.expression.Field.{Field}
pub use Rattle.c_syntax.specs.declared.expression.Literal.{Literal}
pub use Rattle.c_syntax.specs.declared.operator.Arithmetic.{Arithmetic}
pub use Rattle.c_syntax.specs.declared.operator.BinaryOperator.{BinaryOperator}
pub use Rattle.c_syntax.specs.declared.operator.Comparison.{Comparison}
pub use Rattle.c_syntax.specs.declared.operator.Increment.{Increment}
pub use Rattle.c_syntax.specs.declared.operator.UnaryOperator.{UnaryOperator}
pub use Rattle.c_operations.specs.declared.operation.Pure.{Pure}
pub use Rattle.c_checked.specs.Expression.{Expression, Lvalue, Node, On, Global, Stacked, Indirection, Element, Arguments, Done, Next}
pub use Rattle.c_checked.specs.Program.{Program, Function}
pub use Rattle.c_checked.specs.Sound.{IsSound, funclets}
pub use Rattle.c_checked.specs.declared.expression.Conversion.{Conversion}
pub use Rattle.c_checked.specs.declared.expression.Conversion.TheVariants.{Kept, Extend, Scale}
pub use Rattle.c_checked.specs.declared.expression.Fixity.{Fixity}
pub use Rattle.c_resolved.specs.Expressions.{Entity, LocalVariable, LocalArray, GlobalVariable, GlobalArray, UserFunction, BuiltInFunction, CodeFunction, AbnormalFunction, AddingFunction, RemovingFunction, BuiltInConstant, Names, FaultAt, ResolvedExpression, ruled, rule_1, rule_2, rule_3, given_that, literal, name, field, Wanted, built_in_wants, fits, passed, Argument, Passed, before, spoiled, pass, pass_all, called, call_with, handler_after, call_naming, call_with_handler, unsigned, only_where, call, changed, resolve_expression, resolve_arguments, OfType, ZeroLiteral, good}
pub use Rattle.c_resolved.specs.Operators.{TypedNode, compound_assigned, assigned, comma_of, int, only_if, as_is, as_type, can_become, is_additive, right_operand, on_integers, sum, difference, arithmetic_of, comparison_of, binary_of, lvalue_of, with_lvalue, address, unary_of, cast_of, element_of, incremented, branch_type, as_branch, chosen, conditional_of, is_shift, working_type, typed, as_index, operation_in, long_operation, moved, compared, void_pointer, increment_operator}
pub use Rattle.c_resolved.specs.Program.{resolve, file_of, empty_file, with_parameters, around, parameter_variable, function_of, functions_of}
pub use Rattle.c_resolved.specs.Layout.{Layout, layout_of, base_local}
pub use Rattle.c_resolved.specs.Placed.{place_of, variable_at, array_at, address_of, stacked_at, place_expression, place_node, place_lvalue, place_arguments, place_optional, place_declared, place_all_declared, place_filter, place_statement, place_statements}
pub use Rattle.c_resolved.specs.Scopes.{Scope}
pub use Rattle.c_resolved.specs.Statements.{Near, Beyond, past_finally, with_number, Environment, Numbering, names_at, filter_names, inside, any, condition, to_type, to_answer, Value, Optional, without_initialiser, local_value, declare, declare_all, only, returned, always, ResolvedFilter, resolve_filter, names_only, resolve_for_initialiser, resolve_statement, resolve_statements, nothing}
pub use Rattle.c_resolved.specs.Types.{conversion, access_of, is_pointer, is_integer, is_void, is_sized_pointer, is_scalar, size_of, same_type, to_width, width_of, sort_of, plain, pointed, bytes_in, scaled, promoted, common}
pub use Rattle.c_resolved.specs.declared.fault.Fault.{Fault}
pub use Rattle.linear_code.specs.Program.{LinearBody, LinearFunclet, LinearProgram, LinearFunction}
pub use Rattle.linear_code.specs.declared.instruction.Instruction.{Instruction}
pub use Rattle.linear_code.specs.declared.instruction.Instruction.TheVariants.{Jump, JumpIfZero, Call, CallBuiltIn, Return}
pub use Rattle.linear_code.specs.declared.slot.Slot.TheVariants.{Local, Temporary}
pub use Rattle.lowering_sizes.specs.Sizes.{expression_size, address_count, read_size, locate_size, conversion_size, elements_notes, stacked_notes, declared_notes, statement_notes, statements_notes, discarded_size, condition_size, declared_size, all_declared_size, statement_size, statements_size}
pub use Rattle.lowering_expressions.specs.Expressions.{constant, copy, expression_code, combine, argument_count, chosen_of, conversion_code, unary_code, choice_code, code_code, abnormal_code, read_code, write_code, address_code, locate_code, stacked_code, arguments_code, node_code}
pub use Rattle.seh_ir.specs.Lowered.{lowered_function, all_funclets, lowered, all_locals, scope_of, lowered_funclets, asking, first_separators, bring_code, open_code, close_code, body_start}
pub use Rattle.seh_ir.specs.Statements.{statements_code, jump_code, return_code, leave_code, discarded_code, returned_code, condition_code, initialiser_code, put_code, put_initialiser_code, clear_code, stacked_declared_code, declared_at_code, declared_code, all_declared_code, set_pointer, reset_code, landed, repeated, statement_code}
pub use Rattle.seh_ir.specs.declared.funclets.Owner.{Owner}
pub use Rattle.lowering_follows.specs.StepsPerTurn.{weight_of, steps_per_turn_of}
pub use Rattle.lowering_invariants.specs.Nesting.{expression_nesting, node_nesting, expression_reads, node_reads, arguments_nesting, arguments_read, lvalue_nesting, lvalue_reads, most_of_optional, most_of_declared, most_of_filter, most_of_statement, most_of, AreShallow}
pub use Rattle.x64_emit.specs.Rooms.{instruction_room, code_room, pure_room, operation_room}
pub use Rattle.image_link.specs.Fits.{tables_room, function_bodies, funclet_bodies, FitsSlot, FitsInstruction, FitsBody, FitsFunction, FitsKind, FitsFunclet, text_room, program_tables_room, other_room, room}
pub use Rattle.image_link.specs.Walks.{IsName, IsNamed, names_room}
pub use Rattle.text_bounds.specs.Names.{name_bytes}
pub use Rattle.text_bounds.specs.BoundLaws.{AcceptedFits, TextsFit, CodeIsBounded}
pub use Rattle.text_bounds.specs.Rooms.{conversion_room, expression_room, read_room, write_room, locate_room, node_room, arguments_room, discarded_room, condition_room, initialiser_room, returned_room, all_declared_room, statement_room, statements_room, functions_room, address_room, put_initialiser_room, stacked_room, declared_at_room, declared_room, filter_room, cold_room}
pub use Rattle.text_bounds.specs.Weights.{Weights, optional, NodesAdd, StatementsAdd, FunctionsAdd}
