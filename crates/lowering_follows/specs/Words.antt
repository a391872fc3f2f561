-- The words of this crate's proofs: what its lemma files import, by the crates below.
pub use Rattle.seh_num.specs.Widths.{signed, low, wrapped, limit, half}
pub use Rattle.seh_num.specs.declared.width.Width.TheVariants.{W64, W32, W8, W16}
pub use Rattle.seh_num.specs.Widths.{bytes_of}
pub use Rattle.flat_memory.specs.Memory.{protected, rights_asked, Memory, pointer_of, with_pointer}
pub use Rattle.c_operations.specs.Numbers.{width, extended, result_of}
pub use Rattle.c_operations.specs.Performed.{performed, signed_part, OperationResult, before_last}
pub use Rattle.c_operations.specs.declared.built_in.BuiltIn.{BuiltIn}
pub use Rattle.c_operations.specs.declared.built_in.BuiltIn.TheVariants.{Put, Protect, RaiseException, Walk, AddVectored, RemoveVectored}
pub use Rattle.c_operations.specs.declared.field.Field.{Field}
pub use Rattle.c_operations.specs.declared.operation.Operation.{Operation}
pub use Rattle.c_operations.specs.declared.operation.Pure.{Pure}
pub use Rattle.c_operations.specs.declared.operation.Size.{Size}
pub use Rattle.c_operations.specs.declared.operation.Size.TheVariants.{Long, Int}
pub use Rattle.c_checked.specs.Expression.{Expression, Arguments, Done, Next, Lvalue, Global, Stacked, Indirection, Element, Local, Node, On}
pub use Rattle.c_checked.specs.Program.{DataFrame, Program, Function, surplus, frame_surplus, data_surplus}
pub use Rattle.c_checked.specs.declared.function.StackedParameter.{StackedParameter}
pub use Rattle.c_checked.specs.declared.statement.StackedVariable.{StackedVariable}
pub use Rattle.c_checked.specs.Sound.{count_up, are_sizes, funclets, function_sound, some_sizes, functions_sound, main_sound, TypingContext, is_number, size_after, unary_takes, takes, built_in_takes, constant_fits, amount_fits, change_fits, call_fits, is_pair_of_ints, can_handle, handler_fits, lvalue_size, argument_sizes, expression_sound, node_sound, lvalue_sound, arguments_sound, Inside, optional_sound, test_sound, value_fits, declared_sound, all_declared_sound, result_sound, filter_sound, statement_sound, statements_sound, funclets_in, filter_funclet, place_sound, stacked_sound, is_array_sound, parameters_sound, data_sound}
pub use Rattle.c_checked.specs.Statement.{Statement, Statements, Empty, Then, Declared, Filter, Declare, Block, Evaluate, If, IfElse, For, DoWhile, Break, Continue, Leave, TryExcept, TryFinally, Return, Always, Funclet}
pub use Rattle.c_checked.specs.declared.expression.Conversion.{Conversion}
pub use Rattle.c_checked.specs.declared.expression.Conversion.TheVariants.{Kept, Extend, Scale}
pub use Rattle.source_meaning.specs.Expressions.{no_exception, of_test, all, enter, raised, each, call_built_in, converted, operate, read, write, incremented_value, field_of, locate, value_width, value_of, tried, load, apart, stacked_address}
unfoldable pub use Rattle.source_meaning.specs.Expressions.{ended_call}
pub use Rattle.source_meaning.specs.DataStack.{allocate, bring, open_frame, close_part, reset_pointer, reset_pointer_if, point_above, put}
unfoldable pub use Rattle.source_meaning.specs.DataStack.{given, close, clear}
pub use Rattle.source_meaning.specs.Laws.{IsPrefixOf}
pub use Rattle.source_meaning.specs.Meaning.{within, perform, does, for_parameters, outside, ran, shows, meaning}
pub use Rattle.source_meaning.specs.Raises.{raise_event, noncontinuable, handler_arguments}
pub use Rattle.source_meaning.specs.Source.{is_reserved, first_memory}
pub use Rattle.source_meaning.specs.State.{State, Outcome, Normal, Target, Gives, emit, hold, let_go, Value, Broke, Continued, Exception, Returned, set_memory, set_vectored, LeftTry, End, Result, with_activation, with_outermost, hold_surplus, let_go_surplus, count_steps}
unfoldable pub use Rattle.source_meaning.specs.State.{with_value, and_then, choose}
pub use Rattle.source_meaning.specs.Statements.{optional, declare, declare_at, declare_stacked, declare_each, statement, for_iteration, do_iteration}
unfoldable pub use Rattle.source_meaning.specs.Statements.{landing, finally_after}
pub use Rattle.source_meaning.specs.Tasks.{Context, DataPart, part_of, Eval, Run, ForIteration, DoIteration, TryBody, RunFinally, Handler, Raise, AskVectored, Locate, Retry, RunFilter, Does}
pub use Rattle.linear_code.specs.Program.{LinearProgram, LinearFunction, LinearFunclet, LinearBody}
pub use Rattle.linear_code.specs.declared.instruction.Instruction.{Instruction}
pub use Rattle.linear_code.specs.declared.instruction.Instruction.TheVariants.{Compute, Separator, LocalUnwind, JumpIfZero, Call, CallBuiltIn, CallFinally, Information, Jump, Landing}
pub use Rattle.linear_code.specs.declared.program.Region.{Region}
pub use Rattle.linear_code.specs.declared.slot.Slot.TheVariants.{Temporary}
pub use Rattle.linear_machine.specs.Frames.{deeper, BodyName, FuncletBody, body_of, Item, Store, Configuration, Seen, set_local, local_of, Waits, AfterCall, last_temporaries, with_temporary, Finished, Unwinds, FunctionBody, SameOperation, function_body, Resumption, FilterOf, VectoredAt, Searches, funclet_body, with_temporaries, forth, Running, Stuck, with_function, functions_in}
unfoldable pub use Rattle.linear_machine.specs.Frames.{pick, with_some}
pub use Rattle.linear_machine.specs.Instructions.{end_finally, end_body, end_funclet, count_of, begin_function, waiting, return, built_in, is_constant, computed, operand}
pub use Rattle.linear_machine.specs.Regions.{holds, leads_to, stops, handlers_in, handlers, regions_at, regions_of, handlers_of}
pub use Rattle.linear_machine.specs.Run.{instruction_in, main_arguments, start, seen, shown}
unfoldable pub use Rattle.linear_machine.specs.Run.{exec}
pub use Rattle.linear_machine.specs.Searching.{begin_filter, ask_vectored, ask_at, ask_from, raise, target_of, resumed, continued, vectored_answered, answered, accept, consult, search}
pub use Rattle.linear_machine.specs.Unwinding.{begin_finally, unwind_body, arrive, leave_region, target_past, unwind, flag_in, flag_of, run_finally, left_store}
pub use Rattle.lowering_sizes.specs.Sizes.{expression_size, statement_size, statements_size, statement_notes, statements_notes, discarded_size, declared_size, all_declared_size, returned_size, condition_size, arguments_size, address_count, read_size, conversion_size, locate_size, node_size, unary_size, address_size, initialiser_size, stacked_size, declared_at_size, elements_notes, stacked_notes, declared_notes}
pub use Rattle.lowering_expressions.specs.Expressions.{expression_code, copy, node_code, argument_count, arguments_code, constant, combine, conversion_code, read_code, write_code, locate_code, chosen_of, code_code, abnormal_code, unary_code, address_code, choice_code, size_of, load_code, stacked_code}
pub use Rattle.lowering_expressions.specs.Scope.{finally_names, finally_scope, except_names, in_try, in_except, in_guarded, filter_names, unwound, in_loop}
pub use Rattle.lowering_expressions.specs.declared.scope.ExceptionSource.{ExceptionSource}
pub use Rattle.lowering_expressions.specs.declared.scope.ExceptionSource.TheVariants.{OfFilter, NoException, KeptIn}
pub use Rattle.lowering_expressions.specs.declared.scope.LoweringContext.{LoweringContext}
pub use Rattle.lowering_expressions.specs.declared.scope.Names.{Names}
pub use Rattle.lowering_expressions.specs.declared.scope.Way.TheVariants.{Nowhere, Jumps}
pub use Rattle.seh_ir.specs.Funclets.{statements_funclets, filter_funclets, finally_funclet, finally_begin, in_funclet, statement_funclets}
pub use Rattle.seh_ir.specs.Lowered.{own_locals, asking, first_separators, first_count, bring_code, open_code, open_size, close_code, body_start, scope_of, all_locals, lowered_function, lowered_funclets, all_funclets, lowered}
pub use Rattle.seh_ir.specs.Regions.{except_kind, region, statements_regions, statement_regions}
pub use Rattle.seh_ir.specs.Statements.{jump_code, return_code, leave_code, discarded_code, statements_code, returned_code, condition_code, declared_code, all_declared_code, landed, repeated, statement_code, put_code, put_initialiser_code, clear_code, stacked_declared_code, declared_at_code, initialiser_code, set_pointer, reset_code}
pub use Rattle.seh_ir.specs.declared.funclets.Owner.{Owner}
pub use Rattle.lowering_follows.specs.Fits.{ExpressionFits, NodeFits, ArgumentsFit, LvalueFits, IsCalled, IsVectoredHandler, BuiltInFits, IsStackedPlace}
pub use Rattle.lowering_follows.specs.Places.{HasAt}
pub use Rattle.lowering_follows.specs.StatementPlaces.{FunctionPlaced, Placed, AllPlaced, ForPlaced, DoPlaced, FinallyPlaced, for_end, do_end, HasFunclet, IsWay, IsPlace, OptionalFits, DeclaredPlaced, AllDeclaredPlaced, FilterPlaced, ElementsFit, StackedFits, ParametersFit, FrameFits}
pub use Rattle.lowering_follows.specs.Weights.{expression_weight, lvalue_weight, optional_weight, statement_weight, statements_weight, declared_weight, all_declared_weight, node_weight, arguments_weight, filter_weight}
