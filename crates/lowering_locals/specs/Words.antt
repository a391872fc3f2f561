-- The words of this crate's proofs: what its lemma files import, by the crates below.
pub use Rattle.seh_num.specs.Widths.{signed, low}
pub use Rattle.seh_num.specs.declared.event.Event.{Event}
pub use Rattle.seh_num.specs.declared.width.Width.TheVariants.{W32, W64}
pub use Rattle.c_operations.specs.Performed.{OperationResult, Gives, Raises, Undefined, performed}
pub use Rattle.c_operations.specs.declared.built_in.BuiltIn.{BuiltIn}
pub use Rattle.c_operations.specs.declared.built_in.BuiltIn.TheVariants.{Put, Protect, RaiseException, Walk, AddVectored, RemoveVectored}
pub use Rattle.c_operations.specs.declared.operation.Operation.{Operation}
pub use Rattle.c_checked.specs.Expression.{Expression, On, Node, Lvalue, Global, Stacked, Indirection, Element, Arguments, Done}
pub use Rattle.c_checked.specs.LocalScopes.{SeenNames, IsPart, is_base, with_local, with_declared, stacked_within, after_statement, expression_within, optional_within, node_within, lvalue_within, arguments_within, filter_within, after_all_declared, all_declared_within, first_seen, function_within, functions_within, IsScoped, after_declared, statement_within, statements_within, declared_within}
pub use Rattle.c_checked.specs.Sound.{Inside, statement_sound, funclets_in, funclets, filter_funclet, count_up, all_declared_sound, IsSound, function_sound, functions_sound, statements_sound, declared_sound}
pub use Rattle.c_checked.specs.declared.function.DataPart.{DataPart}
pub use Rattle.c_checked.specs.declared.statement.StackedVariable.{StackedVariable}
pub use Rattle.c_checked.specs.Statement.{Statement, Declare, Block, Evaluate, If, IfElse, For, DoWhile, Return, Break, Continue, Leave, TryExcept, TryFinally, Statements, Then, Filter, Always, Funclet, Declared, Empty}
pub use Rattle.source_meaning.specs.Expressions.{field_of, raised, of_test, no_exception}
pub use Rattle.source_meaning.specs.Raises.{noncontinuable, raise_event, handler_arguments}
pub use Rattle.source_meaning.specs.Source.{is_reserved}
pub use Rattle.source_meaning.specs.State.{Exception}
pub use Rattle.source_meaning.specs.declared.ended.Ended.TheVariants.{Deep}
pub use Rattle.linear_code.specs.Program.{LinearProgram, LinearFunction, LinearBody, LinearFunclet}
pub use Rattle.linear_code.specs.declared.instruction.Instruction.{Instruction}
pub use Rattle.linear_code.specs.declared.instruction.Instruction.TheVariants.{Jump, JumpIfZero, Separator, CallFinally}
pub use Rattle.linear_code.specs.declared.program.FuncletKind.{FuncletKind}
pub use Rattle.linear_code.specs.declared.program.Region.{Region}
pub use Rattle.linear_code.specs.declared.program.RegionKind.{RegionKind}
pub use Rattle.linear_code.specs.declared.slot.Slot.{Slot}
pub use Rattle.linear_code.specs.declared.slot.Slot.TheVariants.{Local, Temporary}
pub use Rattle.linear_machine.specs.Frames.{BodyName, FunctionBody, SameOperation, AfterCall, Waits, Configuration, Finished, read, with_temporary, with_temporaries, last_temporaries, set_local, at_label, forth, with_last, write, Frame, Seen, Next, deeper, body_of, FuncletBody, Handler, Target, Item, FilterOf, VectoredAt, Searches, Unwinds, funclet_body, function_body, Store, Stuck, Running, Resumption}
unfoldable pub use Rattle.linear_machine.specs.Frames.{pick, with_some}
pub use Rattle.linear_machine.specs.Instructions.{is_constant, operand, written, computed, tested, count_of, built_in, not_landed, act, begin_function, waiting, end_body, return, end_finally, end_funclet}
pub use Rattle.linear_machine.specs.Regions.{holds, regions_at, regions_left, handlers, regions_of, handlers_of, handlers_in, stops}
pub use Rattle.linear_machine.specs.Run.{instruction_at, instruction_in, start, main_arguments}
unfoldable pub use Rattle.linear_machine.specs.Run.{exec}
pub use Rattle.linear_machine.specs.Searching.{target_of, accept, consult, search, ask_vectored, ask_at, ask_from, raise, resumed, continued, answer, begin_filter, answered, vectored_answered}
pub use Rattle.linear_machine.specs.Unwinding.{flag_of, target_past, begin_finally, run_finally, arrive, left_store, leave_region, unwind_body, unwind}
pub use Rattle.lowering_sizes.specs.Sizes.{initialiser_size, stacked_size, declared_at_size, elements_notes, stacked_notes, declared_notes, statements_size, expression_size, returned_size, statement_size, address_count, locate_size, read_size, conversion_size, arguments_size, node_size, discarded_size, condition_size, all_declared_size, declared_size, statement_notes, statements_notes}
pub use Rattle.lowering_expressions.specs.Expressions.{expression_code, conversion_code, unary_code, choice_code, code_code, abnormal_code, read_code, write_code, stacked_code, locate_code, arguments_code, node_code, constant, copy}
pub use Rattle.lowering_expressions.specs.Scope.{filter_names, finally_names, unwound, except_names, finally_scope, in_loop, in_try, in_except, in_guarded}
pub use Rattle.lowering_expressions.specs.declared.scope.ExceptionSource.{ExceptionSource}
pub use Rattle.lowering_expressions.specs.declared.scope.ExceptionSource.TheVariants.{NoException, OfFilter, KeptIn}
pub use Rattle.lowering_expressions.specs.declared.scope.LoweringContext.{LoweringContext}
pub use Rattle.lowering_expressions.specs.declared.scope.Names.{Names}
pub use Rattle.lowering_expressions.specs.declared.scope.Way.{Way}
pub use Rattle.lowering_expressions.specs.declared.scope.Way.TheVariants.{Nowhere, Jumps}
pub use Rattle.seh_ir.specs.Funclets.{filter_funclets, finally_begin, finally_funclet, in_funclet, statement_funclets, statements_funclets}
pub use Rattle.seh_ir.specs.Regions.{except_kind, region, statements_regions, statement_regions}
pub use Rattle.seh_ir.specs.Statements.{returned_code, return_code, statement_code, statements_code, discarded_code, condition_code, all_declared_code, repeated, jump_code, leave_code, initialiser_code, put_code, put_initialiser_code, clearing, clear_code, stacked_declared_code, declared_at_code, declared_code, reset_code, landed}
pub use Rattle.seh_ir.specs.declared.funclets.Owner.{Owner}
pub use Rattle.lowering_invariants.specs.Activations.{AreActivations, HasActivations, owners_of, with_own, WorksOn, AreWorking}
pub use Rattle.lowering_invariants.specs.Bodies.{IsWhole, IsCallee, owner_of, function_of}
pub use Rattle.lowering_invariants.specs.Turns.{IsTurn, IsReached, Comes}
pub use Rattle.lowering_invariants.specs.Waiting.{IsStacked, IsAt, IsAbove, IsCalledBy, IsRunFor, IsRaisedIn, AreWaiting, IsAskable, CanBeAsked}
pub use Rattle.lowering_locals.specs.Alike.{AreAlike, GoAlike, AreActivationsAlike, IsSame, AreLocalsAlike}
pub use Rattle.lowering_locals.specs.Lives.{Marked, here, AreKept, AreCovered, IsRecorded, IsGiven, Before, Written, Passed, IsStep, IsHandler, IsTarget, AreRegions, AreHandlers, AreLeft, Flag, IsCovered}
pub use Rattle.lowering_locals.specs.Marks.{Marks, outcome_of, local_given, local_in, local_written, next_marks, begins_block, marks_of, set_mark, with_mark, first_marks, flag_set, activations_left, arguments_passed, function_of_body, begun_marks, marks_left}
pub use Rattle.lowering_locals.specs.Places.{statements_sets, set_in, statement_sets, filter_sets, finally_sets, statement_funclet_sets, statements_funclet_sets, all_declared_sets, parameters_seen, function_seen, open_sets, end_size, function_sets, all_funclet_sets, list_of, sets_of, stacked_sets, declared_at_sets, declared_sets, none_seen}
pub use Rattle.lowering_locals.specs.Reads.{start_marks, ComesMarked, IsSet, AreOperandsSet, ReadsSet, IsMarked, ReadsNoUnset}
pub use Rattle.lowering_locals.specs.Sets.{with_slot, IsLocalOf, locals_at, Leads, IsSetMap, OperandsIn, with_flag, function_locals, owner_locals, FinallyBegins, Guards, IsSetBody, ReadsIn}
pub use Rattle.lowering_locals.specs.UnsetLaws.{called, StepsAreAlike, CallsAreAlike, called_with, StartsAreAlike, MarkedIsReached, MarkedContinues, AlikeHasActivations, started_with}
