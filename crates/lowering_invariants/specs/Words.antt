-- The words of this crate's proofs: what its lemma files import, by the crates below.
pub use Rattle.seh_num.specs.Widths.{low, signed, wrapped, limit, bytes_of}
pub use Rattle.seh_num.specs.declared.event.Event.{Event}
pub use Rattle.seh_num.specs.declared.width.Width.{Width}
pub use Rattle.seh_num.specs.declared.width.Width.TheVariants.{W32, W64, W8, W16}
pub use Rattle.flat_memory.specs.Memory.{Memory, next, may_read, may_write, with_bytes}
unfoldable pub use Rattle.flat_memory.specs.Memory.{first_refused, number_at, with_number}
pub use Rattle.c_operations.specs.Performed.{performed, OperationResult, Gives, Raises, Undefined, fault_of, signed_part, unsigned_part, unless_reserved, unless_refused, accessed}
pub use Rattle.c_operations.specs.declared.built_in.BuiltIn.{BuiltIn}
pub use Rattle.c_operations.specs.declared.built_in.BuiltIn.TheVariants.{Put, Protect, RaiseException, Walk, AddVectored, RemoveVectored}
pub use Rattle.c_operations.specs.declared.field.Field.{Field}
pub use Rattle.c_operations.specs.declared.operation.Operation.{Operation}
pub use Rattle.c_operations.specs.declared.operation.Pure.{Pure}
pub use Rattle.c_operations.specs.declared.operation.Signedness.TheVariants.{Signed, Unsigned}
pub use Rattle.c_operations.specs.declared.operation.Size.TheVariants.{Long}
pub use Rattle.c_checked.specs.Expression.{Expression, On, Node, Lvalue, Global, Stacked, Indirection, Element, Arguments, Done}
pub use Rattle.c_checked.specs.Program.{Program, Function, surplus, weight}
pub use Rattle.c_checked.specs.Sound.{funclets, functions_sound, IsSound, count_up, function_sound, main_sound, Inside, funclets_in, optional_sound, test_sound, value_fits, declared_sound, all_declared_sound, result_sound, filter_sound, expression_sound, statement_sound, statements_sound}
pub use Rattle.c_checked.specs.Statement.{Statements, Declared, Filter, Always, Funclet, Statement, Declare, Block, Evaluate, If, IfElse, For, DoWhile, Return, Break, Continue, Leave, TryExcept, TryFinally, Empty, Then}
pub use Rattle.c_checked.specs.declared.expression.Access.{Access}
pub use Rattle.c_checked.specs.declared.expression.Conversion.{Conversion}
pub use Rattle.c_checked.specs.declared.expression.Conversion.TheVariants.{Kept, Extend, Scale}
pub use Rattle.source_meaning.specs.Expressions.{field_of, of_test, parameter_of, raised}
pub use Rattle.source_meaning.specs.Raises.{noncontinuable, raise_event, handler_arguments}
pub use Rattle.source_meaning.specs.Source.{is_reserved}
pub use Rattle.source_meaning.specs.State.{Exception}
pub use Rattle.source_meaning.specs.declared.ended.Ended.TheVariants.{Deep}
pub use Rattle.linear_code.specs.Program.{LinearProgram, LinearBody, LinearFunction, LinearFunclet}
pub use Rattle.linear_code.specs.declared.instruction.Instruction.{Instruction}
pub use Rattle.linear_code.specs.declared.instruction.Instruction.TheVariants.{JumpIfZero, Separator, Jump, LocalUnwind, CallFinally}
pub use Rattle.linear_code.specs.declared.program.FuncletKind.{FuncletKind}
pub use Rattle.linear_code.specs.declared.program.Region.{Region}
pub use Rattle.linear_code.specs.declared.program.RegionKind.{RegionKind}
pub use Rattle.linear_code.specs.declared.slot.Slot.{Slot}
pub use Rattle.linear_code.specs.declared.slot.Slot.TheVariants.{Local, Temporary}
pub use Rattle.linear_machine.specs.Frames.{BodyName, FunctionBody, FuncletBody, Frame, Handler, Item, Waits, Searches, Unwinds, Store, Configuration, last_temporaries, function_body, funclet_body, body_of, Seen, Running, Finished, Stuck, Next, deeper, read, write, with_temporary, with_temporaries, at_label, forth, Target, Resumption, AfterCall, SameOperation, Asked, FilterOf, VectoredAt, set_local, with_last}
unfoldable pub use Rattle.linear_machine.specs.Frames.{pick, with_some}
pub use Rattle.linear_machine.specs.Instructions.{count_of, is_constant, operand, written, computed, tested, waiting, built_in, end_body, not_landed, act, return, end_finally, end_funclet, begin_function}
pub use Rattle.linear_machine.specs.Regions.{holds, regions_at, regions_left, handlers, regions_of, handlers_of, handlers_in, stops}
pub use Rattle.linear_machine.specs.Run.{instruction_at, start, main_arguments, instruction_in}
unfoldable pub use Rattle.linear_machine.specs.Run.{exec}
pub use Rattle.linear_machine.specs.Searching.{target_of, accept, consult, search, ask_at, ask_from, raise, resumed, continued, answer}
pub use Rattle.linear_machine.specs.Unwinding.{left_store, flag_of, target_past, run_finally, arrive, leave_region, unwind_body, unwind}
pub use Rattle.lowering_sizes.specs.Sizes.{statements_notes, address_count, locate_size, read_size, conversion_size, expression_size, statements_size, discarded_size, condition_size, declared_size, all_declared_size, statement_size}
pub use Rattle.lowering_expressions.specs.Expressions.{constant, code_code, expression_code, copy, combine, conversion_code, unary_code, choice_code, abnormal_code, read_code, write_code, address_code, locate_code, arguments_code, node_code, change, load_code, chosen_of, store_code, size_of, argument_count}
pub use Rattle.lowering_expressions.specs.Scope.{finally_scope, except_names, filter_names, finally_names, in_loop, in_try, in_except, in_guarded}
pub use Rattle.lowering_expressions.specs.declared.scope.ExceptionSource.{ExceptionSource}
pub use Rattle.lowering_expressions.specs.declared.scope.ExceptionSource.TheVariants.{NoException, OfFilter, KeptIn}
pub use Rattle.lowering_expressions.specs.declared.scope.LoweringContext.{LoweringContext}
pub use Rattle.lowering_expressions.specs.declared.scope.Names.{Names}
pub use Rattle.lowering_expressions.specs.declared.scope.Way.{Way}
pub use Rattle.lowering_expressions.specs.declared.scope.Way.TheVariants.{Nowhere, Jumps}
pub use Rattle.seh_ir.specs.Funclets.{finally_funclet, filter_funclet, filter_funclets, in_funclet, statement_funclets, statements_funclets}
pub use Rattle.seh_ir.specs.Lowered.{own_locals, all_locals, asking, first_separators, scope_of, lowered_function, lowered_funclets, all_funclets, lowered}
pub use Rattle.seh_ir.specs.ColdParts.{statement_cold, statements_cold}
pub use Rattle.seh_ir.specs.Regions.{statements_regions, except_kind, region, statement_regions}
pub use Rattle.seh_ir.specs.Slots.{instruction_temporaries, instruction_passes, temporaries_in, passed_in, body_with, slot_temporaries}
pub use Rattle.seh_ir.specs.Statements.{statements_code, return_code, returned_code, repeated, jump_code, leave_code, discarded_code, condition_code, initialiser_code, declared_code, all_declared_code, landed, statement_code}
pub use Rattle.seh_ir.specs.declared.funclets.Owner.{Owner}
pub use Rattle.lowering_follows.specs.Fits.{ExpressionFits, IsCalled, IsVectoredHandler, BuiltInFits, LvalueFits, ArgumentsFit, NodeFits}
pub use Rattle.lowering_invariants.specs.Activations.{with_own, owners_of, WorksOn, AreWorking, IsActivationOf, AreActivations, HasActivations}
pub use Rattle.lowering_invariants.specs.Blind.{IsBlind, IsFilterBody}
pub use Rattle.lowering_invariants.specs.BlockSeparators.{runs_blocks, IsFollowed}
pub use Rattle.lowering_invariants.specs.Bodies.{function_of, owner_of, IsFuncletOf, IsKindOf, IsFilterKind, IsCallee, IsVectoredCallee, IsInstructionOf, ReadsWell, IsBodyOf, AreBodies, IsLanding, IsRegionOf, IsFinallyKind, IsWhole, parent_of}
pub use Rattle.lowering_invariants.specs.Depths.{after, depth_at, with_written, with_tested, depths, depth_in, taken, depth, WaitsDeep, AreDeep, HasDepths}
pub use Rattle.lowering_invariants.specs.Nesting.{expression_nesting, expression_reads, parameters_for, lvalue_nesting, arguments_nesting, node_nesting, lvalue_reads, arguments_read, node_reads, most_of_optional, most_of_declared, most_of_filter, most_of_statement, most_of, AreShallow, IsShallow}
pub use Rattle.lowering_invariants.specs.PlaceLaws.{LoweredHasSeparators, LoweredInformsFilters, LoweredIsFollowed, LoweredHasSameRegions, LoweredHasFlags, LoweredStaysInside}
pub use Rattle.lowering_invariants.specs.Separators.{IsInside, BeginsApart, HasBlock, LandsInside, HasLanding, is_target, HoldsStrictly, LeadsForth, HasSeparators}
pub use Rattle.lowering_invariants.specs.Slots.{HasFlag, IsPlain, IsField, IsSmallBody, IsSmallFunclet, HasParent, IsSmallFunction, IsAmong}
pub use Rattle.lowering_invariants.specs.SmallNumbers.{IsSmallAccess, AreSmall, IsSmallException, IsSmallCode, IsSmallFrame, IsSmallPlace, AreSmallItems, HasSmallNumbers}
pub use Rattle.lowering_invariants.specs.Turns.{IsTurn, Comes, IsReached}
pub use Rattle.lowering_invariants.specs.TypeLaws.{LoweredIsWhole, ReachedIsStacked, ReachedHasActivations, ReachedIsSmall, ReachedHasDepths, ReachedContinues, LoweredIsApart, LoweredHasRoom, SeenAlikeIsSame}
pub use Rattle.lowering_invariants.specs.Waiting.{Handles, IsHandler, AreWaiting, IsAskable, CanBeAsked, LandsAt, IsTarget, AreHandlers, AreLeft, MayWait, IsStacked, IsAbove, IsRaisedIn, IsAt, IsCalledBy, IsRunFor, LandsWell}
