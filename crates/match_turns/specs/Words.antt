-- The words of this crate's proofs: what its lemma files import, by the crates below.
pub use Rattle.seh_num.specs.Widths.{signed, low, half, limit, bytes_of}
pub use Rattle.seh_num.specs.declared.event.Code.{Code}
pub use Rattle.seh_num.specs.declared.event.Event.{Event}
pub use Rattle.seh_num.specs.declared.width.Width.TheVariants.{W64, W32}
pub use Rattle.host_layout.specs.Services.{address_of, service_at, in_host_page}
pub use Rattle.host_layout.specs.declared.range.TheConstants.{ARENA_START, ARENA_END, STACK_START, STACK_END, IMAGE_BASE, IMAGE_RANGE_END}
pub use Rattle.flat_memory.specs.Memory.{Memory, may_write, rights_asked, protected, with_rights, loaded, with_bytes, may_read, access}
unfoldable pub use Rattle.flat_memory.specs.Memory.{number_at, with_number, executable, first_refused}
pub use Rattle.flat_memory.specs.Protections.{is_writable, rights_numbered}
pub use Rattle.flat_memory.specs.declared.access.RefusedAccess.{RefusedAccess}
pub use Rattle.flat_memory.specs.declared.protection.Protection.{Protection}
pub use Rattle.c_operations.specs.Performed.{Raises, Gives, OperationResult, performed, Undefined}
pub use Rattle.c_operations.specs.declared.built_in.BuiltIn.{BuiltIn}
pub use Rattle.c_operations.specs.declared.built_in.BuiltIn.TheVariants.{Put, Protect, RaiseException, Walk, AddVectored, RemoveVectored}
pub use Rattle.c_operations.specs.declared.field.Field.{Field}
pub use Rattle.c_operations.specs.declared.field.Field.TheVariants.{ExceptionCode, ExceptionFlags, NumberParameters, ExceptionInformation}
pub use Rattle.c_operations.specs.declared.operation.Operation.{Operation}
pub use Rattle.source_meaning.specs.Expressions.{field_of, of_test, no_exception, parameter_of}
pub use Rattle.source_meaning.specs.Raises.{noncontinuable, raise_event}
pub use Rattle.source_meaning.specs.Source.{is_reserved, is_hidden}
pub use Rattle.source_meaning.specs.State.{Exception}
pub use Rattle.source_meaning.specs.declared.ended.Ended.TheVariants.{Deep}
pub use Rattle.linear_code.specs.BodyState.{BodyState, with_slot, Counts}
pub use Rattle.linear_code.specs.Meaning.{IsSlot, HasSlots}
pub use Rattle.linear_code.specs.Program.{LinearFunction, LinearProgram, LinearFunclet, LinearBody, weight, depth_weight}
pub use Rattle.linear_code.specs.declared.instruction.Instruction.{Instruction}
pub use Rattle.linear_code.specs.declared.program.FuncletKind.{FuncletKind}
pub use Rattle.linear_code.specs.declared.program.Region.{Region}
pub use Rattle.linear_code.specs.declared.program.RegionKind.{RegionKind}
pub use Rattle.linear_code.specs.declared.slot.Slot.{Slot}
pub use Rattle.linear_code.specs.declared.slot.Slot.TheVariants.{Local, Temporary}
pub use Rattle.linear_machine.specs.BuiltInCalls.{CallsBuiltIn}
pub use Rattle.linear_machine.specs.Frames.{Configuration, AfterCall, SameOperation, Asked, FilterOf, VectoredAt, read, BodyName, FunctionBody, FuncletBody, body_of, Frame, Item, Waits, Searches, Unwinds, with_last, Next, deeper, last_temporaries, function_body, weight_of, Finished, local_of, Seen, Handler, Target, Resumption, Store, funclet_body, forth, set_local, Running, Stuck}
unfoldable pub use Rattle.linear_machine.specs.Frames.{with_some, pick}
pub use Rattle.linear_machine.specs.Instructions.{waiting, begin_function, act, end_finally, local_unwind, end_funclet, end_body, return, written, is_constant, operand, computed, count_of, built_in}
pub use Rattle.linear_machine.specs.Regions.{regions_of, holds, handlers, regions_at, regions_left, stops}
pub use Rattle.linear_machine.specs.Run.{instruction_at, instruction_in}
unfoldable pub use Rattle.linear_machine.specs.Run.{exec}
pub use Rattle.linear_machine.specs.Searching.{search, accept, continued, resumed, raise, answer, begin_filter, target_of}
pub use Rattle.linear_machine.specs.Unwinding.{unwind, flag_of, begin_finally, flag_in, left_store, arrive, target_past, leave_region, unwind_body}
pub use Rattle.lowering_invariants.specs.Activations.{with_own, owners_of, AreWorking, IsActivationOf, AreActivations}
pub use Rattle.lowering_invariants.specs.Bodies.{function_of, IsInstructionOf, IsCallee, parent_of, owner_of, IsFinallyKind, IsFuncletOf, IsFilterKind, IsKindOf, IsTemporary, ReadsWell}
pub use Rattle.lowering_invariants.specs.Ready.{IsHeld, IsNextSlot, IsReady}
pub use Rattle.lowering_invariants.specs.ReturnRegions.{AllReturnsStayInRegions}
pub use Rattle.lowering_invariants.specs.Room.{HaveRoom, PassesWell}
pub use Rattle.lowering_invariants.specs.SmallNumbers.{IsSmallAccess}
pub use Rattle.lowering_invariants.specs.Waiting.{AreWaiting, MayWait, IsCalledBy, Handles, IsHandler, IsAt, IsBlockOf, LandsWell}
pub use Rattle.x64_instr.specs.Spelling.{leading}
pub use Rattle.x64_instr.specs.declared.instruction.Instr.{Instr}
pub use Rattle.x64_instr.specs.declared.register.Reg.TheVariants.{Rsp, Rax, Rdx, Rbx, Rbp, Rsi, Rdi, R12, R13, R14, R15, Rcx}
pub use Rattle.x64_encode.specs.Chosen.{is_encodable, chosen}
unfoldable pub use Rattle.x64_encode.specs.Chosen.{opcode_register, modrm}
pub use Rattle.x64_machine.specs.Contexts.{context_of, kept_of}
pub use Rattle.x64_machine.specs.Effect.{State, register, effect, Answer, load, hosted, execute}
unfoldable pub use Rattle.x64_machine.specs.Effect.{step}
pub use Rattle.x64_machine.specs.declared.context.Context.{Context}
pub use Rattle.x64_machine.specs.declared.cpu.Cpu.{Cpu}
pub use Rattle.x64_machine.specs.declared.cpu.Flags.{Flags}
pub use Rattle.template_code.specs.Bytes.{sizes, spelled}
unfoldable pub use Rattle.template_code.specs.Bytes.{size}
pub use Rattle.template_code.specs.Calls.{return_code, return_at, begin_call, call_code, clear_result, call_built_in_code, arguments_code, passing_code, parameters_code, passing_call_code, keep_register, information_code, field_at, finally_arguments, keep_parents_base, stack_parameter, parameter_code, address_to, local_unwind_code}
pub use Rattle.template_code.specs.Jumps.{IsNear, call}
pub use Rattle.template_code.specs.Operations.{move, work, before}
pub use Rattle.template_code.specs.Probing.{check_stack}
pub use Rattle.template_code.specs.Slots.{fetch, local_at, fetch_local, keep, put_back, temporary_at, fetched, operands_code, finish_code, keep_local}
pub use Rattle.template_code.specs.Template.{template, body_size, offset_of, code_from}
unfoldable pub use Rattle.template_code.specs.Template.{template_size}
pub use Rattle.template_code.specs.declared.layout.Layout.{Layout}
pub use Rattle.template_code.specs.declared.layout.TheConstants.{FRAME_BY_WEIGHT, MOST_WEIGHT}
pub use Rattle.x64_templates.specs.CallStates.{HasBack, with_sp, moved, sp_of, with_four, pushed, HasBelow}
pub use Rattle.x64_templates.specs.EntryStates.{InRegisters, with_arguments, OnStack, IsFunctionFrame, body_in_memory, FreshFrame}
pub use Rattle.x64_templates.specs.Exceptions.{IsField, field_width, MayRead}
pub use Rattle.x64_templates.specs.Frames.{Agrees, number_placed, slot_at, IsBytes, MemoryKeepsBase, HasBase, InTemporaries, InLocals, KeepsReserved, SlotsHaveRoom}
pub use Rattle.x64_templates.specs.Returned.{Returned, CallBegun}
pub use Rattle.x64_templates.specs.Runs.{HasCode, FramePlace, Roomy, FrameHolds, ReachesBody, IsThere, Enters, Steps}
pub use Rattle.x64_templates.specs.Straight.{OtherRegisters, registers_of, MachineView, machine, Executes, takes_frame, AreSmall}
pub use Rattle.virtual_unwind.specs.CallerOf.{Functions, distance}
pub use Rattle.virtual_unwind.specs.Contexts.{get, rsp}
pub use Rattle.virtual_unwind.specs.Undone.{readable}
pub use Rattle.seh_records.specs.Laws.{AllSmall, RecordFits}
pub use Rattle.seh_records.specs.Record.{return_address_at, place_below, if_readable, if_marked, of_kind, kind_of, recorded, mark, word}
unfoldable pub use Rattle.seh_records.specs.Record.{placed, misplaced}
pub use Rattle.seh_records.specs.declared.dispatch.DispatchRecord.{DispatchRecord}
pub use Rattle.seh_walk.specs.Walk.{filter_return, finally_return, vectored_return, steps}
pub use Rattle.host_model.specs.Dispatch.{asks_on, searching, accepted, searches_on, unwinds_on, finally_returned, eax, again, restored, if_unwinding, raised, unwound_locally, place_of, new_record, to_target, at_landing, write_number, parameters, no_flags, count, accepting}
pub use Rattle.host_model.specs.Funclets.{arrivals, arrived, by_kind}
pub use Rattle.host_model.specs.HostStep.{back, returned, turned, answer_number, protecting}
unfoldable pub use Rattle.host_model.specs.HostStep.{turn}
pub use Rattle.host_model.specs.Turns.{Turn, Continues, with_event, Ends}
pub use Rattle.host_model.specs.declared.funclet.Funclet.{Funclet}
pub use Rattle.match_runs.specs.Comes.{LeadsTo, IsLive, Comes}
pub use Rattle.match_runs.specs.Ends.{HasRule}
pub use Rattle.match_runs.specs.Matched.{IsMatched, Fails, Moves, Exits}
pub use Rattle.match_runs.specs.Shadow.{AllKeep, KeepsShadow, WalkGives, drop_below, GivesCallers, caller_at, is_call, started, served}
pub use Rattle.match_stack.specs.DispatchStates.{IsWellFormed, Arrives, host_list}
pub use Rattle.match_stack.specs.AskLaws.{HandlersAreSmall, IsAsking, HandlerBegins, SearchFollows}
pub use Rattle.match_stack.specs.VectoredReturns.{vectored_turn, at_next, linear_vectored, HandlerHasAnswered, AsksOn, ContinuesSaved, AsksAnew}
pub use Rattle.match_stack.specs.DispatchSteps.{placed_in, SearchIsAnswered, AnswersAs, from_body, AsksHost, IsException}
pub use Rattle.match_stack.specs.FilterReturns.{filter_turn, linear_answer, with_answer, answered, AsksTheNext, AskedTakesOver, ContinuesException, IsRaisedAnew}
pub use Rattle.match_stack.specs.HostUnwind.{on_top, store_of}
pub use Rattle.match_stack.specs.ImagePlan.{ImagePlan, InCode, parent_body, IsFunclet, by_parent}
pub use Rattle.match_stack.specs.ItemMatches.{activations_below, BodyWaits, temporaries_end, home_end, below_end, HoldsWords, HoldsPlaces, HasActivation, HasSpace, SameRegions, HasPointers, FuncletIsAbove, IsAbove, return_of, ReturnsTo, Activation, locals_of, record_room, Linked, Aimed, IsActivation, KeepsPointers, Leads, Reaches, FunctionIsAbove, AimedHere, HasException, ResumesFrom, leaf_values}
pub use Rattle.match_stack.specs.ListLaws.{KeepsStack, KeepsAbove, IsLinkedStack}
pub use Rattle.match_stack.specs.PlainWalks.{state}
pub use Rattle.match_stack.specs.SearchOutcomes.{FilterBegins}
pub use Rattle.match_stack.specs.Stack.{answer_return, StackItem, Unwinding, Searching, Framed, Leaf, IsStack, after_frame, StackFrame}
pub use Rattle.match_stack.specs.StackRecords.{On, IsData, RecordHasRoom, IsUntouched}
pub use Rattle.match_stack.specs.TurnLaws.{IsUnwinding, IsSearching}
pub use Rattle.match_stack.specs.UnwindOutcomes.{Unwound, BlockBegins, LandsThere, landing_value, landing_events}
pub use Rattle.match_stack.specs.WalkLaws.{context_below}
pub use Rattle.match_bodies.specs.Bodies.{slots_end, last_temporary, turns_left, held_below}
pub use Rattle.match_bodies.specs.BodyViews.{counts_of, seen_by_templates, arrived_in, frame_at, state_of, IsReached}
pub use Rattle.match_bodies.specs.Callers.{FindsReturn, FindsOwed, Owed, nothing_owed, owed_by, owed_of, callers, caller_above}
pub use Rattle.match_bodies.specs.CodeSites.{Sites, links_of, function_arguments, parent_base, keep_argument, begin_of, making_size, frame_code, entry_code, funclet_arguments, keep_base}
pub use Rattle.match_bodies.specs.ConfigurationFacts.{IsListable, AreListable, IsWellMade, IsKnown, KnownNext}
pub use Rattle.match_bodies.specs.Layouts.{IsLayoutIf, IsFuncletPlan, IsFunctionLayout, IsLeafLayout, IsLaidOut, IsFuncletLayout}
pub use Rattle.match_bodies.specs.LocalRegisters.{now_of, RegistersHold}
pub use Rattle.match_bodies.specs.ProgramImages.{frame_of, stub_code, host_service_of, WorksAgain, IsProgramImage, is_finally, view_of, ReturnsThere}
pub use Rattle.match_bodies.specs.Setting.{Setting, IsMachineMemory, RepresentsAt, InBody, IsResumed, setting_of, HasProgram}
pub use Rattle.match_bodies.specs.SlotStores.{KeepsStackBut, OwnerHasFrame, with_values}
pub use Rattle.match_bodies.specs.StepLaws.{turns_per_step}
pub use Rattle.match_turns.specs.CallOutcome.{begun, FunctionsApart}
pub use Rattle.match_turns.specs.DispatchOutcome.{LiveCallers, live_from, KeepsWith, with_events, EndsRun, NoneLanded}
pub use Rattle.match_turns.specs.FaultLaws.{UndefinedAccessesAreMatched, fetch_turns, OperandsAreFetched, RetriesAreMatched, ContinuationsAtOperations, OperationsAreMatched}
pub use Rattle.match_turns.specs.FilterInformation.{IsFilterBody}
pub use Rattle.match_turns.specs.FuncletEntry.{entry_turns, FlagsFit, FiltersBegin, SeparatorsFollow, BlocksBegin}
pub use Rattle.match_turns.specs.OperationOutcome.{ComesTo}
pub use Rattle.match_turns.specs.RaiseLaws.{BodiesContinue, LocalUnwindsAreMatched, RaisesAreMatched, ContinuationsAfterCalls}
pub use Rattle.match_turns.specs.SettingOutcome.{CallBegins, Continuations, Outcome, Shows, ShowsOrAsks, OutcomeOrAsks, EntersHandler, IsTakenWithin, IsMatchedOrAsks, Represents, WalkContinues, WorksOn, EntersFunclet, ContinuesAs}
pub use Rattle.match_turns.specs.TurnLaws.{waiting_below, below_handler}
pub use Rattle.match_turns.specs.AskOutcome.{turns_to_handler}
pub use Rattle.template_code.specs.declared.layout.Place.{Place}
pub use Rattle.template_code.specs.declared.layout.Place.TheVariants.{InRegister, InFrame, Arriving}
pub use Rattle.template_code.specs.Slots.{fetch_placed, keep_placed}
pub use Rattle.template_code.specs.Calls.{parameter_placed}
pub use Rattle.x64_templates.specs.Locals.{local_in}
pub use Rattle.x64_templates.specs.Straight.{LocalRegisters, local_registers}
pub use Rattle.template_code.specs.Places.{parameter_register}
pub use Rattle.x64_templates.specs.InstructionRuns.{IsSpare}
