-- The words of this crate's proofs: what its lemma files import, by the crates below.
pub use Rattle.seh_num.specs.declared.event.Event.{Event}
pub use Rattle.seh_num.specs.declared.width.Width.{Width}
pub use Rattle.seh_num.specs.declared.width.Width.TheVariants.{W32, W64, W8}
pub use Rattle.host_layout.specs.Services.{address_of}
pub use Rattle.host_layout.specs.declared.range.TheConstants.{STACK_END, STACK_START, IMAGE_BASE, IMAGE_RANGE_END, DATA_STACK_START, FIRST_DATA_STACK}
pub use Rattle.host_layout.specs.declared.service.Service.{Service}
pub use Rattle.flat_memory.specs.Memory.{Memory, may_write, with_bytes, may_read, access, loaded, stored, unless_refused, after_store}
unfoldable pub use Rattle.flat_memory.specs.Memory.{executable, first_refused, number_at, with_number}
pub use Rattle.flat_memory.specs.Protections.{is_writable, is_readable}
pub use Rattle.flat_memory.specs.declared.protection.Protection.{Protection}
pub use Rattle.c_operations.specs.declared.built_in.BuiltIn.{BuiltIn}
pub use Rattle.c_operations.specs.Performed.{Gives, performed, OperationResult}
pub use Rattle.c_operations.specs.declared.operation.Operation.{Operation}
pub use Rattle.source_meaning.specs.Source.{is_between, is_data, is_reserved, is_hidden}
pub use Rattle.linear_code.specs.BodyState.{BodyState, with_slot, Counts}
pub use Rattle.linear_code.specs.Meaning.{IsSlot, kept, JumpsTo, HasSlots, step}
pub use Rattle.linear_code.specs.Program.{LinearProgram, LinearBody, LinearFunclet, LinearFunction}
pub use Rattle.linear_code.specs.declared.instruction.Instruction.{Instruction}
pub use Rattle.linear_code.specs.declared.program.Region.{Region}
pub use Rattle.linear_code.specs.declared.slot.Slot.{Slot}
pub use Rattle.linear_code.specs.declared.slot.Slot.TheVariants.{Local, Temporary}
pub use Rattle.linear_machine.specs.Frames.{BodyName, FunctionBody, FuncletBody, Asked, FilterOf, VectoredAt, Item, Waits, Searches, Unwinds, Store, body_of, weight_of, Frame, Configuration, Next, read, with_temporaries, forth, local_of, at_label, with_last, funclet_body}
unfoldable pub use Rattle.linear_machine.specs.Frames.{with_some, pick}
pub use Rattle.linear_machine.specs.Instructions.{is_constant, operand, act, written, computed, not_landed, tested}
pub use Rattle.linear_machine.specs.Regions.{holds, regions_of}
pub use Rattle.linear_machine.specs.Run.{instruction_at, instruction_in}
unfoldable pub use Rattle.linear_machine.specs.Run.{exec}
pub use Rattle.lowering_invariants.specs.Ready.{IsNextSlot, IsHeld, IsReady}
pub use Rattle.lowering_invariants.specs.Room.{HaveRoom}
pub use Rattle.lowering_invariants.specs.Waiting.{LandsWell, IsAt, IsCalledBy, AreWaiting}
pub use Rattle.x64_instr.specs.Spelling.{leading}
pub use Rattle.x64_instr.specs.declared.instruction.Instr.{Instr}
pub use Rattle.x64_instr.specs.declared.instruction.Target.TheVariants.{Indirect, Relative}
pub use Rattle.x64_instr.specs.declared.operand.RegisterOrMemory.{RegisterOrMemory}
pub use Rattle.x64_instr.specs.declared.register.Reg.{Reg}
pub use Rattle.x64_instr.specs.declared.register.Reg.TheVariants.{Rsp, Rax, Rcx, Rdx, R10, R11, Rbx, Rbp, Rsi, Rdi, R12, R13, R14, R15}
pub use Rattle.x64_encode.specs.Chosen.{is_encodable, chosen, prefixes, modrm_bits, opcode_bytes, place_bytes}
unfoldable pub use Rattle.x64_encode.specs.Chosen.{opcode_register, modrm}
pub use Rattle.x64_machine.specs.Contexts.{context_of, kept_of}
pub use Rattle.x64_machine.specs.Effect.{State, register, with_rip, effect, Answer, granted, with_register, with_flags, load, store, write, may_change, change, target_of}
pub use Rattle.x64_machine.specs.declared.context.Context.{Context}
pub use Rattle.template_code.specs.Bytes.{sizes, thunk, spelled}
unfoldable pub use Rattle.template_code.specs.Bytes.{size}
pub use Rattle.template_code.specs.Calls.{keep_register, parameter_register, stack_parameter, parameter_code, parameters_code, passing_code, return_code, information_code, finally_arguments}
pub use Rattle.template_code.specs.Handlers.{name_thunk, address_in}
pub use Rattle.template_code.specs.Jumps.{IsNear, call, test_code}
pub use Rattle.template_code.specs.Operations.{before, above, work}
pub use Rattle.template_code.specs.Probing.{check_stack, first_touch, page_down, loop_back, touched_range, touching}
pub use Rattle.template_code.specs.Slots.{local_at, fetch_local, fetch, finish_code, compute_code, fetched, keep_local, keep, operands_code, temporary_at, put_back}
pub use Rattle.template_code.specs.Template.{template, code_from, body_size, offset_of}
unfoldable pub use Rattle.template_code.specs.Template.{template_size}
pub use Rattle.template_code.specs.declared.layout.Layout.{Layout}
pub use Rattle.template_code.specs.declared.layout.TheConstants.{FRAME_BY_WEIGHT, MOST_WEIGHT}
pub use Rattle.x64_templates.specs.Epilogues.{IsReturn}
pub use Rattle.x64_templates.specs.Frames.{Agrees, InTemporaries, InLocals, IsBytes, HasBase, SlotsHaveRoom, MemoryKeepsBase, KeepsReserved, HoldsBody, Changes}
pub use Rattle.x64_templates.specs.InstructionRuns.{InstructionDone, KeepsArrivals, IsSpare}
pub use Rattle.x64_templates.specs.Keeping.{Flows, StoresOnce, is_volatile}
pub use Rattle.x64_templates.specs.Runs.{FrameHolds, Steps, HasCode, Reaches, Enters, AreArrived, RunsInside, ReachesInside, ReachesBody, Roomy, Computed, Runs, FramePlace}
pub use Rattle.x64_templates.specs.Straight.{machine, MachineView, AreSmall, takes_frame, LocalRegisters, OtherRegisters, local_registers, other_registers, registers_of}
pub use Rattle.x64_templates.specs.Thunks.{HasThunk}
pub use Rattle.virtual_unwind.specs.CallerOf.{Functions, distance, CallerFrame}
pub use Rattle.virtual_unwind.specs.Contexts.{get, rsp}
pub use Rattle.virtual_unwind.specs.Undone.{word, readable}
pub use Rattle.source_meaning.specs.State.{Exception}
pub use Rattle.seh_records.specs.declared.dispatch.DispatchRecord.{DispatchRecord}
pub use Rattle.seh_records.specs.declared.layout.TheConstants.{RECORD_SIZE}
pub use Rattle.linear_machine.specs.Frames.{Resumption}
pub use Rattle.seh_records.specs.Laws.{AllSmall, AreBytes}
pub use Rattle.host_model.specs.Funclets.{arrivals}
pub use Rattle.host_model.specs.declared.funclet.Funclet.{Funclet}
pub use Rattle.match_runs.specs.Comes.{Comes, IsLive}
pub use Rattle.match_runs.specs.Ends.{HasRule}
pub use Rattle.match_runs.specs.Matched.{Moves}
pub use Rattle.match_runs.specs.Shadow.{GivesCallers, is_call, KeepsShadow, AllKeep, WalkGives, calls, caller_at, drop_below}
pub use Rattle.match_stack.specs.DispatchStates.{IsWellFormed, host_list}
pub use Rattle.match_stack.specs.ImagePlan.{ImagePlan, InCode, IsGiven}
pub use Rattle.match_stack.specs.ItemMatches.{Activation, IsActivation, locals_of, activations_below, HoldsWords, IsInPlace, HoldsPlaces, HasActivation, HoldsLocals, ActivationHasBase, home_end, Linked, temporaries_end, HasPointers, IsAbove, HasSpace, below_end, BodyWaits, FuncletIsAbove, record_room, FrameWaits, LeafWaits, Resumes, leaf_values}
pub use Rattle.match_stack.specs.ListLaws.{IsLinkedStack, KeepsStack}
pub use Rattle.match_stack.specs.PlainWalks.{state, decided_or, plain_unwind}
pub use Rattle.match_stack.specs.Stack.{is_asking, answer_return, IsAsTold, StackItem, Framed, Leaf, Searching, Unwinding, IsStack, after_frame, after_leaf, StackFrame, FrameIsAt, ItemIsAt, OwnedBy, context_after, LeafIsAt, Owned, caller_frame, caller_of_leaf, Agree}
pub use Rattle.match_stack.specs.StackRecords.{On, IsData}
pub use Rattle.match_stack.specs.WalkLaws.{context_below}
pub use Rattle.match_bodies.specs.Bodies.{slots_end, last_temporary, HasFrame, InBody, turns_left}
pub use Rattle.match_bodies.specs.BodyViews.{counts_of, seen_by_templates, arrived_in, frame_at, state_of, HasSlotsOf, KeepsRegisters, IsReached}
pub use Rattle.match_bodies.specs.Callers.{frame_info, HasCaller, FindsReturn, FindsOwed, Owed, IsOwed, nothing_owed, owed_by, owed_of, caller_above, caller_left, caller_owed}
pub use Rattle.match_bodies.specs.CodeSites.{Sites, links_of, arguments_code, begin_of, making_size, frame_code, entry_code, code_of, cold_code_of}
pub use Rattle.match_bodies.specs.ConfigurationFacts.{IsWellMade, IsKnown, IsListable, AreListable}
pub use Rattle.match_bodies.specs.Layouts.{IsFunctionLayout, IsLayoutIf, IsLaidOut, AreLaidOut, IsLeafLayout, IsFuncletLayout, IsFuncletPlan}
pub use Rattle.match_bodies.specs.LocalRegisters.{now_of, IsInRegister, RegistersHold}
pub use Rattle.match_bodies.specs.ProgramImages.{HasBuiltIn, HasName, AddsHandlers, stub_code, HasProgram, IsProgramImage, frame_of, frame_at_label, host_service_of, HasService, IsMachineMemory, IsInImage, IsFramed}
pub use Rattle.match_bodies.specs.Setting.{setting_of, Setting, RepresentsAt, IsResumed}
pub use Rattle.match_bodies.specs.SlotStores.{with_values, KeepsStackBut, OwnerHasFrame, with_values_if, IsInFrame, FrameWords, IsLeft, LeavesRegisters, ActivationIsAt, ActivationsAreAt, ActivationsAreStored}
pub use Rattle.template_code.specs.declared.layout.Place.{Place}
pub use Rattle.template_code.specs.declared.layout.Place.TheVariants.{InRegister, InFrame, Arriving}
pub use Rattle.template_code.specs.Places.{place_of, register_number, register_of}
pub use Rattle.template_code.specs.Slots.{fetch_placed, keep_placed}
pub use Rattle.x64_templates.specs.Locals.{local_in}
pub use Rattle.x64_templates.specs.Frames.{number_placed, KeepsUnused, arriving, IsKept}
pub use Rattle.template_code.specs.Calls.{parameter_placed}
