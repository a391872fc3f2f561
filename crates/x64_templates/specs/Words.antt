-- The words of this crate's proofs: what its lemma files import, by the crates below.
pub use Rattle.seh_num.specs.Answers.{◌>>=◌}
pub use Rattle.seh_num.specs.Widths.{bytes_of, low, signed, limit, half, wrapped}
pub use Rattle.seh_num.specs.declared.division.DivFault.{DivFault}
pub use Rattle.seh_num.specs.declared.event.Code.{Code}
pub use Rattle.seh_num.specs.declared.width.Width.{Width}
pub use Rattle.seh_num.specs.declared.width.Width.TheVariants.{W8, W16, W32, W64}
pub use Rattle.host_layout.specs.declared.range.TheConstants.{DATA_STACK_START}
pub use Rattle.flat_memory.specs.Laws.{IsApart}
pub use Rattle.flat_memory.specs.Memory.{Memory, next, may_read, may_write, with_bytes, access, unless_refused, is_among, refused, stored, after_store, pointer_of, with_pointer}
unfoldable pub use Rattle.flat_memory.specs.Memory.{first_refused, number_at, with_number, executable}
pub use Rattle.flat_memory.specs.Protections.{is_readable, is_writable}
pub use Rattle.flat_memory.specs.declared.protection.Protection.{Protection}
pub use Rattle.flat_memory.specs.declared.protection.Rights.TheVariants.{ReadWrite, Nothing, Read}
pub use Rattle.c_operations.specs.Numbers.{width, is_less, are_equal, are_related, shifted_right, result_of}
pub use Rattle.c_operations.specs.Performed.{Gives, OperationResult, Raises, Undefined, performed, placed, before_last, signed_part, unsigned_part, quotient, remainder}
pub use Rattle.c_operations.specs.declared.field.Field.{Field}
pub use Rattle.c_operations.specs.declared.field.Field.TheVariants.{ExceptionCode, ExceptionFlags, NumberParameters, ExceptionInformation}
pub use Rattle.c_operations.specs.declared.operation.Operation.{Operation}
pub use Rattle.c_operations.specs.declared.operation.Pure.{Pure}
pub use Rattle.c_operations.specs.declared.operation.Relation.{Relation}
pub use Rattle.c_operations.specs.declared.operation.Signedness.{Signedness}
pub use Rattle.c_operations.specs.declared.operation.Signedness.TheVariants.{Unsigned, Signed}
pub use Rattle.c_operations.specs.declared.operation.Size.{Size}
pub use Rattle.c_operations.specs.declared.operation.Size.TheVariants.{Int, Long}
pub use Rattle.linear_code.specs.BodyState.{BodyState, Counts, with_slot}
pub use Rattle.linear_code.specs.Meaning.{IsSlot, step, kept, HasSlots, Next, JumpsTo, InstructionEffect, Faults, ReservedAccess, NeedsDispatcher, BodyPoint, continued}
unfoldable pub use Rattle.linear_code.specs.Meaning.{run}
pub use Rattle.linear_code.specs.declared.instruction.Instruction.{Instruction}
pub use Rattle.linear_code.specs.declared.slot.Slot.{Slot}
pub use Rattle.linear_code.specs.declared.slot.Slot.TheVariants.{Local, Temporary}
pub use Rattle.x64_instr.specs.Registers.{number}
pub use Rattle.x64_instr.specs.Spelling.{leading, IsEncoding}
unfoldable pub use Rattle.x64_instr.specs.Spelling.{instr}
pub use Rattle.x64_instr.specs.declared.instruction.Direction.{Direction}
pub use Rattle.x64_instr.specs.declared.instruction.Instr.{Instr}
pub use Rattle.x64_instr.specs.declared.instruction.Target.{Target}
pub use Rattle.x64_instr.specs.declared.instruction.Target.TheVariants.{Relative}
pub use Rattle.x64_instr.specs.declared.instruction.Unary.{Unary}
pub use Rattle.x64_instr.specs.declared.operand.Operand.{Operand}
pub use Rattle.x64_instr.specs.declared.operand.RegisterOrMemory.{RegisterOrMemory}
pub use Rattle.x64_instr.specs.declared.register.Reg.{Reg}
pub use Rattle.x64_instr.specs.declared.register.Reg.TheVariants.{Rax, Rcx, Rsp, Rdx, R8, R9, R11, R10}
pub use Rattle.x64_encode.specs.Chosen.{chosen, is_encodable, is_signed}
unfoldable pub use Rattle.x64_encode.specs.Chosen.{modrm, opcode_register}
pub use Rattle.x64_machine.specs.Conditions.{holds}
pub use Rattle.x64_machine.specs.Contexts.{kept_of}
pub use Rattle.x64_machine.specs.Dividing.{joined, divided, signed_double, wrapped_both}
pub use Rattle.x64_machine.specs.Effect.{granted, effect, load, State, Answer, with_rip, store, with_quotient, register, with_register, with_flags, address_of, read, operand, write, may_change, computed, change, is_compare, unary, unary_of, amount, shift_by, multiply, multiply_by, sign_of_rax, widened, condition_byte, jumped, push, pop, target_of, refusal}
pub use Rattle.x64_machine.specs.Shifts.{count_of, shifted, shift_flags}
pub use Rattle.x64_machine.specs.Words.{merged}
unfoldable pub use Rattle.x64_machine.specs.Words.{subtracted, multiplied, added}
pub use Rattle.x64_machine.specs.declared.cpu.Cpu.{Cpu}
pub use Rattle.x64_machine.specs.declared.cpu.Flags.{Flags}
pub use Rattle.template_code.specs.Bytes.{sizes, spelled, thunk}
unfoldable pub use Rattle.template_code.specs.Bytes.{size}
pub use Rattle.template_code.specs.Calls.{return_at, begin_call, parameter_register, keep_register, stack_parameter, parameter_code, parameters_code, field_load, information_code, keep_base, arguments_code, call_code, passing_code, field_at, return_code, finally_arguments, call_finally_code, address_to, local_unwind_code, parameter_placed}
pub use Rattle.template_code.specs.Jumps.{distance, call, IsNear, compare_zero, jump_equal, test_code, jump_code, jump_if_zero_code, separator_code, jump}
pub use Rattle.template_code.specs.Operands.{has_first, has_second, needs_rax_alone}
pub use Rattle.template_code.specs.Operations.{above, at_sum, data_pointer, move, set, compare, before, work, high_half, extended, pure_code, compared, less, not_less, division}
pub use Rattle.template_code.specs.Probing.{check_stack, first_touch, loop_back, page_down, touched_range, touching}
pub use Rattle.template_code.specs.Slots.{fetched, put_back, temporary_at, local_at, keep_local, keep, fetch_local, fetch, fetch_if, operands_code, finish_code, compute_code, fetch_placed, keep_placed}
pub use Rattle.template_code.specs.Template.{Links, template, offset_of, code_from, nowhere, body_size, HasLabels}
unfoldable pub use Rattle.template_code.specs.Template.{template_size}
pub use Rattle.template_code.specs.declared.layout.Layout.{Layout}
pub use Rattle.x64_templates.specs.CallStates.{sp_of, with_four, pushed, HasBelow, with_sp, moved, HasBack}
pub use Rattle.x64_templates.specs.EntryStates.{with_arguments, InRegisters, OnStack, IsFunctionFrame, body_in_memory, FreshFrame, passed}
pub use Rattle.x64_templates.specs.Exceptions.{IsField, field_width, MayRead, HasException}
pub use Rattle.x64_templates.specs.Frames.{arriving, HasArrived, IsKept, number_placed, number_in, KeepsUnused, Agrees, slot_at, InTemporaries, InLocals, HasBase, SlotsHaveRoom, MemoryKeepsBase, KeepsReserved, HoldsBody, IsBytes, Changes, IsPointerByte, HasPointer}
pub use Rattle.x64_templates.specs.Implements.{Implements, IsReady, HasOperands, LeavesResult, HeadFaults, high_of}
pub use Rattle.x64_templates.specs.InstructionRuns.{InstructionDone, KeepsArrivals, IsSpare, IsLeafCode, SparesArrivals, IsLinked, RunsTo, RunsAllTo}
pub use Rattle.x64_templates.specs.Keeping.{keeps_registers, stores_nothing, StoresNothing, Flows, StoresOnce, KeepsRegisters, is_volatile, is_rax, is_memory_or, writes_only, spares_registers, SparesRegisters, is_register, is_call}
pub use Rattle.x64_templates.specs.Placed.{IsCodeAt, IsPlaced}
pub use Rattle.x64_templates.specs.Returned.{CallBegun, Returned}
pub use Rattle.x64_templates.specs.Runs.{Reaches, HasCode, FramePlace, Roomy, FrameHolds, AreArrived, Runs, IsThere, ReachesBody, Finished, Computed, ChangesOwn, Enters, ReachesInside, ReachesFault, Steps}
pub use Rattle.x64_templates.specs.Prologues.{Within, code_stores, none_stores, code_turns, codes_turns, IsProbed, AreProbed, MakesFrame}
pub use Rattle.x64_templates.specs.Straight.{MachineView, machine, Executes, Yields, is_straight, AllStraight, begins_epilogue, takes_frame, NoneTakesFrame, is_rsp_place, is_subtraction, is_number, AreSmall, LocalRegisters, OtherRegisters, registers_of}
unfoldable pub use Rattle.x64_templates.specs.Straight.{effects}
pub use Rattle.x64_templates.specs.Locals.{is_of_local, local_in, with_local}
pub use Rattle.template_code.specs.declared.layout.Place.{Place}
pub use Rattle.template_code.specs.declared.layout.Place.TheVariants.{InRegister, InFrame, Arriving}
pub use Rattle.template_code.specs.Places.{place_of}
