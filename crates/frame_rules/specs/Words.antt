-- The words of this crate's proofs: what its lemma files import, by the crates below.
pub use Rattle.seh_num.specs.Answers.{◌>>=◌}
pub use Rattle.seh_num.specs.declared.width.Width.TheVariants.{W32, W64, W8}
pub use Rattle.flat_memory.specs.Memory.{Memory, next, may_read, access, may_write, with_bytes, unless_refused, stored, after_store}
unfoldable pub use Rattle.flat_memory.specs.Memory.{executable, first_refused, number_at, with_number}
pub use Rattle.flat_memory.specs.Protections.{is_writable, is_readable}
pub use Rattle.flat_memory.specs.declared.protection.Protection.{Protection}
pub use Rattle.eh_tables.specs.Infos.{Info}
pub use Rattle.eh_tables.specs.declared.code.UnwindCode.{UnwindCode}
pub use Rattle.eh_tables.specs.declared.code.UnwindOperation.{UnwindOperation}
pub use Rattle.eh_tables.specs.declared.code.UnwindOperation.TheVariants.{Push, Allocate, SetFrame, Save, SaveVector, MachineFrame}
pub use Rattle.x64_instr.specs.Registers.{number}
pub use Rattle.x64_instr.specs.Spelling.{leading}
unfoldable pub use Rattle.x64_instr.specs.Spelling.{instr, after_size, after_prefixes, row, plain_row, two_byte_row}
pub use Rattle.x64_instr.specs.declared.instruction.Instr.{Instr}
pub use Rattle.x64_instr.specs.declared.instruction.Operation.TheVariants.{Add, Sub}
pub use Rattle.x64_instr.specs.declared.instruction.Target.TheVariants.{Indirect, Relative}
pub use Rattle.x64_instr.specs.declared.operand.Base.{Base}
pub use Rattle.x64_instr.specs.declared.operand.Index.{Index}
pub use Rattle.x64_instr.specs.declared.operand.MemRef.{MemRef}
pub use Rattle.x64_instr.specs.declared.register.Reg.{Reg}
pub use Rattle.x64_instr.specs.declared.register.Reg.TheVariants.{Rsp, Rax, Rdx}
pub use Rattle.x64_encode.specs.Chosen.{chosen, is_encodable, is_signed, memory_bytes, at_register, sib, mode, displacement, has_rex, modrm_bits}
unfoldable pub use Rattle.x64_encode.specs.Chosen.{modrm}
pub use Rattle.x64_machine.specs.Contexts.{context_of}
pub use Rattle.x64_machine.specs.Effect.{State, Answer, with_register, with_rip, load, effect, address_of, granted, base_of, index_of, register, store, with_flags, read, operand, write, may_change, computed, change, compare, with_quotient, push, pop, relative, jumped, target_of}
unfoldable pub use Rattle.x64_machine.specs.Words.{added, subtracted}
pub use Rattle.x64_machine.specs.declared.context.Context.{Context}
pub use Rattle.x64_machine.specs.declared.cpu.Cpu.{Cpu}
pub use Rattle.virtual_unwind.specs.CallerOf.{sets_frame, CallerFrame, distance, in_entry, of_entry, leaf, risen, rising, run_by, has_frame, past_prologue, by_distance, found, base_if, at_start, unwound, in_body, run_or}
unfoldable pub use Rattle.virtual_unwind.specs.CallerOf.{caller_in, caller_of}
pub use Rattle.virtual_unwind.specs.Contexts.{is_nonvolatile, get, rsp, set, with_rsp, rsp_raised}
pub use Rattle.virtual_unwind.specs.Tail.{FetchedInstr, role_of, is_plain, item_of, opening, ending, is_of, base_value, left_by, left, prepend_instr, by_role, from_item}
unfoldable pub use Rattle.virtual_unwind.specs.Tail.{fetched_at, tail_at, tail}
pub use Rattle.virtual_unwind.specs.Undone.{popped, operations, word, Undo, undone, returned, readable, below_frame, going, undone_one, all_undone, returned_or}
pub use Rattle.virtual_unwind.specs.declared.tail.Role.{Role}
pub use Rattle.virtual_unwind.specs.declared.tail.Role.TheVariants.{Opens, Restores, Ends, Other}
pub use Rattle.frame_rules.specs.Body.{written, has, may_write_all, restored_by, with_restored, Mode, Body, Leaving, only_if, is_ends, leaving, from_body, and_then, following, is_body, saved_at, if_place, are_restored, is_a_call, written_place}
pub use Rattle.frame_rules.specs.Codes.{is_saved, is_allowed, are_allowed, depth, allocation, pushes, pushed, may_save, is_ordered, are_apart, are_pushes, is_allocated, saves}
pub use Rattle.frame_rules.specs.Epilogue.{is_pop, gives_back, is_end, pops, is_epilogue}
pub use Rattle.frame_rules.specs.Frame.{Stack, Framed, HoldsFrame, IsWord, left_to, Others}
pub use Rattle.frame_rules.specs.Laws.{EntriesAreFound, LeavesAreFound, PlansAreRight, PopsRestore, EpilogueRestores, FramesAreRight, context_found, FragmentsUnwindAsParents, BodyBegins, BodyContinues, ReturnedToCaller, EpiloguesReturn, LeavesReturn, ProloguesRun, FrameHasItsSize, UndoingRestores, RulesAreRight, WritesNoOther}
pub use Rattle.frame_rules.specs.Plan.{Saved, FramePlan, IsPlan, saves_then, spelled_by, all_encodable, operations_of, instructions_of, turned, steps_of, prologue, loads_then, opening_then, opening_by, pops_then, epilogue, with_epilogues, frame_size, IsSpelling, frame_then, allocation_then, stack_place, load_of, is_inner, are_inner, all_inner, allocating, step_of}
pub use Rattle.frame_rules.specs.Prologue.{bytes, items, does, sets_size, is_call, subtracts, PrologueStep, codes_onto, are_sized, ArePrologueSteps, is_stack, is_place, is_step, allocates, IsPrologueStep, is_single, are_single, is_stack_base}
pub use Rattle.frame_rules.specs.Rules.{ops, FindsContext, IsFound, FramedFunction, IsRight, InPrologue, IsBody, IsLeaving}
pub use Rattle.frame_rules.specs.States.{registers, is_other, writes, is_written, InBody, IsEntry, HasItems, return_address, RunsOne, RunsThrough, is_some, is_leaving, leaves, all_leave, KeepsWord, KeepsWords, Called}
