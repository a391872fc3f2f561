-- The words of this crate's proofs: what its lemma files import, by the crates below.
pub use Rattle.seh_num.specs.declared.width.Width.TheVariants.{W64, W32}
pub use Rattle.host_layout.specs.Ranges.{in_stack, in_data_stack, in_arena, pages}
pub use Rattle.host_layout.specs.Services.{service_named}
pub use Rattle.host_layout.specs.declared.limit.TheConstants.{MOST_IMAGE}
pub use Rattle.host_layout.specs.declared.range.TheConstants.{IMAGE_BASE, IMAGE_RANGE_END, GUARD_START, STACK_START, STACK_END, ARENA_START, ARENA_END, FIRST_DATA, DATA_STACK_START, DATA_STACK_END, FIRST_DATA_STACK}
pub use Rattle.host_layout.specs.declared.service.Service.{Service}
pub use Rattle.flat_memory.specs.Memory.{Memory, may_write, may_read, is_among, first_byte}
unfoldable pub use Rattle.flat_memory.specs.Memory.{number_at, with_number}
pub use Rattle.flat_memory.specs.Protections.{is_writable, is_readable}
pub use Rattle.c_operations.specs.declared.built_in.BuiltIn.{BuiltIn}
pub use Rattle.c_operations.specs.declared.built_in.BuiltIn.TheVariants.{Put, Protect, RaiseException, Walk}
pub use Rattle.source_meaning.specs.Source.{is_between, is_data, data_end, is_hidden, plain_mode, first_memory}
pub use Rattle.linear_code.specs.Program.{LinearBody, LinearFunclet, LinearProgram, LinearFunction}
pub use Rattle.linear_code.specs.declared.instruction.Instruction.{Instruction}
pub use Rattle.linear_code.specs.declared.program.FuncletKind.{FuncletKind}
pub use Rattle.linear_code.specs.declared.program.FuncletKind.TheVariants.{Filter, Finally}
pub use Rattle.linear_code.specs.declared.program.Region.{Region}
pub use Rattle.linear_code.specs.declared.program.RegionKind.{RegionKind}
pub use Rattle.linear_code.specs.declared.slot.Slot.{Slot}
pub use Rattle.linear_code.specs.declared.slot.Slot.TheVariants.{Temporary, Local}
pub use Rattle.linear_machine.specs.Frames.{BodyName, body_of, FunctionBody, FuncletBody, function_body, funclet_body, Frame, Resumption, AfterCall, SameOperation}
pub use Rattle.linear_machine.specs.Run.{instruction_in}
pub use Rattle.lowering_invariants.specs.Bodies.{IsKindOf, IsRegionOf, IsFilterKind, IsFinallyKind, parent_of, IsFuncletOf, IsLanding}
pub use Rattle.pe_image.specs.Image.{Section, Image}
pub use Rattle.pe_image.specs.Imports.{Import}
pub use Rattle.pe_write.specs.ImportTables.{name_of, slot_of, slots_at, place_of, imported, tables_size}
unfoldable pub use Rattle.pe_write.specs.ImportTables.{import_tables}
pub use Rattle.pe_write.specs.Program.{ImageContents, image_of, imports_of, sizes_of, rdata_at, end_at, sections_of, parts_of, text_at, xdata_at, pdata_at, data_section, text_section, rdata_section, xdata_section, pdata_section}
pub use Rattle.eh_tables.specs.Answer.{Table}
pub use Rattle.eh_tables.specs.Tables.{Entry, entry_or, holding}
pub use Rattle.eh_tables.specs.declared.scope.ScopeRecord.{ScopeRecord}
pub use Rattle.x64_instr.specs.declared.instruction.Instr.{Instr}
pub use Rattle.x64_instr.specs.declared.register.Reg.TheVariants.{Rax, Rsp, Rcx, Rdx}
pub use Rattle.x64_encode.specs.Chosen.{chosen, is_encodable}
unfoldable pub use Rattle.x64_encode.specs.Chosen.{modrm, opcode_register}
pub use Rattle.x64_machine.specs.declared.context.Context.{Context}
pub use Rattle.x64_machine.specs.declared.cpu.Cpu.{Cpu}
pub use Rattle.template_code.specs.Bytes.{sizes, spelled, thunk}
unfoldable pub use Rattle.template_code.specs.Bytes.{size}
pub use Rattle.template_code.specs.Calls.{return_code, parameters_code, return_at, arguments_code, call_code, clear_result, passing_code, finally_arguments, address_to}
pub use Rattle.template_code.specs.Jumps.{jump, jump_equal, call, compare_zero, test_code}
pub use Rattle.template_code.specs.Probing.{check_stack}
pub use Rattle.template_code.specs.Slots.{fetch, operands_code, keep}
pub use Rattle.template_code.specs.Template.{body_size, code_from, Links, template}
pub use Rattle.template_code.specs.ColdParts.{is_cold, side_from, hot_code, cold_code, label_at}
unfoldable pub use Rattle.template_code.specs.Template.{template_size}
pub use Rattle.template_code.specs.declared.layout.Layout.{Layout}
pub use Rattle.x64_templates.specs.Placed.{IsCodeAt}
pub use Rattle.virtual_unwind.specs.CallerOf.{Functions, distance, entry_of, of_entry, by_distance, in_prologue, run_or, past_prologue, CallerFrame, found, rising, risen}
unfoldable pub use Rattle.virtual_unwind.specs.CallerOf.{caller_in}
pub use Rattle.virtual_unwind.specs.Contexts.{rsp, rsp_raised}
pub use Rattle.virtual_unwind.specs.Tail.{left, prepend_instr}
unfoldable pub use Rattle.virtual_unwind.specs.Tail.{tail_at, tail}
pub use Rattle.virtual_unwind.specs.Undone.{word, operations, Answer, popped}
pub use Rattle.frame_rules.specs.Bytes.{IsExecutableAt, spell}
pub use Rattle.seh_walk.specs.Walk.{framed, filter_return, finally_return, vectored_return, if_over, if_filter, if_finally, if_vectored}
unfoldable pub use Rattle.seh_walk.specs.Walk.{visited}
pub use Rattle.host_model.specs.Funclets.{inserted, by_kind, arrivals, with_row, of_rows, of_entries, if_same, if_below, if_here}
pub use Rattle.host_model.specs.Loading.{mode_in, stored_byte, with_slots, section_of, byte_in, stack_mode, covers, or_else, with_address, reason_unless, first_of, of_tables, table_refusal, has_place, place_refusal, first_unknown, import_refusal, is_code, has_entry, entry_refusal, load_refusal}
unfoldable pub use Rattle.host_model.specs.Loading.{mapped}
pub use Rattle.host_model.specs.Slots.{SlotsAreApart, IsBeside}
pub use Rattle.host_model.specs.declared.funclet.Funclet.{Funclet}
pub use Rattle.match_stack.specs.ImagePlan.{InCode, by_parent, parent_body, IsFunclet, JumpsTo, IsOfKind, IsRegion, AreRegions, AllFinally, AllExcept, IsFlagged, HasRows, IsEntryOf, HasEntries, IsGiven, Gives, ImagePlan}
pub use Rattle.match_stack.specs.Stack.{FrameIsAt}
pub use Rattle.match_bodies.specs.Callers.{FindsReturn, FindsOwed, Owed, owed_after, owed_by, owed_of, HasCaller}
pub use Rattle.match_bodies.specs.CodeSites.{begin_of, making_size, code_of, cold_code_of, links_of, entry_code, frame_code, parent_base, keep_base, keep_argument, function_arguments, funclet_arguments}
pub use Rattle.match_bodies.specs.ProgramImages.{HasProgram, IsInImage, host_service_of, HasService, FindsCallers, FindsCallersOutside, frame_of, frame_at_label, HasEnds, HasOneFrame, IsResumed, FramesAreWaiting, IsPlanned, LeavesAreWaiting, FuncletsBegin, HasAddresses, view_of, ReturnsThere, WorksAgain, SaysResumptions}
pub use Rattle.frame_layout.specs.declared.frame.FrameLayout.{FrameLayout}
pub use Rattle.x64_emit.specs.Linking.{address_or, thunk_of}
pub use Rattle.x64_emit.specs.Near.{IsInstructionNear, IsNear}
pub use Rattle.image_link.specs.Fits.{FitsProgram, FitsFunclet, function_bodies, funclet_bodies, FitsBody, FitsFunction}
pub use Rattle.image_link.specs.Linked.{text_begin, first, linked, data_size}
pub use Rattle.image_link.specs.Services.{services_of}
pub use Rattle.image_link.specs.Near.{IsFrameNear}
pub use Rattle.image_link.specs.Routines.{RoutineView, funclet_frame, funclet, routines, leaf_if, nothing, no_function, is_kept, is_spare, all_spare, kept_by, HasParent, functions_from, function_frame}
pub use Rattle.image_link.specs.Tables.{has_except, has_finally, handler_address, jump_target, scope_record}
pub use Rattle.image_link.specs.Text.{routine_size, cold_size, total, cold_total, check_stack_at, bounds, argument_code, routine_code, apart_code, SiteView, own_addresses, thunk_at, service_thunk, front_code, routines_bytes, all_apart_bytes, site_blocks, thunks_at}
unfoldable pub use Rattle.image_link.specs.Text.{entry_size, routine_bytes, apart_bytes}
pub use Rattle.image_tables.specs.CodeInMemory.{image_base, template_at, links, IsReturn, IsInBody}
pub use Rattle.image_tables.specs.RegionRows.{funclet_begin, rows_of, regions_in, regions, funclet_in, named, IsRow, AreRows}
pub use Rattle.image_tables.specs.Entries.{part_with}
pub use Rattle.image_tables.specs.RoutinePlaces.{Placed, PlacedPart, end_of, site_of, body_begin, placed, first_cursor, routines_begin, cold_begin, thunk_begin, probe_begin}
pub use Rattle.image_states.specs.Compiled.{HasWholeImage, IsMember, IsFuncletSized}
pub use Rattle.image_states.specs.Plans.{size_of, end_of_label, functions_of, funclets_of, routine_of, register_if, address_of, plan_of, sites_of, is_leaf, or_none, or_nowhere, is_some, is_some_if, is_ready, returns_there, works_again, register_by, is_in_register, registers_hold}
pub use Rattle.match_bodies.specs.LocalRegisters.{now_of, IsInRegister, RegistersHold}
pub use Rattle.image_states.specs.StartLaws.{HasBytes, ImagesStart, ImagesLoad}
pub use Rattle.image_states.specs.StateLaws.{ImagesArePrograms, LeavesCallNothing, FunctionsApart}
