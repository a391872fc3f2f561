-- The words of this crate's proofs: what its lemma files import, by the crates below.
pub use Rattle.seh_num.specs.Answers.{◌>>=◌, unless}
pub use Rattle.seh_num.specs.Widths.{low, if_set}
pub use Rattle.seh_num.specs.declared.width.Width.TheVariants.{W32, W8, W16, W64}
pub use Rattle.host_layout.specs.declared.imported.ImportedService.TheVariants.{RaiseException, CSpecificHandler, LocalUnwind, Protect, Put}
pub use Rattle.host_layout.specs.declared.limit.TheConstants.{MOST_IMAGE}
pub use Rattle.flat_memory.specs.Memory.{Memory, may_write}
pub use Rattle.c_operations.specs.declared.built_in.BuiltIn.{BuiltIn}
pub use Rattle.c_checked.specs.Program.{Function, Program}
pub use Rattle.c_checked.specs.Statement.{Filter, Always, Funclet, Statement, Declare, Block, Evaluate, If, IfElse, For, DoWhile, Return, Break, Continue, Leave, TryExcept, TryFinally, Statements, Empty, Then}
pub use Rattle.linear_code.specs.Program.{LinearProgram, LinearFunction, LinearFunclet, LinearBody}
pub use Rattle.linear_code.specs.declared.instruction.Instruction.{Instruction}
pub use Rattle.linear_code.specs.declared.program.LabelRange.{LabelRange}
pub use Rattle.linear_code.specs.declared.program.Region.{Region}
pub use Rattle.linear_code.specs.declared.program.RegionKind.{RegionKind}
pub use Rattle.linear_code.specs.declared.slot.Slot.{Slot}
pub use Rattle.linear_code.specs.declared.slot.Slot.TheVariants.{Local, Temporary}
pub use Rattle.lowering_sizes.specs.Sizes.{statements_notes, expression_size, discarded_size, condition_size, all_declared_size, statement_size, statements_size}
pub use Rattle.lowering_expressions.specs.Scope.{finally_scope, except_names, filter_names, finally_names}
pub use Rattle.lowering_expressions.specs.declared.scope.Names.{Names}
pub use Rattle.seh_ir.specs.Funclets.{finally_funclet, filter_funclets, in_funclet, statement_funclets, statements_funclets}
pub use Rattle.seh_ir.specs.Lowered.{lowered, scope_of, lowered_function, all_funclets, all_locals, body_start}
pub use Rattle.seh_ir.specs.Regions.{statements_regions, except_kind, region, statement_regions}
pub use Rattle.seh_ir.specs.declared.funclets.Owner.{Owner}
pub use Rattle.pe_image.specs.Image.{Image, stored, Section, stores_byte, section_or, section_at, stored_in, only_if, whole}
pub use Rattle.pe_image.specs.Imports.{Import}
pub use Rattle.pe_write.specs.ImportTables.{imported, slots_at, slot_of, name_of, place_of, tables_size}
unfoldable pub use Rattle.pe_write.specs.ImportTables.{import_tables}
pub use Rattle.pe_write.specs.Program.{image_of, ImageContents, CanBeImage, sizes_of, text_at, rdata_at, xdata_at, sections_of, pdata_at, data_section, imports_of}
pub use Rattle.eh_tables.specs.Answer.{Table}
pub use Rattle.eh_tables.specs.Handler.{plain_slot, after_rex, begins_with_rex, jump_slot, is_c_name}
unfoldable pub use Rattle.eh_tables.specs.Handler.{is_c_handler}
pub use Rattle.eh_write.specs.ReadAgain.{IsUnwindInfo, HasTrailer, has_c_handler, parent_of, IsScopeRecord, IsStoredAt, IsRuntimeFunction, WrittenEntry, HasScopes, IsEntryWritten, as_read, ranges_of, info_written}
pub use Rattle.eh_tables.specs.Tables.{Entry, holding, or_none, entries_of, entry_or, Tables, all_entries, tables}
unfoldable pub use Rattle.eh_tables.specs.Tables.{directory}
pub use Rattle.eh_write.specs.Written.{slot, is_small, is_short, allocation, header, padded, trailer_bytes, scope_record_bytes, CanBeWritten, IsTrailer, trailer_flags, scope_bytes, table_bytes}
unfoldable pub use Rattle.eh_write.specs.Written.{unwind_bytes}
pub use Rattle.eh_tables.specs.declared.code.UnwindOperation.{UnwindOperation}
pub use Rattle.eh_tables.specs.declared.scope.ScopeRecord.{ScopeRecord}
pub use Rattle.eh_write.specs.declared.unwind_info.Trailer.TheVariants.{Nothing}
pub use Rattle.x64_instr.specs.declared.instruction.Instr.{Instr}
pub use Rattle.x64_instr.specs.declared.register.Reg.TheVariants.{Rax, Rcx, Rsp}
pub use Rattle.x64_encode.specs.Chosen.{chosen, is_encodable, is_signed, little}
unfoldable pub use Rattle.x64_encode.specs.Chosen.{modrm, opcode_register}
pub use Rattle.template_code.specs.Bytes.{spelled, sizes, thunk}
unfoldable pub use Rattle.template_code.specs.Bytes.{size}
pub use Rattle.template_code.specs.Calls.{keep_register, parameter_register, stack_parameter, parameter_code, parameters_code, finally_arguments, clear_result, return_code, arguments_code, begin_call, call_code, passing_code, field_load}
pub use Rattle.template_code.specs.Jumps.{distance, compare_zero, jump_equal, test_code, separator_code, call}
pub use Rattle.template_code.specs.Operations.{move, before, work, compare, extended, pure_code, high_half}
pub use Rattle.template_code.specs.Slots.{fetched, keep, local_at, temporary_at, fetch_local, keep_local, fetch, operands_code, finish_code, put_back}
pub use Rattle.template_code.specs.Template.{template, code_from, Links, body_size}
pub use Rattle.template_code.specs.ColdParts.{is_cold, AreParts, part_code, side_from, hot_code, cold_code, label_at}
unfoldable pub use Rattle.template_code.specs.Template.{template_size}
pub use Rattle.template_code.specs.declared.layout.Layout.{Layout}
pub use Rattle.virtual_unwind.specs.CallerOf.{name_rows}
unfoldable pub use Rattle.virtual_unwind.specs.CallerOf.{caller_in, caller_of}
pub use Rattle.virtual_unwind.specs.Tail.{FetchedInstr, role_of, by_role, from_item}
unfoldable pub use Rattle.virtual_unwind.specs.Tail.{fetched_at, tail, tail_at}
pub use Rattle.virtual_unwind.specs.declared.tail.Role.TheVariants.{Other}
pub use Rattle.frame_rules.specs.Body.{written, may_write_all, Body, following, is_body}
pub use Rattle.frame_rules.specs.Bytes.{spell, IsExecutableAt, prologue_code}
pub use Rattle.frame_rules.specs.Plan.{FramePlan, IsPlan, spelled_by, operations_of, allocation_then, instructions_of, steps_of, allocating, all_encodable, is_inner, are_inner}
pub use Rattle.frame_rules.specs.Prologue.{bytes, items}
pub use Rattle.frame_rules.specs.Rules.{IsRight, FramedFunction, IsFound}
pub use Rattle.frame_rules.specs.States.{HasItems, registers, return_address, IsEntry, InBody, is_other}
pub use Rattle.frame_layout.specs.Plans.{plan_of}
pub use Rattle.frame_layout.specs.Infos.{info_of, chained_info}
unfoldable pub use Rattle.frame_layout.specs.Infos.{prologue_bytes, codes_of}
pub use Rattle.frame_layout.specs.declared.frame.FrameLayout.{FrameLayout}
pub use Rattle.x64_emit.specs.Bodies.{label_list}
pub use Rattle.x64_emit.specs.Linking.{links_of, address_or, thunk_of}
pub use Rattle.x64_emit.specs.Near.{IsNear, IsInstructionNear, IsBaseNear, IsSlotNear, near_end, IsFieldNear}
pub use Rattle.image_link.specs.declared.fragments.TheConstants.{CHAINED_SIZE}
pub use Rattle.image_link.specs.Fits.{FitsProgram, function_bodies, funclet_bodies}
pub use Rattle.image_link.specs.Linked.{text_begin, linked, first}
pub use Rattle.image_link.specs.Services.{services_of, is_among}
pub use Rattle.image_link.specs.declared.handlers.HandlerBlocks.{HandlerBlocks}
pub use Rattle.image_link.specs.Handlers.{step_of, block_code, blocks_bytes}
unfoldable pub use Rattle.image_link.specs.Handlers.{block_bytes}
pub use Rattle.image_link.specs.Near.{IsEntryNear, IsFrameNear, IsRoutineNear}
pub use Rattle.image_link.specs.Routines.{RoutineView, routines, is_leaf, leaf_if, functions_from, funclet, all_spare, nothing, funclet_frame}
pub use Rattle.image_link.specs.Tables.{is_finally, has_except, has_finally, trailer, scope_records, scope_table, info_if, handler_address, jump_target, scope_record, info_bytes_of, infos, infos_room, range_at, range_if, ranges, fragments_of, fragments, chained_bytes, chained_infos, fragment_ranges, all_infos, all_ranges}
unfoldable pub use Rattle.image_link.specs.Tables.{info_bytes}
pub use Rattle.image_link.specs.Text.{argument_code, base_of, entry_code, check_stack_at, routine_code, thunk_at, SiteView, routine_size, cold_size, total, cold_total, routines_bytes, all_apart_bytes, site_blocks, apart_code, routine_room, room, addresses, front_code, frame_code, own_addresses, thunks_at, bounds, service_thunk, front_size}
unfoldable pub use Rattle.image_link.specs.Text.{entry_size, routine_bytes, apart_bytes}
pub use Rattle.image_tables.specs.CodeInMemory.{image_base, links, template_at, IsInBody, HasText, IsReturn}
pub use Rattle.image_tables.specs.Entries.{entries, has_rows, range_of, entry_of, entry_if, part_entry, chained_if, part_with, entry_by, entry_at, scopes_of, unwind_of}
pub use Rattle.image_tables.specs.FrameLaws.{stack_frame, BodiesHaveFrames, LeavesHaveReturns, FindsCaller, IsInRoutine, FramesAreFound, PartsAreFound, LeavesAreFound, ThunksAreFound, NameThunksAreFound, StubsAreFound, AddingStubsAreFound, RemovingStubsAreFound, ProbesAreFound, IsFramed, FunctionsAreInMemory, PartsAreInMemory, FunctionsKeepTheRules, PartsKeepTheRules, ImagesHaveText, TextsAreFixed}
pub use Rattle.image_tables.specs.Functions.{function_of, leaf, probe, plan, rest_of, code_of_part, part, parts}
pub use Rattle.image_tables.specs.RegionLaws.{LoweredNamesFunclets, LoweredHasRegions, LoweredIsShaped}
pub use Rattle.image_tables.specs.RegionRanges.{HasRegions, IsRange, HasRanges}
pub use Rattle.image_tables.specs.RegionRows.{AreDifferent, funclet_in, named, regions, handlers, is_always, funclet_begin, AreRows, is_finally_row, is_always_row, regions_in, rows_of, AreInOrder}
pub use Rattle.image_tables.specs.RoutinePlaces.{Placed, PlacedPart, Cursor, put, past, end_of, body_begin, parts_from, parts_of, site_of, placed, placed_from, first_cursor, infos_begin, routines_begin, cold_begin, chained_begin, thunk_begin, probe_begin, blocks_of, block_begin}
pub use Rattle.image_tables.specs.TableLaws.{JumpsAreSpelled, EntriesAreHeld, PartsAreHeld, LeavesAreHeldByNone, ThunksAreHeldByNone, TablesAreRead}
pub use Rattle.image_tables.specs.Tries.{Try, Accepts, Asks, Finishes, with_filter, tries_in, tries, tries_of, all_tries, finishes, accepts}
