-- The words of this crate's proofs: what its lemma files import, by the crates below.
pub use Rattle.host_layout.specs.declared.imported.ImportedService.{ImportedService}
pub use Rattle.seh_num.specs.declared.width.Width.TheVariants.{W32, W8, W64}
pub use Rattle.linear_code.specs.Program.{LinearFunction, LinearProgram, linear_function, linear_funclet, LinearBody, LinearFunclet, linear_program}
pub use Rattle.linear_code.specs.declared.instruction.Instruction.{Instruction}
pub use Rattle.linear_code.specs.declared.program.IrFunclet.{IrFunclet}
pub use Rattle.linear_code.specs.declared.program.IrFunction.{IrFunction}
pub use Rattle.linear_code.specs.declared.slot.Slot.TheVariants.{Local, Temporary}
unfoldable pub use Rattle.pe_image.specs.Numbers.{u32, u16}
pub use Rattle.pe_write.specs.ImportTables.{hint_name_size, names_size as import_names_size, tables_size}
pub use Rattle.pe_write.specs.NameTable.{NameRow, names_offset, names_size, name_table_size}
pub use Rattle.pe_write.specs.Program.{CanBeImage, ImageContents}
pub use Rattle.eh_write.specs.Written.{table_bytes, slot, is_small, is_short, allocation, header, padded, trailer_bytes, scope_record_bytes}
unfoldable pub use Rattle.eh_write.specs.Written.{unwind_bytes}
pub use Rattle.x64_encode.specs.Chosen.{is_signed}
unfoldable pub use Rattle.x64_encode.specs.Chosen.{modrm, opcode_register}
pub use Rattle.template_code.specs.Bytes.{spelled, sizes}
unfoldable pub use Rattle.template_code.specs.Bytes.{size}
pub use Rattle.template_code.specs.Template.{code_from, body_size}
pub use Rattle.template_code.specs.ColdParts.{AreParts, side_from, hot_code, cold_code}
pub use Rattle.x64_emit.specs.declared.body.CodeRange.{CodeRange}
unfoldable pub use Rattle.template_code.specs.Template.{template_size}
pub use Rattle.template_code.specs.declared.layout.Layout.{Layout}
pub use Rattle.frame_layout.specs.Layout.{FitsFrame}
pub use Rattle.frame_layout.specs.Plans.{plan_of}
pub use Rattle.frame_layout.specs.Infos.{info_of}
unfoldable pub use Rattle.frame_layout.specs.Infos.{prologue_bytes, codes_of}
pub use Rattle.frame_layout.specs.declared.frame.FrameLayout.{FrameLayout}
pub use Rattle.x64_emit.specs.Entries.{keep_base, IsParentNear}
pub use Rattle.x64_emit.specs.Linking.{links_of, Addresses}
pub use Rattle.x64_emit.specs.Near.{AreNear, IsNear, IsInstructionNear, IsBaseNear, IsSlotNear}
pub use Rattle.x64_emit.specs.Rooms.{code_room}
pub use Rattle.image_link.specs.Fits.{FitsFunction, FitsFunclet, FitsProgram, tables_room, function_bodies, funclet_bodies, program_tables_room, FitsSlot, FitsInstruction, FitsBody, FitsKind, text_room}
pub use Rattle.image_link.specs.Linked.{first, first_cold, first_block, names_of, text_size, xdata_begin, IsPlacement, site, image_of_routines, linked}
pub use Rattle.image_link.specs.Services.{imported_service_of, is_call, has_call, functions_call, funclets_call, calls, calls_walk, service_if, services_if, IsImported, IsImportedIf, is_among}
pub use Rattle.image_link.specs.declared.handlers.HandlerBlocks.{HandlerBlocks}
pub use Rattle.image_link.specs.Handlers.{block_size, blocks_at, step_of, blocks_size, adding_at, removing_at, adding_of, removing_of, adding_code, removing_code, block_code, blocks_bytes, code_if, stub_size_if, name_at}
unfoldable pub use Rattle.image_link.specs.Handlers.{block_bytes}
pub use Rattle.image_link.specs.Walks.{named_if, named_functions, IsName, IsNamed, function_rows, part_rows, all_part_rows, cold_rows, names_room}
unfoldable pub use Rattle.image_link.specs.Services.{services_of}
pub use Rattle.image_link.specs.Near.{IsRoutineNear, IsFrameNear, IsEntryNear, IsSiteNear, AreFew, AreBlocksNear, HasRoom, HasNames, HasPlaces}
pub use Rattle.image_link.specs.Routines.{RoutineView, function_facts, function_frame, placed_locals, framed, is_leaf, leaf_if, functions_from, funclet, routines, leaf_layout, function_layout, leaf, funclet_facts, funclet_frame, nothing, no_function, function_of_index, body_of_funclet, kept_by, HasParent, entry_of, funclet_layout, is_kept, is_spare, all_spare}
pub use Rattle.image_link.specs.Places.{PlaceView, parts_at, place_at, places_from, parts_from, parts_of}
pub use Rattle.image_link.specs.declared.fragments.Fragment.{Fragment}
pub use Rattle.image_link.specs.Tables.{infos_room, infos, range_if, range_at, range_of, ranges, fragment, fragments_if, fragments_of, fragments, chained_bytes, chained_infos, fragment_ranges, all_infos, all_ranges, trailer, scope_record, scope_records, scope_table, info_if, info_room, has_except, has_finally}
unfoldable pub use Rattle.image_link.specs.Tables.{info_bytes}
pub use Rattle.image_link.specs.Text.{SiteView, room, routine_size, cold_size, total, cold_total, apart_code, all_apart_bytes, site_blocks, entry_code, bounds, service_thunk, front_code, addresses, check_stack_at, routine_code, routines_bytes, text_bytes, routine_room, frame_code, base_of, argument_code, front_size, first_routine_at, own_addresses, thunk_at, thunks_at, code_at}
unfoldable pub use Rattle.image_link.specs.Text.{entry_size, routine_bytes, apart_bytes}
