-- The lemmas of the crates below that files of this crate cite.
pub use Rattle.pe_write.proofs.Programs.{listed}
pub use Rattle.template_code.proofs.Sizes.{sizes_append, template_sizes, sizes_spelled}
pub use Rattle.frame_rules.proofs.Bytes.{never_empty, items_are_at}
pub use Rattle.host_model.proofs.Slots.{slots_read, slots-beside}
pub use Rattle.x64_emit.proofs.Nearby.{all_at, test_small, arguments_small, passing_small, instruction_in_room}
pub use Rattle.image_link.proofs.Entries.{entry_sizes, routine_small, entry_small}
pub use Rattle.image_link.proofs.Images.{no_routine}
pub use Rattle.image_tables.proofs.BodyFrames.{operations_by, Covers, covered, no_epilogue, away, found_in, none_in, HasEntry, has_entry, frame_is_at, leaves_are_at}
pub use Rattle.image_tables.proofs.BodyInstructions.{Inner, AllInner, inner_at, inner_role, fetch_inner, signed}
pub use Rattle.image_tables.proofs.CodeInMemory.{IsThere, there, executable_split, code_split, IsTemplate, template_there, code_length, cold_small, hot_small}
pub use Rattle.image_tables.proofs.FramePlans.{described, prologue_some, prologue_sizes, laid_plan, laid_epilogue, leaf_laid}
pub use Rattle.image_tables.proofs.Layouts.{size_of, sized, slots_of, slots_placed}
pub use Rattle.image_tables.proofs.Lookups.{some_same, none_some, placed_has, placed_most, placed_cold_least, placed_cold_most, part_within, beyond_is_held_by_none, thunks_are_held_by_none}
pub use Rattle.image_tables.proofs.Prologues.{entry_least}
pub use Rattle.image_tables.proofs.RoutineRows.{bounds_rise, IsBare, routines_bare, is_placed}
pub use Rattle.image_tables.proofs.Shape.{no_funclet, as_long, begin_is, funclet_is, funclet_size, rises, tables_have_shape, entries_are_flagged, functions_count}
pub use Rattle.image_tables.proofs.Table.{text_is, end_inside, is, rdata_is, tables_are_read, image_small}
pub use Rattle.image_tables.proofs.RoutineRanges.{routines_have}
pub use Rattle.image_link.proofs.Nearness.{routines_near}
pub use Rattle.x64_templates.proofs.Accesses.{digits}
pub use Rattle.match_bodies.proofs.Places.HiddenBytes.{pointer_is_seen}
