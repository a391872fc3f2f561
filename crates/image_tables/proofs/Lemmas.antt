-- The lemmas of the crates below that files of this crate cite.
pub use Rattle.seh_ir.proofs.EveryInstruction.{all_append}
pub use Rattle.pe_write.proofs.Programs.{xdata_is_at, pdata_is_at, listed}
pub use Rattle.template_code.proofs.Sizes.{sizes_append, template_sizes, sizes_spelled, body_sizes, call_size, jump_size, passing_call_size}
pub use Rattle.frame_rules.proofs.Bytes.{never_empty, items_are_at, spells_all, plans_are_encodable}
pub use Rattle.frame_rules.proofs.Emitting.{plans_are_right, inner_following, epilogue_following}
pub use Rattle.frame_layout.proofs.Codes.{describes, can_be_written}
pub use Rattle.x64_emit.proofs.Nearby.{near_signed, instruction_in_room, all_at, test_small, arguments_small, passing_small}
pub use Rattle.image_link.proofs.Bounds.{bounds_length, bounds_least, bounds_below, count_small, text_length, total_small}
pub use Rattle.image_link.proofs.Entries.{entry_sizes, routine_small, entry_small}
pub use Rattle.image_link.proofs.Front.{front_sizes, imports_small, place_small, services_few, services_there}
pub use Rattle.image_link.proofs.Images.{functions_count, has_places, has_names, site_near, site_fewer, tables_fit, no_routine, is_program}
pub use Rattle.image_link.proofs.Imports.{place_here, place_later, same_service, thunk_there, IsWithin, slots_within, all_from}
pub use Rattle.image_link.proofs.Nearness.{routines_near}
