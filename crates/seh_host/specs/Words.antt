-- The words of this crate's proofs: what its lemma files import, by the crates below.
pub use Rattle.seh_num.specs.declared.end.RunEnd.{RunEnd}
pub use Rattle.flat_memory.specs.Memory.{Memory, distance, with_bytes, first_byte}
unfoldable pub use Rattle.flat_memory.specs.Memory.{with_number}
pub use Rattle.seh_io.specs.Text.{lines, end_line, text}
pub use Rattle.seh_io.specs.Writer.{Writer, writer_of, Wrote, TookEvents, TookPart}
pub use Rattle.pe_image.specs.Image.{Section, Image, AreAscending, is_readable, is_writable, is_executable, stores_byte, section_or, section_at, stored_in}
pub use Rattle.pe_image.specs.Imports.{Import, imports, imports_of}
pub use Rattle.x64_memory.specs.PageMaps.{memory_of, holds}
pub use Rattle.x64_memory.specs.Regions.{IsWholeRegion, in_regions, region_mode, rights, with_region, mapped, mapped_over, filled}
pub use Rattle.x64_memory.specs.declared.region.TheConstants.{ARENA, DATA_STACK}
pub use Rattle.virtual_unwind.specs.CallerOf.{Functions, functions_of, name_rows}
pub use Rattle.host_model.specs.HostStep.{end_of, Host, Live, Ended, host, over}
pub use Rattle.host_model.specs.Loading.{has_place, pages, begins_at, covers, or_else, section_of, rights_of, section_mode, in_stack, in_data_stack, stack_mode, mode_in, byte_in, service_named, with_address, with_slots, first_cpu}
unfoldable pub use Rattle.host_model.specs.Loading.{start}
pub use Rattle.seh_host.specs.Names.{named_by, image_named}
pub use Rattle.seh_host.specs.Mapping.{stack, section_region, regions_of, blank_memory, with_raw, unbound}
pub use Rattle.seh_host.specs.Running.{Running, made, shown_made, after_turn, shown_of, run_of, run_names, running_of, image_of, event_count}
pub use Rattle.seh_host.specs.Turns.{end_within, answer_of}
