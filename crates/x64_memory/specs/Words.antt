-- The words of this crate's proofs: what its lemma files import, by the crates below.
pub use Rattle.seh_num.specs.Widths.{bytes_of}
pub use Rattle.flat_memory.specs.Memory.{Memory, with_bytes, distance, may_write, with_rights, next, may_read, access, refused, loaded, stored, protected, unless_refused, with_byte}
unfoldable pub use Rattle.flat_memory.specs.Memory.{with_number, executable, first_refused, number_at}
pub use Rattle.flat_memory.specs.Protections.{is_writable, is_readable}
pub use Rattle.flat_memory.specs.declared.protection.Protection.{Protection}
pub use Rattle.x64_memory.specs.PageMaps.{memory_of, holds}
pub use Rattle.x64_memory.specs.Pages.{page_mode, page_byte, has_page, HasArena, zero_page, page_with_number, IsRestOfPage, with_page, readable_byte, or_number, number_or_refused}
unfoldable pub use Rattle.x64_memory.specs.Pages.{paged}
pub use Rattle.x64_memory.specs.Regions.{IsWholeRegion, region_mode, covers, with_region, unmapped, in_regions, HoldsArena, filled, mapped_over, AreAscending, mapped}
pub use Rattle.x64_memory.specs.Stretches.{has_number, index_of, page_at, page_numbered, AreOrdered, count_from, end_from}
pub use Rattle.x64_memory.specs.declared.page.Page.{Page}
pub use Rattle.x64_memory.specs.declared.region.Region.{Region}
pub use Rattle.x64_memory.specs.declared.stretch.Stretch.{Stretch}
