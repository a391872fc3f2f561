-- The words of this crate's proofs: what its lemma files import, by the crates below.
pub use Rattle.seh_num.specs.Widths.{if_set, bytes_of}
pub use Rattle.seh_num.specs.declared.width.Width.TheVariants.{W64, W32}
pub use Rattle.flat_memory.specs.Laws.{IsApart}
pub use Rattle.flat_memory.specs.Memory.{distance, Memory, next, may_read, is_among, with_bytes, may_write, loaded, access, after_store, unless_refused}
unfoldable pub use Rattle.flat_memory.specs.Memory.{with_number, number_at, first_refused}
pub use Rattle.flat_memory.specs.Protections.{is_readable, is_writable}
pub use Rattle.flat_memory.specs.declared.protection.Protection.{Protection}
pub use Rattle.seh_records.specs.Laws.{AreBytes, RecordFits, RecordIsFetched, AllSmall, Readable, PlacedIsRecord, PlacedIsFetched, PlacedIsFetchedWhereNotRefused, PlacingLeavesOthers, FetchedByItsBytes, StoresLeaveIt}
pub use Rattle.seh_records.specs.Record.{head, front, back, mark, number_of, kind_of, if_readable, if_marked, of_kind, recorded, word, half, words_from, eflags, flags_of, return_address_at}
unfoldable pub use Rattle.seh_records.specs.Record.{words, fetched, placed, misplaced}
pub use Rattle.seh_records.specs.Words.{block_byte, byte_of}
unfoldable pub use Rattle.seh_records.specs.Words.{with_words, with_block, words_at}
pub use Rattle.seh_records.specs.declared.dispatch.DispatchRecord.{DispatchRecord}
pub use Rattle.seh_records.specs.declared.dispatch.Kind.{Kind}
pub use Rattle.seh_records.specs.declared.dispatch.Kind.TheVariants.{Search, ExceptionUnwind, LocalUnwind, Vectored}
pub use Rattle.seh_records.specs.declared.layout.TheConstants.{RECORD_SIZE, PLACED_SIZE}
