-- The words of this crate's proofs: what its lemma files import, by the crates below.
pub use Rattle.seh_num.specs.Answers.{◌>>=◌, unless, onto, prepend, or_refused}
pub use Rattle.pe_image.specs.Field.{field}
pub use Rattle.pe_image.specs.Image.{Image, stored, Section, section_at, stored_in, only_if, whole}
unfoldable pub use Rattle.pe_image.specs.Numbers.{u16, u32}
pub use Rattle.eh_tables.specs.Answer.{Table}
pub use Rattle.eh_tables.specs.Codes.{code_before, codes, code_checked, in_order}
unfoldable pub use Rattle.eh_tables.specs.Codes.{operation}
pub use Rattle.eh_tables.specs.Infos.{Info, range_at, info_of, scope_records_at, scope_records_if}
unfoldable pub use Rattle.eh_tables.specs.Infos.{info, stored_info, stored_scope_records}
pub use Rattle.eh_write.specs.ReadAgain.{IsOperation, IsStoredAt, HasTrailer, IsUnwindInfo, handler_of, parent_of, is_c, has_c_handler, info_written, InfoIsReadAgain, ScopeRecordsAreReadAgain, IsRuntimeFunction, IsScopeRecord, RangesAreReadAgain, WrittenInfo, WrittenEntry, HasScopes, IsInfoWritten, IsChainedTo, IsEntryWritten, AreInOrder, info_read, as_read, ranges_of, TableIsReadAgain}
pub use Rattle.eh_tables.specs.Scopes.{scope_record, rows, scope_records_in}
pub use Rattle.eh_tables.specs.Tables.{Entry, parents, Tables, entry_at, no_range, end_before, entries, entries_of, covers_address, entry_or, holding, TablesAreWhole, ranges, ranges_in, passed, unless_none, stored_ranges, checked}
unfoldable pub use Rattle.eh_tables.specs.Tables.{entry, directory}
pub use Rattle.eh_write.specs.Written.{slot, is_short, is_small, allocation, saving, operation_bytes, code_bytes, codes_bytes, OperationFits, AreFalling, trailer_flags, trailer_bytes, range_bytes, padded, header, is_framed, IsTrailer, CanBeWritten, scope_record_bytes, scope_bytes, table_bytes}
unfoldable pub use Rattle.eh_write.specs.Written.{unwind_bytes}
pub use Rattle.eh_tables.specs.declared.code.UnwindCode.{UnwindCode}
pub use Rattle.eh_tables.specs.declared.code.UnwindOperation.{UnwindOperation}
pub use Rattle.eh_tables.specs.declared.layout.TheConstants.{UWOP_PUSH_NONVOL, UWOP_ALLOC_LARGE, UWOP_ALLOC_SMALL, UWOP_SET_FPREG, UWOP_SAVE_NONVOL, UWOP_SAVE_NONVOL_FAR, UWOP_SAVE_XMM128, UWOP_SAVE_XMM128_FAR, UWOP_PUSH_MACHFRAME, UNWIND_CODES, HANDLER_SIZE, RUNTIME_FUNCTION_SIZE, UNWIND_VERSION, UNW_FLAG_EHANDLER, UNW_FLAG_UHANDLER, UNW_FLAG_CHAININFO, MOST_PARENTS}
pub use Rattle.eh_tables.specs.declared.range.RuntimeFunction.{RuntimeFunction}
pub use Rattle.eh_tables.specs.declared.refusal.TableErr.{TableErr}
pub use Rattle.eh_tables.specs.declared.scope.ScopeRecord.{ScopeRecord}
