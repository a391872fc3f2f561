-- Scope records by their addresses.
--
-- The main definitions: `record_at`, `AreAt`.
use Rattle.std.specs.Prelude.{◌≡◌, ℕ, ◌+◌, ◌*◌, ◌<◌, true, List, length, slice_index_or}
use Rattle.pe_image.specs.Image.{Image, section_at, stored_in}
use Rattle.eh_tables.specs.declared.layout.TheConstants.{HANDLER_SIZE, SCOPE_COUNT_SIZE, SCOPE_RECORD_SIZE}
use Rattle.eh_tables.specs.declared.scope.ScopeRecord.{ScopeRecord}
use Rattle.eh_tables.specs.declared.seen_records.SeenRecords.{SeenRecords}
use Rattle.eh_tables.specs.Infos.{Info}
use Rattle.eh_tables.specs.Scopes.{scope_record, is_within}
use Rattle.eh_tables.specs.SeenRecords.{WasSeen}

-- the record at an address
abbrev pub record_at : Image → ℕ → ScopeRecord
record_at image rva = scope_record (stored_in rva (section_at rva image.sections))

-- records that lie one after another from an address on
abbrev pub AreAt : Image → ℕ → List ScopeRecord → Type 0
AreAt image rva rs =
    (k : ℕ) (d : ScopeRecord) → k < length rs
    → slice_index_or rs k d ≡ record_at image (rva + SCOPE_RECORD_SIZE * k)

-- where the records of an info at an address lie, after its handler's address and their count
abbrev pub scope_records_rva : ℕ → Info → ℕ
scope_records_rva rva i = rva + length i.bytes + (HANDLER_SIZE + SCOPE_COUNT_SIZE)

-- each record that was seen passes
abbrev pub SeenPass : Image → SeenRecords → Type 0
SeenPass image seen =
    (rva : ℕ) → WasSeen seen rva → is_within image.size (record_at image rva) ≡ true
