-- Scope records that were gone over.
--
-- The main definition: `WasSeen`.
use Rattle.std.specs.Prelude.{◌≡◌, ℕ, ◌+◌, ◌*◌, ◌/◌, ◌%◌, ◌^◌, ◌≤◌, ◌<◌, Some}
use Rattle.std.specs.Ordering.{nat_cmp}
use Rattle.std.specs.BTreeMap.{BTreeMap, get}
use Rattle.eh_tables.specs.declared.layout.TheConstants.{SCOPE_RECORD_SIZE}
use Rattle.eh_tables.specs.declared.seen_records.SeenRecords.{SeenRecords}

-- the place of the record at an address, among those at addresses with the same remainder
abbrev pub place : ℕ → ℕ
place rva = rva % SCOPE_RECORD_SIZE * 2 ^ 60 + rva / SCOPE_RECORD_SIZE

-- a place lies in a run
pub record InRun (runs : BTreeMap ℕ ℕ) (place : ℕ) : Type 0 where
  pub from : ℕ
  pub to : ℕ
  pub run : get nat_cmp runs from ≡ Some to
  pub begun : from ≤ place
  pub goes_on : place < to

-- the record at an address was gone over (`SeenRecords`): its place, which for records one after
-- another is one number after another, lies in a run
pub record WasSeen (seen : SeenRecords) (rva : ℕ) : Type 0 where
  pub fits : rva < 2 ^ 64
  pub in_run : InRun seen.runs (place rva)

-- an address is that of one of so many records from another on
pub record IsRecordOf (rva count at : ℕ) : Type 0 where
  pub row : ℕ
  pub within : row < count
  pub is : at ≡ rva + SCOPE_RECORD_SIZE * row
