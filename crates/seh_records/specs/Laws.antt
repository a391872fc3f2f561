-- What holds of records.
use Rattle.std.specs.Prelude.{◌≡◌, ◌⊎◌, ℕ, ◌+◌, ◌%◌, ◌^◌, ◌<◌, ◌≤◌, List, length, slice_index, codes, Some, None}
use Rattle.byteorder.specs.Endian.{little_bytes}
use Rattle.seh_num.specs.declared.width.Width.{Width}
use Rattle.seh_num.specs.Widths.{bytes_of}
use Rattle.seh_num.specs.declared.size.TheConstants.{EXCEPTION_MAXIMUM_PARAMETERS}
use Rattle.flat_memory.specs.Memory.{Memory, first_refused, may_read, after_store}
use Rattle.flat_memory.specs.Laws.{IsApart}
use Rattle.seh_records.specs.declared.dispatch.DispatchRecord.{DispatchRecord}
use Rattle.seh_records.specs.Record.{mark, misplaced, placed, fetched, IsRecordAt}
use Rattle.seh_records.specs.declared.layout.TheConstants.{RECORD_SIZE, MARK_AT}

abbrev pub MarkSpells : Type 0
MarkSpells = little_bytes 8 mark ≡ codes "SEHDSPCH"

abbrev pub AllSmall : List ℕ → Type 0
AllSmall xs = (j : ℕ) → j < length xs → slice_index xs j < 2 ^ 64

-- what the fields hold by their types
pub record RecordFits (r : DispatchRecord) : Type 0 where
  pub frame : r.frame < 2 ^ 64
  pub row : r.row < 2 ^ 64
  pub target_frame : r.target_frame < 2 ^ 64
  pub target : r.target < 2 ^ 64
  pub code : r.code.0 < 2 ^ 32
  pub flags : r.flags < 2 ^ 32
  pub count : r.count < 2 ^ 32
  pub rip : r.saved.rip < 2 ^ 64
  pub walk_rip : r.walk.rip < 2 ^ 64
  pub parameters : length r.parameters ≡ EXCEPTION_MAXIMUM_PARAMETERS
  pub registers : length r.saved.registers ≡ 16
  pub kept : length r.walk.kept ≡ 9
  pub parameters_small : AllSmall r.parameters
  pub registers_small : AllSmall r.saved.registers
  pub kept_small : AllSmall r.walk.kept

abbrev pub AreBytes : (ℕ → ℕ) → Type 0
AreBytes byte = (x : ℕ) → byte x < 256

abbrev pub Readable : Memory → ℕ → Type 0
Readable m at = first_refused (may_read m) RECORD_SIZE at ≡ None

-- a record that is placed is there
abbrev pub PlacedIsRecord : Type 0
PlacedIsRecord =
    (m : Memory) (at : ℕ) (r : DispatchRecord) → at + RECORD_SIZE < 2 ^ 64 → at % 16 ≡ 0
    → RecordFits r
    → Readable m at → IsRecordAt (placed m at r) at r

-- one that is there is fetched
abbrev pub RecordIsFetched : Type 0
RecordIsFetched =
    (m : Memory) (at : ℕ) (r : DispatchRecord) → at + RECORD_SIZE < 2 ^ 64 → AreBytes m.byte
    → RecordFits r → IsRecordAt m at r → fetched m at ≡ Some r

abbrev pub PlacedIsFetched : Type 0
PlacedIsFetched =
    (m : Memory) (at : ℕ) (r : DispatchRecord) → at + RECORD_SIZE < 2 ^ 64 → AreBytes m.byte
    → RecordFits r → Readable m at → fetched (placed m at r) at ≡ Some r

-- so where a place isn't refused, the record that is placed there is fetched again
abbrev pub PlacedIsFetchedWhereNotRefused : Type 0
PlacedIsFetchedWhereNotRefused =
    (m : Memory) (at : ℕ) (r : DispatchRecord) → at < 2 ^ 64 → AreBytes m.byte → RecordFits r
    → misplaced m at ≡ None → fetched (placed m at r) at ≡ Some r

-- placing changes no byte outside the record, and none of its home space
abbrev pub PlacingLeavesOthers : Type 0
PlacingLeavesOthers =
    (m : Memory) (at : ℕ) (r : DispatchRecord) (x : ℕ) → at + RECORD_SIZE < 2 ^ 64 → RecordFits r
    → (x < at + MARK_AT) ⊎ (at + RECORD_SIZE ≤ x) → (placed m at r).byte x ≡ m.byte x

-- fetching reads no byte but those past the home space
abbrev pub FetchedByItsBytes : Type 0
FetchedByItsBytes =
    (m new : Memory) (at : ℕ) → at + RECORD_SIZE < 2 ^ 64
    → first_refused (may_read new) RECORD_SIZE at ≡ first_refused (may_read m) RECORD_SIZE at
    → ((x : ℕ) → at + MARK_AT ≤ x → x < at + RECORD_SIZE → new.byte x ≡ m.byte x)
    → fetched new at ≡ fetched m at

-- so a store that overlaps none of them leaves what is fetched
abbrev pub StoresLeaveIt : Type 0
StoresLeaveIt =
    (m : Memory) (at to v : ℕ) (w : Width) → at + RECORD_SIZE < 2 ^ 64 → to < 2 ^ 64
    → ((x : ℕ) → at + MARK_AT ≤ x → x < at + RECORD_SIZE → IsApart x to (bytes_of w))
    → fetched (after_store m to w v) at ≡ fetched m at
