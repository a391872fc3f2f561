-- What opening a dump fills, and the bytes that a call answers.
--
-- The main definitions: `OpenAnswers`, `BytesAnswers`.
use Rattle.std.specs.Prelude.{◌≡◌, ℕ, List, take, drop, Option, Some, None, Result, Ok, Err}
use Rattle.seh_num.specs.Answers.{◌>>=◌}
use Rattle.minidump.specs.declared.refusal.DumpErr.{DumpErr}
use Rattle.minidump.specs.declared.structures.Exception.{Exception}
use Rattle.minidump.specs.declared.structures.Memory64List.{Memory64List}
use Rattle.minidump.specs.declared.structures.MemoryRange.{MemoryRange}
use Rattle.minidump.specs.declared.structures.RangePlace.{RangePlace}
use Rattle.minidump.specs.declared.structures.SystemInfo.{SystemInfo}
use Rattle.minidump.specs.declared.structures.Table.{Table}
use Rattle.minidump.specs.Streams.{directory}
use Rattle.minidump.specs.Lists as lists
use Rattle.minidump.specs.Lists.{exception, system_info}
use Rattle.minidump.specs.Memory.{memory_list, memory64_list}
use Rattle.minidump_c.specs.declared.dump.SehDump.{SehDump}
use Rattle.minidump_c.specs.declared.dump.SehBytes.{SehBytes}
use Rattle.minidump_c.specs.declared.dump.SehRange.{SehRange}
use Rattle.minidump_c.specs.declared.status.SehStatus.{SehStatus}
use Rattle.minidump_c.specs.Statuses.{ok, refusal_status, status_of, after}

-- ---- opening

abbrev pub no_records : Table
no_records = record { at = 0; count = 0 }

abbrev pub no_list : Memory64List
no_list = record { ranges = no_records; base_rva = 0 }

-- a dump's bytes, and its lists by its directory; one that it hasn't, or that is refused, has no
-- records, and its status says which
pub record IsDumpOf (file : List ℕ) (t : Table) (d : SehDump) : Type 0 where
  pub bytes : d.bytes.now ≡ file
  pub threads : d.threads ≡ after no_records (lists.threads file t)
  pub modules : d.modules ≡ after no_records (lists.modules file t)
  pub memory : d.memory ≡ after no_records (memory_list file t)
  pub memory64 : d.memory64 ≡ after no_list (memory64_list file t)
  pub threads_status : d.threads_status ≡ status_of (lists.threads file t)
  pub modules_status : d.modules_status ≡ status_of (lists.modules file t)
  pub memory_status : d.memory_status ≡ status_of (memory_list file t)
  pub memory64_status : d.memory64_status ≡ status_of (memory64_list file t)

-- what `seh_dump_open` returns and writes
abbrev pub Opens : List ℕ → Result Table DumpErr → SehDump → SehDump → SehStatus → Type 0
Opens bytes (Ok t) old new given = IsDumpOf bytes t new × (given ≡ ok)
Opens bytes (Err e) old new given = (new ≡ old) × (given ≡ refusal_status e)

abbrev pub OpenAnswers : List ℕ → SehDump → SehDump → SehStatus → Type 0
OpenAnswers bytes old new given = Opens bytes (directory bytes) old new given

-- ---- bytes of the file

abbrev pub BytesAnswers : Result (List ℕ) DumpErr → SehBytes → SehBytes → SehStatus → Type 0
BytesAnswers (Ok bytes) old new given = (new.bytes.now ≡ bytes) × (given ≡ ok)
BytesAnswers (Err e) old new given = (new ≡ old) × (given ≡ refusal_status e)

-- a range of memory in a dump, as a range with its bytes
pub record IsRange (file : List ℕ) (r : MemoryRange) (range : SehRange) : Type 0 where
  pub at : range.at ≡ r.start
  pub bytes : range.bytes.now ≡ take r.size (drop r.at file)

abbrev pub RangeAnswers : List ℕ → Result (Option MemoryRange) DumpErr → SehRange → SehRange
    → SehStatus → Type 0
RangeAnswers bytes (Ok (Some r)) old new given = IsRange bytes r new × (given ≡ ok)
RangeAnswers bytes (Ok None) old new given =
    (new ≡ old) × (given ≡ status_of {A = MemoryRange} (Ok None))
RangeAnswers bytes (Err e) old new given = (new ≡ old) × (given ≡ refusal_status e)

-- a range without the place after it, and that place; where there is none it stays
abbrev pub range_found : Result (Option (MemoryRange × RangePlace)) DumpErr
    → Result (Option MemoryRange) DumpErr
range_found (Ok (Some found)) = Ok (Some found.0)
range_found (Ok None) = Ok None
range_found (Err e) = Err e

abbrev pub place_left : RangePlace → Result (Option (MemoryRange × RangePlace)) DumpErr → RangePlace
place_left old (Ok (Some found)) = found.1
place_left old (Ok None) = old
place_left old (Err e) = old

-- ---- one structure of a file

abbrev pub exception_of : List ℕ → Result (Option Exception) DumpErr
exception_of bytes = do
  t ← directory bytes
  exception bytes t

abbrev pub system_of : List ℕ → Result (Option SystemInfo) DumpErr
system_of bytes = do
  t ← directory bytes
  system_info bytes t
