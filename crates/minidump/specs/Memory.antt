-- The ranges of the process's memory (Windows headers, minidumpapiset.h: MINIDUMP_MEMORY_LIST,
-- MINIDUMP_MEMORY64_LIST).
--
-- The main definitions: `memory_list`, `range`, `memory64_list`, `range64`, `IsPlace`.
use Rattle.std.specs.Prelude.{◌≡◌, ℕ, zero, suc, ◌+◌, ◌*◌, ◌≤◌, ◌&&◌, nat_le, List, length, Option, Some, None, Result, Ok}
use Rattle.seh_num.specs.Answers.{unless, ◌>>=◌}
use Rattle.pe_image.specs.Field.{field, is_there}
use Rattle.minidump.specs.declared.layout.TheConstants.{MEMORY_DESCRIPTOR_SIZE, MEMORY64_LIST_SIZE, NUMBER_OF_MEMORY_RANGES, BASE_RVA, MEMORY_DESCRIPTOR64_SIZE, START_OF_MEMORY_RANGE, DATA_SIZE64}
use Rattle.minidump.specs.declared.refusal.DumpErr.{DumpErr}
use Rattle.minidump.specs.declared.refusal.DumpErr.TheVariants as refusals
use Rattle.minidump.specs.declared.stream_kind.StreamKind.TheVariants as kinds
use Rattle.minidump.specs.declared.structures.Location.{Location}
use Rattle.minidump.specs.declared.structures.Memory64List.{Memory64List}
use Rattle.minidump.specs.declared.structures.MemoryDescriptor.{MemoryDescriptor}
use Rattle.minidump.specs.declared.structures.MemoryRange.{MemoryRange}
use Rattle.minidump.specs.declared.structures.RangePlace.{RangePlace}
use Rattle.minidump.specs.declared.structures.Table.{Table}
use Rattle.minidump.specs.Streams.{held}
use Rattle.minidump.specs.Lists.{list, record_at, memory_descriptor_at}

-- the bytes of a range lie in the file
abbrev pub IsInFile : List ℕ → MemoryRange → Type 0
IsInFile bytes r = r.at + r.size ≤ length bytes

-- a range that lies in the file; it is refused by its index
abbrev pub range_in_file : List ℕ → ℕ → MemoryRange → Result (Option MemoryRange) DumpErr
range_in_file bytes index r = do
  _ ← unless (is_there bytes r.at r.size) (refusals.RangeTruncated index)
  Ok (Some r)

-- ---- the memory list

abbrev pub memory_list : List ℕ → Table → Result (Option Table) DumpErr
memory_list bytes directory = list bytes directory kinds.MemoryList MEMORY_DESCRIPTOR_SIZE

abbrev pub range_of : MemoryDescriptor → MemoryRange
range_of d = record { start = d.start; size = d.memory.size; at = d.memory.rva }

abbrev pub range_if_there : List ℕ → ℕ → Option ℕ → Result (Option MemoryRange) DumpErr
range_if_there bytes index None = Ok None
range_if_there bytes index (Some at) =
    range_in_file bytes index (range_of (memory_descriptor_at bytes at))

-- the range of an index, if there is one
abbrev pub range : List ℕ → Table → ℕ → Result (Option MemoryRange) DumpErr
range bytes t index = range_if_there bytes index (record_at bytes t MEMORY_DESCRIPTOR_SIZE index)

-- ---- the 64-bit memory list

abbrev pub memory64_list_in : List ℕ → Location → Result Memory64List DumpErr
memory64_list_in bytes l = do
  _ ← unless (nat_le MEMORY64_LIST_SIZE l.size && nat_le (MEMORY64_LIST_SIZE
      + MEMORY_DESCRIPTOR64_SIZE * field 8 bytes (l.rva + NUMBER_OF_MEMORY_RANGES)) l.size)
      (refusals.StreamShort kinds.Memory64List)
  Ok (record {
    ranges = record {
      at = l.rva + MEMORY64_LIST_SIZE;
      count = field 8 bytes (l.rva + NUMBER_OF_MEMORY_RANGES);
    };
    base_rva = field 8 bytes (l.rva + BASE_RVA);
  })

abbrev pub memory64_list : List ℕ → Table → Result (Option Memory64List) DumpErr
memory64_list bytes directory = held bytes directory kinds.Memory64List (memory64_list_in bytes)

abbrev pub range64_at : List ℕ → ℕ → ℕ → MemoryRange
range64_at bytes offset at = record {
  start = field 8 bytes (offset + START_OF_MEMORY_RANGE);
  size = field 8 bytes (offset + DATA_SIZE64);
  at = at;
}

-- the place after a range
abbrev pub place_after : RangePlace → MemoryRange → RangePlace
place_after place r = record { index = place.index + 1; at = r.at + r.size }

abbrev pub with_next : RangePlace → MemoryRange → MemoryRange × RangePlace
with_next place r = (r, place_after place r)

abbrev pub range64_in_file : List ℕ → RangePlace → MemoryRange
    → Result (Option (MemoryRange × RangePlace)) DumpErr
range64_in_file bytes place r = do
  _ ← unless (is_there bytes r.at r.size) (refusals.RangeTruncated place.index)
  Ok (Some (with_next place r))

abbrev pub range64_if_there : List ℕ → RangePlace → Option ℕ
    → Result (Option (MemoryRange × RangePlace)) DumpErr
range64_if_there bytes place None = Ok None
range64_if_there bytes place (Some offset) =
    range64_in_file bytes place (range64_at bytes offset place.at)

-- the range at a place, and the place after it, if there is one. The bytes of a range begin where
-- those of the range before end, so where one is refused no later one lies in the file
abbrev pub range64 : List ℕ → Table → RangePlace
    → Result (Option (MemoryRange × RangePlace)) DumpErr
range64 bytes t place =
    range64_if_there bytes place (record_at bytes t MEMORY_DESCRIPTOR64_SIZE place.index)

-- where the bytes of the range of an index begin: after those of all before it
abbrev pub size64 : List ℕ → Table → ℕ → ℕ
size64 bytes t index = field 8 bytes (t.at + MEMORY_DESCRIPTOR64_SIZE * index + DATA_SIZE64)

abbrev pub bytes64_at : List ℕ → Memory64List → ℕ → ℕ
bytes64_at bytes l zero = l.base_rva
bytes64_at bytes l (suc k) = bytes64_at bytes l k + size64 bytes l.ranges k

-- a place that is one of the list: its offset is where the bytes of its range begin
abbrev pub IsPlace : List ℕ → Memory64List → RangePlace → Type 0
IsPlace bytes l place = place.at ≡ bytes64_at bytes l place.index
