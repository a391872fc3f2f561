-- The memory that a dump has (Windows headers, minidumpapiset.h: MINIDUMP_MEMORY_LIST,
-- MINIDUMP_MEMORY64_LIST): its ranges, and the byte of each address.
--
-- The main definitions: `memory_ranges`, `byte_of`, `HaveMemory`, `AreRangesOf`.
use Rattle.std.specs.Prelude.{◌≡◌, ℕ, zero, suc, ◌+◌, ◌-◌, ◌^◌, Bool, ◌&&◌, nat_le, nat_lt, List, [], ◌∷◌, ◌++◌, take, drop, slice_index, if◌then◌else◌, Option, Some, None, Result, Ok, Err}
use Rattle.minidump.specs.declared.refusal.DumpErr.{DumpErr}
use Rattle.minidump.specs.declared.structures.Memory64List.{Memory64List}
use Rattle.minidump.specs.declared.structures.MemoryRange.{MemoryRange}
use Rattle.minidump.specs.declared.structures.RangePlace.{RangePlace}
use Rattle.minidump.specs.declared.structures.Table.{Table}
use Rattle.minidump.specs.Memory.{IsInFile, memory_list, memory64_list, range, range64, bytes64_at}
use Rattle.seh_views.specs.declared.c_types.SehRange.{SehRange}
use Rattle.seh_views.specs.Ranges.{held}

-- ---- the ranges

-- a range before others; one that is refused is left out
abbrev pub before : Result (Option MemoryRange) DumpErr → List MemoryRange → List MemoryRange
before (Ok (Some r)) others = r ∷ others
before (Ok None) others = others
before (Err e) others = others

-- so many ranges of the memory list, from an index on
abbrev pub ranges_from : List ℕ → Table → ℕ → ℕ → List MemoryRange
ranges_from file t k zero = []
ranges_from file t k (suc n) = before (range file t k) (ranges_from file t (k + 1) n)

-- the same of the 64-bit memory list, where the bytes of each range follow those before it
abbrev pub without_place : Result (Option (MemoryRange × RangePlace)) DumpErr
    → Result (Option MemoryRange) DumpErr
without_place (Ok (Some found)) = Ok (Some found.0)
without_place (Ok None) = Ok None
without_place (Err e) = Err e

abbrev pub place_of : List ℕ → Memory64List → ℕ → RangePlace
place_of file l k = record { index = k; at = bytes64_at file l k }

abbrev pub ranges64_from : List ℕ → Memory64List → ℕ → ℕ → List MemoryRange
ranges64_from file l k zero = []
ranges64_from file l k (suc n) =
    before (without_place (range64 file l.ranges (place_of file l k)))
    (ranges64_from file l (k + 1) n)

-- a list that is missing or refused has none
abbrev pub listed : List ℕ → Result (Option Table) DumpErr → List MemoryRange
listed file (Ok (Some t)) = ranges_from file t 0 t.count
listed file (Ok None) = []
listed file (Err e) = []

abbrev pub listed64 : List ℕ → Result (Option Memory64List) DumpErr → List MemoryRange
listed64 file (Ok (Some l)) = ranges64_from file l 0 l.ranges.count
listed64 file (Ok None) = []
listed64 file (Err e) = []

-- the ranges of a dump by its directory: those of the memory list, then those of the 64-bit one
abbrev pub memory_ranges : List ℕ → Table → List MemoryRange
memory_ranges file directory =
    listed file (memory_list file directory) ++ listed64 file (memory64_list file directory)

-- ---- the bytes

-- whether a range has an address, of which there are 2^64
abbrev pub covers : ℕ → MemoryRange → Bool
covers a r = nat_le r.start a && nat_lt a (r.start + r.size) && nat_lt a (2 ^ 64)

-- the byte that a range has at an address
abbrev pub byte_in : List ℕ → ℕ → MemoryRange → ℕ
byte_in file a r = slice_index file (r.at + (a - r.start))

-- the byte at an address, if a range has it: that of the first which covers it
abbrev pub byte_of : List ℕ → List MemoryRange → ℕ → Option ℕ
byte_of file [] a = None
byte_of file (r ∷ rs) a = if covers a r then Some (byte_in file a r) else byte_of file rs a

-- ---- ranges that a walk is given

abbrev pub first_byte : List ℕ → Option ℕ
first_byte [] = None
first_byte (b ∷ bs) = Some b

-- they have the bytes of these ranges, and no others, however they are sorted and cut
abbrev pub IsMemoryOf : List ℕ → List MemoryRange → List SehRange → Type 0
IsMemoryOf file ms rs = (a : ℕ) → first_byte (held a rs) ≡ byte_of file ms a

-- they have the memory of a dump, by its directory
abbrev pub HaveMemory : List ℕ → Table → List SehRange → Type 0
HaveMemory file directory rs = IsMemoryOf file (memory_ranges file directory) rs

-- a range of a dump with its bytes
pub record IsRangeOf (file : List ℕ) (m : MemoryRange) (r : SehRange) : Type 0 where
  pub inside : IsInFile file m
  pub at : r.at ≡ m.start
  pub bytes : r.bytes.now ≡ take m.size (drop m.at file)

-- those of a dump, each as it is
abbrev pub AreRangesOf : List ℕ → List MemoryRange → List SehRange → Type 0
AreRangesOf file [] [] = Unit {0}
AreRangesOf file [] (r ∷ rs) = ⊥
AreRangesOf file (m ∷ ms) [] = ⊥
AreRangesOf file (m ∷ ms) (r ∷ rs) = IsRangeOf file m r × AreRangesOf file ms rs
