-- Two ranges of a dump that overlap, written out.
--
-- The main definition: `FirstRangeCounts`.
use Rattle.std.specs.Prelude.{◌≡◌, ℕ, List, [], ◌∷◌, Some, None}
use Rattle.minidump.specs.declared.structures.MemoryRange.{MemoryRange}
use Rattle.dump_stacks.specs.Ranges.{byte_of}

abbrev pub file : List ℕ
file = 11 ∷ 12 ∷ 13 ∷ 14 ∷ []

-- two bytes from address 33 on, and two from address 32 on
abbrev pub overlapping : List MemoryRange
overlapping =
    record { start = 33; size = 2; at = 0 } ∷ record { start = 32; size = 2; at = 2 } ∷ []

-- both have address 33, of which the first counts
pub record FirstRangeCounts : Type 0 where
  pub below : byte_of file overlapping 31 ≡ None
  pub second : byte_of file overlapping 32 ≡ Some 13
  pub both : byte_of file overlapping 33 ≡ Some 11
  pub first : byte_of file overlapping 34 ≡ Some 12
  pub above : byte_of file overlapping 35 ≡ None
