-- Version 2 of unwind infos: its epilogues are listed, so that none is looked for elsewhere. The
-- slots before all codes have operation 6 (UWOP_EPILOG in the published headers; no page of the
-- Microsoft x64 ABI has it).
--
-- The main definitions: `epilogues_of`, `may_end`.
use Rattle.std.specs.Prelude.{ℕ, ◌+◌, ◌-◌, ◌*◌, ◌/◌, ◌%◌, Bool, true, false, ◌==◌, ◌&&◌, ◌||◌, nat_le, nat_lt, if◌then◌else◌, List, [], ◌∷◌}
use Rattle.eh_tables.specs.declared.layout.TheConstants.{UNWIND_VERSION_2}
use Rattle.eh_tables.specs.EitherInfos.{epilogue_slots}
use Rattle.eh_tables.specs.Infos.{version}
use Rattle.eh_tables.specs.Tables.{Entry}

-- ---- what the slots say

-- the size of all epilogues in bytes, and how far before the range's end each begins
pub record Epilogues : Type 0 where
  pub size : ℕ
  pub starts : List ℕ

-- 0 is padding
abbrev pub unless_zero : ℕ → List ℕ → List ℕ
unless_zero n others = if n == 0 then others else n ∷ others

-- of the slots after the first
abbrev pub starts_of : List ℕ → List ℕ
starts_of [] = []
starts_of (a ∷ []) = []
starts_of (a ∷ b ∷ rest) = unless_zero (a + 256 * (b / 16)) (starts_of rest)

-- the first slot has the size, and in bit 0 of its info whether one ends at the range's end
abbrev pub epilogues_of : List ℕ → Epilogues
epilogues_of [] = record { size = 0; starts = [] }
epilogues_of (a ∷ []) = record { size = 0; starts = [] }
epilogues_of (a ∷ b ∷ rest) =
    record { size = a; starts = unless_zero (b / 16 % 2 * a) (starts_of rest) }

-- ---- where an epilogue may stand

-- an address is inside an epilogue that begins so far before the range's end
abbrev pub is_in_one : ℕ → ℕ → ℕ → ℕ → Bool
is_in_one end size rva start = nat_le (end - start) rva && nat_lt rva (end - start + size)

abbrev pub is_inside : ℕ → ℕ → ℕ → List ℕ → Bool
is_inside end size rva [] = false
is_inside end size rva (s ∷ ss) = is_in_one end size rva s || is_inside end size rva ss

abbrev pub is_listed : ℕ → ℕ → List ℕ → Bool
is_listed end rva slots =
    is_inside end (epilogues_of slots).size rva (epilogues_of slots).starts

-- in version 2 inside a listed one alone
abbrev pub may_end : Entry → ℕ → Bool
may_end e rva =
    if version e.info.bytes == UNWIND_VERSION_2
    then is_listed e.range.end rva (epilogue_slots e.info.bytes) else true
