-- The scope records that are asked at a frame, with their indices.
--
-- `searched`, `unwound`: the scope records of an entry that hold an address and are asked while
-- searching and while unwinding, with their indices (Microsoft x64 ABI, "Language-specific
-- handler"; EHANDLER and UHANDLER).
use Rattle.std.specs.Prelude.{ℕ, ◌+◌, ◌%◌, Bool, true, false, ◌==◌, ◌&&◌, ◌||◌, not, nat_lt, nat_le, if◌then◌else◌, List, [], ◌∷◌, drop, Option, Some, None}
use Rattle.eh_tables.specs.declared.scope.ScopeRecord.{ScopeRecord}
use Rattle.eh_tables.specs.Infos.{Info}

abbrev pub AskedRecord : Type 0
AskedRecord = ℕ × ScopeRecord

abbrev pub holds : ScopeRecord → ℕ → Bool
holds r rva = nat_le r.begin rva && nat_lt rva r.end

-- the rows that hold an address, of those from an index on
abbrev pub holding : ℕ → ℕ → List ScopeRecord → List AskedRecord
holding rva k [] = []
holding rva k (r ∷ rows) =
    if holds r rva then (k, r) ∷ holding rva (k + 1) rows else holding rva (k + 1) rows

abbrev pub rows_from : ℕ → ℕ → List ScopeRecord → List AskedRecord
rows_from rva from rows = holding rva from (drop from rows)

-- EHANDLER and UHANDLER
abbrev pub is_searched : Info → Bool
is_searched i = i.flags % 2 == 1

abbrev pub is_unwound : Info → Bool
is_unwound i = nat_lt 1 i.flags && nat_lt i.flags 4

abbrev pub asked_by : Bool → Info → ℕ → ℕ → List AskedRecord
asked_by b i rva from = if b then rows_from rva from i.scopes else []

-- while searching
abbrev pub searched : Option Info → ℕ → ℕ → List AskedRecord
searched None rva from = []
searched (Some i) rva from = asked_by (is_searched i) i rva from

-- while unwinding, a target ends the rows of its frame
abbrev pub is_end : ℕ → ScopeRecord → Bool
is_end target r = holds r target || (not (r.jump_target == 0) && (r.jump_target == target))

abbrev pub until : ℕ → List AskedRecord → List AskedRecord
until target [] = []
until target (r ∷ rows) = if is_end target r.1 then [] else r ∷ until target rows

abbrev pub until_if : Bool → ℕ → List AskedRecord → List AskedRecord
until_if true target rows = until target rows
until_if false target rows = rows

abbrev pub unwound : Option Info → ℕ → ℕ → Bool → ℕ → List AskedRecord
unwound None rva from is_last target = []
unwound (Some i) rva from is_last target =
    until_if is_last target (asked_by (is_unwound i) i rva from)

-- the first row of a kind
abbrev pub first_with_jump_target : List AskedRecord → Option AskedRecord
first_with_jump_target [] = None
first_with_jump_target (r ∷ rows) =
    if r.1.jump_target == 0 then first_with_jump_target rows else Some r

abbrev pub first_finally : List AskedRecord → Option AskedRecord
first_finally [] = None
first_finally (r ∷ rows) = if r.1.jump_target == 0 then Some r else first_finally rows
