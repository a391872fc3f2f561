-- Chain: what an entry that is chained to another one is to be (Microsoft x64 ABI, "Chained unwind
-- info structures"). Its unwind info is a secondary one, of a fragment of a function; the primary
-- one is that of the function's entry.
--
-- The main definition: `is_fragment`.
use Rattle.std.specs.Prelude.{Bool, true, false, ◌==◌, ◌&&◌, ◌||◌, is_none, List, [], ◌∷◌, Option, Some, None}
use Rattle.eh_tables.specs.declared.code.UnwindCode.{UnwindCode}
use Rattle.eh_tables.specs.declared.range.RuntimeFunction.{RuntimeFunction}
use Rattle.eh_tables.specs.Infos.{Info}
use Rattle.eh_tables.specs.Tables.{Entry, holding}

-- ---- the entry that an info names

abbrev pub is_same_range : RuntimeFunction → RuntimeFunction → Bool
is_same_range r q =
    (r.begin == q.begin) && ((r.end == q.end) && (r.unwind_info == q.unwind_info))

abbrev pub has_range : RuntimeFunction → List RuntimeFunction → Bool
has_range r [] = false
has_range r (q ∷ qs) = is_same_range r q || has_range r qs

-- it is one of the table
abbrev pub names_entry : List RuntimeFunction → Option RuntimeFunction → Bool
names_entry rs None = false
names_entry rs (Some r) = has_range r rs

-- ---- the secondary info

abbrev pub has_no_codes : List UnwindCode → Bool
has_no_codes [] = true
has_no_codes (c ∷ cs) = false

-- it has no codes, no prologue, and the frame register of the primary one, which isn't chained
abbrev pub is_secondary : Info → Info → Bool
is_secondary i p =
    is_none p.parent && (has_no_codes i.codes && ((i.prologue_size == 0) &&
    ((i.frame_register == p.frame_register) && (i.frame_offset == p.frame_offset))))

-- the info of a chained entry has no codes, no prologue and the frame register of the primary one,
-- which isn't chained. The range that it names is that of an entry of the table.
abbrev pub is_fragment : List RuntimeFunction → Info → Info → Bool
is_fragment rs i p = names_entry rs i.parent && is_secondary i p

-- ---- an entry, by its info and those that this is chained to

abbrev pub keeps_chain : List RuntimeFunction → Info → List Info → Bool
keeps_chain rs i [] = true
keeps_chain rs i (p ∷ ps) = is_fragment rs i p

-- the info whose codes are undone past the prologue
abbrev pub primary : Info → List Info → Info
primary i [] = i
primary i (p ∷ ps) = p

-- ---- the info of the table's entry of a range

abbrev pub info_when : Info → Bool → Option Info
info_when i true = Some i
info_when i false = None

abbrev pub info_of_range : RuntimeFunction → Option Entry → Option Info
info_of_range r None = None
info_of_range r (Some e) = info_when e.info (is_same_range r e.range)

-- by the entry that covers the range's first byte
abbrev pub info_named : List Entry → Option RuntimeFunction → Option Info
info_named es None = None
info_named es (Some r) = info_of_range r (holding r.begin es)
