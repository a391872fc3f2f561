-- What is read of the function table of a program's image.
use Rattle.std.specs.Prelude.{◌≡◌, ℕ, ◌+◌, ◌%◌, ◌^◌, ◌<◌, ◌≤◌, slice_get, Some, None, Ok}
use Rattle.seh_num.specs.declared.width.Width.TheVariants.{W32}
use Rattle.seh_num.specs.Widths.{low}
use Rattle.eh_tables.specs.declared.layout.TheConstants.{JUMP_SIZE}
use Rattle.eh_tables.specs.Handler.{extended, plain_slot}
use Rattle.eh_tables.specs.Tables.{tables, holding}
use Rattle.pe_write.specs.Program.{image_of}
use Rattle.x64_encode.specs.Chosen.{chosen}
use Rattle.template_code.specs.Bytes.{thunk}
use Rattle.linear_code.specs.Program.{LinearProgram}
use Rattle.frame_layout.specs.declared.frame.FrameLayout.{FrameLayout}
use Rattle.image_link.specs.Fits.{FitsProgram}
use Rattle.image_link.specs.Linked.{linked}
use Rattle.image_tables.specs.RoutinePlaces.{Placed, PlacedPart, end_of, parts_of, site_of, placed, routines_begin}
use Rattle.image_tables.specs.RegionRanges.{HasRegions}
use Rattle.image_tables.specs.Entries.{entry_of, part_entry, entries}

-- the table of the image is that of its routines
abbrev pub TablesAreRead : Type 0
TablesAreRead =
    (p : LinearProgram) → FitsProgram p → HasRegions p
    → tables (image_of (linked p)) ≡ Ok (entries p)

-- in the code of a routine with a frame its entry is found, and in a cold part the entry of that
-- part; in the code of a routine without a frame, and before the first one, none
abbrev pub EntriesAreHeld : Type 0
EntriesAreHeld =
    (p : LinearProgram) (index : ℕ) (x : Placed) (f : FrameLayout) (rva : ℕ)
    → FitsProgram p → slice_get (placed p) index ≡ Some x → x.routine.frame ≡ Some f → x.begin ≤ rva
    → rva < end_of x
    → holding rva (entries p) ≡ Some (entry_of (site_of p) x f)

abbrev pub PartsAreHeld : Type 0
PartsAreHeld =
    (p : LinearProgram) (index n : ℕ) (x : Placed) (f : FrameLayout) (q : PlacedPart) (rva : ℕ)
    → FitsProgram p → slice_get (placed p) index ≡ Some x → x.routine.frame ≡ Some f
    → slice_get (parts_of x) n ≡ Some q → q.begin ≤ rva → rva < q.end
    → holding rva (entries p) ≡ Some (part_entry (site_of p) x f q)

abbrev pub LeavesAreHeldByNone : Type 0
LeavesAreHeldByNone =
    (p : LinearProgram) (index : ℕ) (x : Placed) (rva : ℕ)
    → FitsProgram p → slice_get (placed p) index ≡ Some x → x.routine.frame ≡ None → x.begin ≤ rva
    → rva < end_of x
    → holding rva (entries p) ≡ None

abbrev pub ThunksAreHeldByNone : Type 0
ThunksAreHeldByNone =
    (p : LinearProgram) (rva : ℕ) → FitsProgram p → rva < routines_begin p
    → holding rva (entries p) ≡ None

-- the jump by which the reader of tables knows a handler is that of the instruction table,
-- `jmp [rip + d]`, for each displacement that fits its 32 bits
abbrev pub JumpsAreSpelled : Type 0
JumpsAreSpelled =
    (rva d : ℕ) → extended (low W32 d) ≡ d
    → plain_slot rva (chosen (thunk d)) ≡ Some ((rva + JUMP_SIZE + d) % 2 ^ 64)
