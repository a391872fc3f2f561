-- What the function table of every program is like.
--
-- The main definition: `HasShape`.
use Rattle.std.specs.Prelude.{◌≡◌, ℕ, false, ◌+◌, ◌*◌, ◌<◌, ◌≤◌, length, map, slice_get, Some}
use Rattle.std.specs.List.{count_by}
use Rattle.eh_tables.specs.Tables.{Entry, holding}
use Rattle.seh_walk.specs.Asked.{is_searched, is_unwound}
use Rattle.linear_code.specs.Program.{LinearProgram, weight}
use Rattle.frame_layout.specs.declared.frame.FrameLayout.{FrameLayout}
use Rattle.image_link.specs.Fits.{FitsProgram}
use Rattle.image_link.specs.Routines.{function_of_index}
use Rattle.image_link.specs.Tables.{is_finally, has_except, has_finally}
use Rattle.image_link.specs.Text.{SiteView}
use Rattle.image_tables.specs.RoutinePlaces.{Placed, PlacedPart, placed}
use Rattle.image_tables.specs.Entries.{entry_of, part_entry, entries}
use Rattle.image_tables.specs.RegionRows.{AreDifferent, rows_of, is_finally_row, is_always_row, handlers, AreInOrder, regions, is_always, named, NamesFunclets, funclet_begin, AreRows}
use Rattle.template_code.specs.declared.layout.TheConstants.{FRAME_BY_WEIGHT}

-- ---- its shape

-- the entry that begins at an address
pub record BeginsEntry (p : LinearProgram) (rva : ℕ) : Type 0 where
  pub entry : Entry
  pub held : holding rva (entries p) ≡ Some entry
  pub begins : entry.range.begin ≡ rva

-- entries are in order, with a row for each region and no other. As many rows are without
-- JumpTarget as there are `__finally` regions, and as many have HandlerAddress 1 as there are
-- filters that always accept. Each funclet begins an entry.
pub record HasShape (p : LinearProgram) : Type 0 where
  pub order : AreInOrder 0 (entries p)
  -- a row for each region, in their order
  pub rows : AreRows p (rows_of (entries p)) (regions p)
  pub count : length (rows_of (entries p)) ≡ length (regions p)
  pub finally : count_by is_finally_row (rows_of (entries p))
      ≡ count_by (λ r. is_finally r.kind) (regions p)
  pub always : count_by is_always_row (rows_of (entries p))
      ≡ count_by (λ r. is_always r.kind) (regions p)
  pub handlers : handlers (rows_of (entries p)) ≡ map (funclet_begin p) (named (regions p))
  -- each funclet begins an entry
  pub funclets : (k : ℕ) → k < length p.funclets → BeginsEntry p (funclet_begin p k)

abbrev pub TablesHaveShape : Type 0
TablesHaveShape = (p : LinearProgram) → FitsProgram p → HasShape p

-- where the regions name different funclets, the handler addresses are different
abbrev pub HandlersDiffer : Type 0
HandlersDiffer =
    (p : LinearProgram) → FitsProgram p → NamesFunclets p
    → AreDifferent (handlers (rows_of (entries p)))

-- ---- the flags of its unwind infos

-- EHANDLER where there is an `__except`, UHANDLER where there is a `__finally`
pub record IsFlagged (s : SiteView) (x : Placed) (f : FrameLayout) : Type 0 where
  pub searched : is_searched (entry_of s x f).info ≡ has_except x.routine.body.regions
  pub unwound : is_unwound (entry_of s x f).info ≡ has_finally x.routine.body.regions

abbrev pub EntriesAreFlagged : Type 0
EntriesAreFlagged = (s : SiteView) (x : Placed) (f : FrameLayout) → IsFlagged s x f

-- no handler is looked for in a cold part
pub record IsPassedOver (s : SiteView) (x : Placed) (f : FrameLayout) (q : PlacedPart) : Type 0
  where
    pub searched : is_searched (part_entry s x f q).info ≡ false
    pub unwound : is_unwound (part_entry s x f q).info ≡ false

abbrev pub PartsArePassedOver : Type 0
PartsArePassedOver =
    (s : SiteView) (x : Placed) (f : FrameLayout) (q : PlacedPart) → IsPassedOver s x f q

-- ---- frames

-- what the routine of an index weighs: a function its weight, and a funclet 1
abbrev pub weight_at : LinearProgram → ℕ → ℕ
weight_at p index = weight (function_of_index p index)

-- none takes more than the largest frame of its weight, its return address counted
abbrev pub FramesAreSmall : Type 0
FramesAreSmall =
    (p : LinearProgram) (index : ℕ) (x : Placed) (f : FrameLayout) → FitsProgram p
    → slice_get (placed p) index ≡ Some x → x.routine.frame ≡ Some f
    → f.depth + 8 ≤ FRAME_BY_WEIGHT * weight_at p index
