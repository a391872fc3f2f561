-- The function table of a program's image, as it is read: an entry for each routine with a frame,
-- and then one for each cold part of these.
--
-- The main definition: `entries`.
use Rattle.std.specs.Prelude.{ℕ, Bool, true, false, if◌then◌else◌, List, [], ◌∷◌, ◌++◌, map, Option, Some, None}
use Rattle.eh_tables.specs.declared.range.RuntimeFunction.{RuntimeFunction}
use Rattle.eh_tables.specs.declared.scope.ScopeRecord.{ScopeRecord}
use Rattle.eh_write.specs.declared.unwind_info.UnwindInfo.{UnwindInfo}
use Rattle.eh_write.specs.ReadAgain.{info_written}
use Rattle.eh_tables.specs.Tables.{Entry}
use Rattle.host_layout.specs.declared.imported.ImportedService.TheVariants.{CSpecificHandler}
use Rattle.linear_code.specs.declared.program.Region.{Region}
use Rattle.linear_code.specs.Program.{LinearProgram}
use Rattle.frame_layout.specs.declared.frame.FrameLayout.{FrameLayout}
use Rattle.frame_layout.specs.Infos.{info_of, chained_info}
use Rattle.template_code.specs.ColdParts.{holds}
use Rattle.image_link.specs.Text.{SiteView, own_addresses, thunk_at}
use Rattle.image_link.specs.Tables.{trailer, scope_records, range_at}
use Rattle.image_tables.specs.RoutinePlaces.{Placed, PlacedPart, parts_of, site_of, placed}

-- its scope records, and whether it has any
abbrev pub scopes_of : SiteView → Placed → List ScopeRecord
scopes_of s x =
    let own = own_addresses x.begin x.cold x.routine in
    scope_records s.funclets own.labels own.end x.routine.body.regions

abbrev pub has_rows : List Region → Bool
has_rows [] = false
has_rows (r ∷ rs) = true

-- its unwind info, whose language handler is `__C_specific_handler` where it has scope records
abbrev pub unwind_of : SiteView → Placed → FrameLayout → UnwindInfo
unwind_of s x f =
    info_of f
    (trailer (thunk_at s.imports s.text CSpecificHandler) x.routine.body.regions)

-- ---- entries of routines

abbrev pub range_of : Placed → RuntimeFunction
range_of x = range_at x.info x.begin x.routine

abbrev pub entry_of : SiteView → Placed → FrameLayout → Entry
entry_of s x f = record {
  range = range_of x;
  info = info_written (unwind_of s x f) (has_rows x.routine.body.regions) (scopes_of s x);
  parents = [];
}

abbrev pub entry_if : SiteView → Placed → Option FrameLayout → List Entry
entry_if s x None = []
entry_if s x (Some f) = entry_of s x f ∷ []

abbrev pub entries_of : SiteView → List Placed → List Entry
entries_of s [] = []
entries_of s (x ∷ xs) = entry_if s x x.routine.frame ++ entries_of s xs

-- ---- entries of cold parts: each is chained to its routine's, and has no scope records

abbrev pub part_entry : SiteView → Placed → FrameLayout → PlacedPart → Entry
part_entry s x f q = record {
  range = record { begin = q.begin; end = q.end; unwind_info = q.info };
  info = info_written (chained_info f.framed (range_of x)) false [];
  parents = (entry_of s x f).info ∷ [];
}

abbrev pub chained_if : SiteView → Placed → Option FrameLayout → List Entry
chained_if s x None = []
chained_if s x (Some f) = map (part_entry s x f) (parts_of x)

abbrev pub chained_of : SiteView → List Placed → List Entry
chained_of s [] = []
chained_of s (x ∷ xs) = chained_if s x x.routine.frame ++ chained_of s xs

-- the entry of each that has a frame, with one scope record for each region of its body
abbrev pub entries : LinearProgram → List Entry
entries p = entries_of (site_of p) (placed p) ++ chained_of (site_of p) (placed p)

-- ---- the entry that the code of an instruction is in

-- the cold part that holds a label
abbrev pub part_with : ℕ → List PlacedPart → Option PlacedPart
part_with label [] = None
part_with label (q ∷ qs) = if holds label q.labels then Some q else part_with label qs

abbrev pub entry_by : SiteView → Placed → FrameLayout → Option PlacedPart → Entry
entry_by s x f None = entry_of s x f
entry_by s x f (Some q) = part_entry s x f q

abbrev pub entry_at : SiteView → Placed → FrameLayout → ℕ → Entry
entry_at s x f label = entry_by s x f (part_with label (parts_of x))
