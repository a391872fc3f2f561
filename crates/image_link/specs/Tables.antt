-- The tables of a program: an unwind info for each routine with a frame, its scope table where it
-- has regions, and its entry in the function table; and after all these a chained info and an entry
-- for each cold part.
--
-- `infos`, `ranges`: the unwind infos with their scope tables, and the entries of the function
-- table.
--
-- The main definitions: `fragments`, `chained_bytes`, `scope_record`.
use Rattle.std.specs.Prelude.{ℕ, ◌+◌, ◌*◌, Bool, true, false, not, ◌||◌, List, [], ◌∷◌, ◌++◌, length, map, Option, Some, None}
use Rattle.eh_tables.specs.declared.layout.TheConstants.{EXCEPTION_EXECUTE_HANDLER}
use Rattle.eh_tables.specs.declared.range.RuntimeFunction.{RuntimeFunction}
use Rattle.eh_tables.specs.declared.scope.ScopeRecord.{ScopeRecord}
use Rattle.eh_write.specs.declared.unwind_info.Trailer.{Trailer}
use Rattle.eh_write.specs.declared.unwind_info.Trailer.TheVariants.{Nothing, Handler}
use Rattle.eh_write.specs.Written.{unwind_bytes, scope_bytes}
use Rattle.std.specs.List.{flat_map}
use Rattle.linear_code.specs.declared.program.Region.{Region}
use Rattle.linear_code.specs.declared.program.RegionKind.{RegionKind}
use Rattle.linear_code.specs.declared.program.RegionKind.TheVariants as kinds
use Rattle.frame_layout.specs.declared.frame.FrameLayout.{FrameLayout}
use Rattle.frame_layout.specs.Infos.{info_of, chained_info}
use Rattle.host_layout.specs.declared.imported.ImportedService.TheVariants.{CSpecificHandler}
use Rattle.x64_emit.specs.declared.body.CodeRange.{CodeRange}
use Rattle.x64_emit.specs.Linking.{address_or}
use Rattle.image_link.specs.declared.fragments.TheConstants.{CHAINED_SIZE}
use Rattle.image_link.specs.declared.fragments.Fragment.{Fragment}
use Rattle.image_link.specs.Routines.{RoutineView}
use Rattle.image_link.specs.Text.{SiteView, own_addresses, routine_size, cold_size, thunk_at}
use Rattle.image_link.specs.Places.{parts_at}

-- ---- scope records, one for each region (Microsoft x64 ABI, "Language-specific handler data";
-- winnt.h, SCOPE_TABLE_AMD64)

-- of the funclets' addresses, and of where the instructions of the body begin and the body ends
abbrev pub handler_address : List ℕ → RegionKind → ℕ
handler_address funclets (kinds.Finally funclet) = address_or funclets funclet 0
handler_address funclets (kinds.Filter funclet target) = address_or funclets funclet 0
handler_address funclets (kinds.Always target) = EXCEPTION_EXECUTE_HANDLER

abbrev pub jump_target : List ℕ → ℕ → RegionKind → ℕ
jump_target labels end (kinds.Finally funclet) = 0
jump_target labels end (kinds.Filter funclet target) = address_or labels target end
jump_target labels end (kinds.Always target) = address_or labels target end

-- the record of a region. HandlerAddress is the funclet's address, or 1 where the filter always
-- accepts, and JumpTarget that of the target, or 0 for a `__finally` block (Microsoft x64 ABI,
-- "Language-specific handler"; Windows headers, `winnt.h`).
abbrev pub scope_record : List ℕ → List ℕ → ℕ → Region → ScopeRecord
scope_record funclets labels end r =
    record {
      begin = address_or labels r.begin end;
      end = address_or labels r.end end;
      handler_address = handler_address funclets r.kind;
      jump_target =
          jump_target labels end r.kind;
    }

abbrev pub scope_records : List ℕ → List ℕ → ℕ → List Region → List ScopeRecord
scope_records funclets labels end rs = map (scope_record funclets labels end) rs

-- ---- unwind infos

abbrev pub is_finally : RegionKind → Bool
is_finally (kinds.Finally funclet) = true
is_finally (kinds.Filter funclet target) = false
is_finally (kinds.Always target) = false

abbrev pub has_except : List Region → Bool
has_except [] = false
has_except (r ∷ rs) = not (is_finally r.kind) || has_except rs

abbrev pub has_finally : List Region → Bool
has_finally [] = false
has_finally (r ∷ rs) = is_finally r.kind || has_finally rs

-- the language handler is asked in a search where there is an `__except`, and while unwinding where
-- there is a `__finally`
abbrev pub trailer : ℕ → List Region → Trailer
trailer handler [] = Nothing
trailer handler rs = Handler (has_except rs) (has_finally rs) handler

abbrev pub scope_table : List ℕ → List ℕ → ℕ → List Region → List ℕ
scope_table funclets labels end [] = []
scope_table funclets labels end rs = scope_bytes (scope_records funclets labels end rs)

abbrev pub info_bytes_of : SiteView → List ℕ → ℕ → RoutineView → FrameLayout → List ℕ
info_bytes_of s labels end r f =
    unwind_bytes (info_of f (trailer (thunk_at s.imports s.text CSpecificHandler) r.body.regions))
    ++ scope_table s.funclets labels end r.body.regions

abbrev pub info_if : SiteView → List ℕ → ℕ → RoutineView → Option FrameLayout → List ℕ
info_if s labels end r None = []
info_if s labels end r (Some f) = info_bytes_of s labels end r f

-- of a routine at an address, with its cold parts at another
unfoldable pub info_bytes : SiteView → (at cold : ℕ) → RoutineView → List ℕ
info_bytes s at cold r =
    info_if s (own_addresses at cold r).labels (own_addresses at cold r).end r r.frame

abbrev pub infos : SiteView → (at cold : ℕ) → List RoutineView → List ℕ
infos s at cold [] = []
infos s at cold (r ∷ rs) =
    info_bytes s at cold r ++ infos s (at + routine_size r) (cold + cold_size r) rs

-- how many bytes they take at most, with what tables have for cold parts: a chained info, an entry,
-- and a row in the table of names
abbrev pub info_room : RoutineView → ℕ
info_room r = 64 + 16 * length r.body.regions + 45 * length r.body.cold

abbrev pub infos_room : List RoutineView → ℕ
infos_room [] = 0
infos_room (r ∷ rs) = info_room r + infos_room rs

-- ---- the function table

abbrev pub range_if : Option FrameLayout → RuntimeFunction → List RuntimeFunction
range_if None range = []
range_if (Some f) range = range ∷ []

-- the entry of a routine, whose info is at an address
abbrev pub range_at : (info at : ℕ) → RoutineView → RuntimeFunction
range_at info at r = record { begin = at; end = at + routine_size r; unwind_info = info }

-- if it has a frame
abbrev pub range_of : (info at : ℕ) → RoutineView → List RuntimeFunction
range_of info at r = range_if r.frame (range_at info at r)

-- the infos are at addresses from one on
abbrev pub ranges : SiteView → (info at cold : ℕ) → List RoutineView → List RuntimeFunction
ranges s info at cold [] = []
ranges s info at cold (r ∷ rs) =
    range_of info at r
    ++ ranges s (info + length (info_bytes s at cold r)) (at + routine_size r) (cold + cold_size r)
    rs

-- ---- cold parts: each is a fragment that is chained to its function (Microsoft x64 ABI, "Chained
-- unwind info structures")

-- one of a function with a frame and an entry
abbrev pub fragment : FrameLayout → RuntimeFunction → CodeRange → Fragment
fragment f parent part = record {
  begin = part.begin;
  end = part.end;
  parent = parent;
  framed = f.framed;
}

abbrev pub fragments_if : Option FrameLayout → RuntimeFunction → List CodeRange → List Fragment
fragments_if None parent parts = []
fragments_if (Some f) parent parts = map (fragment f parent) parts

-- those of a routine, whose info is at an address
abbrev pub fragments_of : (info at cold : ℕ) → RoutineView → List Fragment
fragments_of info at cold r = fragments_if r.frame (range_at info at r) (parts_at cold r)

-- for each cold part its range, its function's entry and its frame;
abbrev pub fragments : SiteView → (info at cold : ℕ) → List RoutineView → List Fragment
fragments s info at cold [] = []
fragments s info at cold (r ∷ rs) =
    fragments_of info at cold r
    ++ fragments s (info + length (info_bytes s at cold r)) (at + routine_size r)
    (cold + cold_size r) rs

-- its unwind info, chained to its function's
abbrev pub chained_bytes : Fragment → List ℕ
chained_bytes f = unwind_bytes (chained_info f.framed f.parent)

abbrev pub chained_infos : List Fragment → List ℕ
chained_infos fs = flat_map chained_bytes fs

-- their entries, with infos at addresses from one on
abbrev pub fragment_ranges : ℕ → List Fragment → List RuntimeFunction
fragment_ranges info [] = []
fragment_ranges info (f ∷ fs) =
    record { begin = f.begin; end = f.end; unwind_info = info }
    ∷ fragment_ranges (info + CHAINED_SIZE) fs

-- ---- all infos, and all entries, where the infos begin at an address

abbrev pub all_infos : SiteView → (info at cold : ℕ) → List RoutineView → List ℕ
all_infos s info at cold rs =
    infos s at cold rs ++ chained_infos (fragments s info at cold rs)

abbrev pub all_ranges : SiteView → (info at cold : ℕ) → List RoutineView → List RuntimeFunction
all_ranges s info at cold rs =
    ranges s info at cold rs
    ++ fragment_ranges (info + length (infos s at cold rs)) (fragments s info at cold rs)
