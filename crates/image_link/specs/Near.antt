-- Routines whose slots and frames 32-bit displacements reach.
use Rattle.std.specs.Prelude.{ℕ, ◌+◌, ◌*◌, ◌<◌, ◌≤◌, List, length, get_or, Option, Some, None}
use Rattle.std.specs.List.{AllByRecursion}
use Rattle.seh_num.specs.declared.limit.TheConstants.{MOST_PARAMETERS}
use Rattle.linear_code.specs.declared.slot.Slot.TheVariants.{Local}
use Rattle.frame_layout.specs.declared.frame.FrameLayout.{FrameLayout}
use Rattle.frame_layout.specs.Layout.{IsFrame}
use Rattle.template_code.specs.declared.layout.Layout.{Layout}
use Rattle.template_code.specs.ColdParts.{AreParts}
use Rattle.x64_emit.specs.Near.{AreNear, IsNear, IsSlotNear, AreParametersNear, ArePointersNear, IsInstructionNear}
use Rattle.x64_emit.specs.Entries.{IsKeptNear}
use Rattle.host_layout.specs.declared.imported.ImportedService.{ImportedService}
use Rattle.image_link.specs.declared.handlers.HandlerBlocks.{HandlerBlocks}
use Rattle.x64_emit.specs.declared.handlers.TheConstants.{NAME_THUNK_SIZE, STUB_SIZE}
use Rattle.image_link.specs.declared.place.TheConstants.{MOST_IMPORTS}
use Rattle.image_link.specs.declared.routine.Entry.{Entry}
use Rattle.image_link.specs.declared.routine.Entry.TheVariants as entries
use Rattle.image_link.specs.Handlers.{step_of}
use Rattle.image_link.specs.Routines.{RoutineView}
use Rattle.image_link.specs.Text.{SiteView, base_of, room, routine_size}
use Rattle.image_link.specs.Tables.{infos_room}
use Rattle.template_code.specs.declared.layout.TheConstants.{FRAME_BY_WEIGHT, MOST_WEIGHT}
use Rattle.host_layout.specs.declared.limit.TheConstants.{MOST_IMAGE}
use Rattle.linear_code.specs.Program.{LinearFunction}
use Rattle.image_link.specs.Fits.{other_room}
use Rattle.image_link.specs.Walks.{names_room}

abbrev pub IsFrameNear : Option FrameLayout → Type 0
IsFrameNear None = Unit {0}
IsFrameNear (Some f) = IsFrame f × (f.depth + 8 ≤ FRAME_BY_WEIGHT * MOST_WEIGHT)

abbrev pub IsEntryNear : Layout → Entry → Type 0
IsEntryNear y (entries.Function count) = (count ≤ MOST_PARAMETERS) × AreParametersNear y count
IsEntryNear y (entries.Filter parent) = IsKeptNear parent (base_of y y.base) × ArePointersNear y
IsEntryNear y (entries.Finally parent flag) =
    IsKeptNear parent (base_of y y.base) × IsSlotNear y (Local flag)

pub record IsRoutineNear (r : RoutineView) : Type 0 where
  pub frame : IsFrameNear r.frame
  pub entry : IsEntryNear r.layout r.entry
  pub code : AllByRecursion (IsInstructionNear r.layout) r.body.code
  pub regions : 16 * length r.body.regions ≤ MOST_IMAGE
  pub cold : AreParts 0 r.body.cold (length r.body.code)

-- at most so many services are imported (own)
abbrev pub AreFew : List ImportedService → Type 0
AreFew imports = length imports ≤ MOST_IMPORTS

-- blocks, with the stubs that were in one behind the last of them
abbrev pub AreBlocksNear : HandlerBlocks → Type 0
AreBlocksNear b = IsNear (b.first + NAME_THUNK_SIZE + STUB_SIZE + step_of b * b.count)

-- the addresses that routines refer to
pub record IsSiteNear (s : SiteView) : Type 0 where
  pub imports : AreFew s.imports
  pub text : s.text ≤ MOST_IMAGE
  pub rdata : s.rdata ≤ MOST_IMAGE
  pub functions : AreNear s.functions
  pub funclets : AreNear s.funclets
  pub blocks : AreBlocksNear s.blocks
  pub fewer : s.blocks.count ≤ length s.functions

-- all routines and their tables have room in an image
abbrev pub HasRoom : List RoutineView → Type 0
HasRoom rs = room rs + infos_room rs + other_room ≤ MOST_IMAGE

-- with the names of these functions, which are the first of them
pub record HasNames (rs : List RoutineView) (named : List LinearFunction) : Type 0 where
  pub room : room rs + infos_room rs + names_room named + other_room ≤ MOST_IMAGE
  pub fewer : length named ≤ length rs

-- they have room in one whose first routine is a function and which begins at one that isn't empty
pub record HasPlaces (rs : List RoutineView) (functions main : ℕ) : Type 0 where
  pub room : HasRoom rs
  pub fewer : functions ≤ length rs
  pub there : main < length rs
  pub some : (d : RoutineView) → 0 < routine_size (get_or rs main d)
