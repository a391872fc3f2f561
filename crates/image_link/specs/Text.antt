-- The text of a program: the thunks of its services, `__chkstk`, its routines, their cold parts,
-- and the blocks of its functions for vectored handlers, where it has any.
--
-- The main definitions: `routine_code`, `text_bytes`, `front_size`, `bounds`, `cold_size`,
-- `apart_code`.
use Rattle.std.specs.Prelude.{ℕ, ◌+◌, ◌*◌, List, [], ◌∷◌, ◌++◌, length, map, take, Option, Some, None}
use Rattle.seh_num.specs.declared.width.Width.TheVariants.{W32}
use Rattle.x64_instr.specs.declared.register.Reg.TheVariants.{Rax, Rcx}
use Rattle.x64_instr.specs.declared.instruction.Instr.{Instr}
use Rattle.linear_code.specs.declared.slot.Slot.TheVariants.{Local}
use Rattle.frame_layout.specs.declared.frame.FrameLayout.{FrameLayout}
use Rattle.frame_layout.specs.Plans.{plan_of}
use Rattle.frame_rules.specs.Bytes.{prologue_code}
use Rattle.host_layout.specs.declared.imported.ImportedService.{ImportedService}
use Rattle.host_layout.specs.declared.imported.ImportedService.TheVariants.{RaiseException, LocalUnwind, Protect, Put, Walk}
use Rattle.pe_write.specs.ImportTables.{place_of, slot_of}
use Rattle.template_code.specs.declared.layout.Layout.{Layout}
use Rattle.template_code.specs.Bytes.{sizes}
use Rattle.template_code.specs.Operations.{move}
use Rattle.template_code.specs.Slots.{keep}
use Rattle.template_code.specs.Jumps.{distance}
use Rattle.template_code.specs.Calls.{keep_register, parameters_code}
use Rattle.template_code.specs.Frames.{probing}
use Rattle.template_code.specs.Bytes.{spelled, thunk}
use Rattle.template_code.specs.Probing.{check_stack}
use Rattle.template_code.specs.Template.{Links, body_size, code_from}
use Rattle.template_code.specs.ColdParts.{hot_code, cold_code}
use Rattle.x64_emit.specs.declared.entry.TheConstants.{CHECK_STACK_SIZE, THUNK_SIZE}
use Rattle.x64_emit.specs.declared.links.Thunks.{Thunks}
use Rattle.x64_emit.specs.Rooms.{code_room}
use Rattle.x64_emit.specs.Bodies.{label_list}
use Rattle.x64_emit.specs.Entries.{keep_base}
use Rattle.x64_emit.specs.Linking.{Addresses, links_of}
use Rattle.image_link.specs.declared.handlers.HandlerBlocks.{HandlerBlocks}
use Rattle.image_link.specs.declared.place.TheConstants.{ROUTINE_ROOM}
use Rattle.image_link.specs.declared.routine.Entry.{Entry}
use Rattle.image_link.specs.declared.routine.Entry.TheVariants as entries
use Rattle.image_link.specs.Handlers.{adding_of, removing_of, blocks_bytes}
use Rattle.image_link.specs.Routines.{RoutineView}

-- ---- what comes before a body, for a routine that begins at an address

abbrev pub frame_code : ℕ → ℕ → Option FrameLayout → List Instr
frame_code at check None = []
frame_code at check (Some f) = prologue_code (probing (plan_of f) at check)

abbrev pub base_of : Layout → Option ℕ → ℕ
base_of y None = 0
base_of y (Some b) = b

abbrev pub argument_code : Layout → Entry → List Instr
argument_code y (entries.Function count) = parameters_code y 0 count
argument_code y (entries.Filter parent) =
    keep_base parent (base_of y y.base) ++ (keep_register Rcx y.pointers ∷ [])
argument_code y (entries.Finally parent flag) =
    keep_base parent (base_of y y.base) ++ (move W32 Rax Rcx ∷ keep y (Local flag))

abbrev pub entry_code : ℕ → ℕ → RoutineView → List Instr
entry_code at check r = frame_code at check r.frame ++ argument_code r.layout r.entry

-- ---- sizes, which depend on no address

unfoldable pub entry_size : RoutineView → ℕ
entry_size r = sizes (entry_code 0 0 r)

abbrev pub routine_size : RoutineView → ℕ
routine_size r = entry_size r + body_size r.layout (hot_code r.body)

-- of its cold parts
abbrev pub cold_size : RoutineView → ℕ
cold_size r = body_size r.layout (cold_code r.body)

abbrev pub total : List RoutineView → ℕ
total [] = 0
total (r ∷ rs) = routine_size r + total rs

abbrev pub cold_total : List RoutineView → ℕ
cold_total [] = 0
cold_total (r ∷ rs) = cold_size r + cold_total rs

-- how many bytes they take at most, with their cold parts
abbrev pub routine_room : RoutineView → ℕ
routine_room r = ROUTINE_ROOM + code_room r.body.code

abbrev pub room : List RoutineView → ℕ
room [] = 0
room (r ∷ rs) = routine_room r + room rs

-- where routines begin, and where the last one ends
abbrev pub bounds : ℕ → List RoutineView → List ℕ
bounds at [] = at ∷ []
bounds at (r ∷ rs) = at ∷ bounds (at + routine_size r) rs

-- ---- the thunks of the services that a program imports, in their order, and `__chkstk`

abbrev pub thunk_at : List ImportedService → ℕ → ImportedService → ℕ
thunk_at imports text s = text + THUNK_SIZE * place_of imports s

-- with the stubs of blocks
abbrev pub thunks_at : List ImportedService → ℕ → HandlerBlocks → Thunks
thunks_at imports text blocks =
    record {
      put = thunk_at imports text Put;
      protect = thunk_at imports text Protect;
      raise_exception = thunk_at imports text RaiseException;
      local_unwind = thunk_at imports text LocalUnwind;
      walk = thunk_at imports text Walk;
      adding = adding_of blocks;
      removing = removing_of blocks;
    }

abbrev pub service_thunk : List ImportedService → ℕ → ℕ → ImportedService → Instr
service_thunk imports text rdata s =
    thunk (distance (thunk_at imports text s + THUNK_SIZE) (rdata + slot_of imports s))

abbrev pub check_stack_at : List ImportedService → ℕ → ℕ
check_stack_at imports text = text + THUNK_SIZE * length imports

abbrev pub front_code : List ImportedService → ℕ → ℕ → List Instr
front_code imports text rdata = map (service_thunk imports text rdata) imports ++ check_stack

-- how many bytes they take
abbrev pub front_size : List ImportedService → ℕ
front_size imports = THUNK_SIZE * length imports + CHECK_STACK_SIZE

abbrev pub first_routine_at : List ImportedService → ℕ → ℕ
first_routine_at imports text = text + front_size imports

-- ---- the text

-- where the instructions of a routine begin, and where it ends without its cold parts
pub record OwnAddresses : Type 0 where
  pub labels : List ℕ
  pub end : ℕ

-- of one that begins at an address, with its cold parts at another
abbrev pub own_addresses : (at cold : ℕ) → RoutineView → OwnAddresses
own_addresses at cold r =
    record {
      labels = label_list r.layout r.body.cold 0 (at + entry_size r) cold r.body.code;
      end = at + routine_size r;
    }

-- what every routine refers to: the services that are imported, the text's begin, that of `.rdata`
-- with the slots, the addresses of functions and funclets, and the blocks of functions
pub record SiteView : Type 0 where
  pub imports : List ImportedService
  pub text : ℕ
  pub rdata : ℕ
  pub functions : List ℕ
  pub funclets : List ℕ
  pub blocks : HandlerBlocks

abbrev pub addresses : SiteView → (at cold : ℕ) → RoutineView → Addresses
addresses s at cold r =
    record {
      labels = (own_addresses at cold r).labels;
      end = (own_addresses at cold r).end;
      functions = s.functions;
      funclets = s.funclets;
      thunks = thunks_at s.imports s.text s.blocks;
    }

-- a routine at an address without its cold parts, with `__chkstk` and all else where the links say
abbrev pub code_at : ℕ → Links → ℕ → RoutineView → List Instr
code_at check links at r =
    entry_code at check r ++ code_from links r.layout (at + entry_size r) (hot_code r.body)

-- the code of a routine at an address: its prologue, what it does with its arguments or keeps of
-- RCX and RDX, and its body
abbrev pub routine_code : SiteView → (at cold : ℕ) → RoutineView → List Instr
routine_code s at cold r =
    code_at (check_stack_at s.imports s.text) (links_of (addresses s at cold r)) at r

unfoldable pub routine_bytes : SiteView → (at cold : ℕ) → RoutineView → List ℕ
routine_bytes s at cold r = spelled (routine_code s at cold r)

-- the cold parts of a routine
abbrev pub apart_code : SiteView → (at cold : ℕ) → RoutineView → List Instr
apart_code s at cold r =
    code_from (links_of (addresses s at cold r)) r.layout cold (cold_code r.body)

unfoldable pub apart_bytes : SiteView → (at cold : ℕ) → RoutineView → List ℕ
apart_bytes s at cold r = spelled (apart_code s at cold r)

-- all routines, and the cold parts of all
abbrev pub routines_bytes : SiteView → (at cold : ℕ) → List RoutineView → List ℕ
routines_bytes s at cold [] = []
routines_bytes s at cold (r ∷ rs) =
    routine_bytes s at cold r ++ routines_bytes s (at + routine_size r) (cold + cold_size r) rs

abbrev pub all_apart_bytes : SiteView → (at cold : ℕ) → List RoutineView → List ℕ
all_apart_bytes s at cold [] = []
all_apart_bytes s at cold (r ∷ rs) =
    apart_bytes s at cold r ++ all_apart_bytes s (at + routine_size r) (cold + cold_size r) rs

-- the blocks of the site's functions
abbrev pub site_blocks : SiteView → List ℕ
site_blocks s =
    blocks_bytes s.imports s.rdata s.blocks s.blocks.first (take s.blocks.count s.functions)

-- the cold parts follow the routines, and the blocks the cold parts
abbrev pub text_bytes : SiteView → List RoutineView → List ℕ
text_bytes s rs =
    let first = first_routine_at s.imports s.text in
    spelled (front_code s.imports s.text s.rdata)
    ++ routines_bytes s first (first + total rs) rs
    ++ all_apart_bytes s first (first + total rs) rs
    ++ site_blocks s
