-- Programs that can be linked: the limits that keep every frame and the image within the largest
-- ones (own).
--
-- The main definition: `FitsProgram`.
use Rattle.std.specs.Prelude.{◌≡◌, false, ℕ, ◌+◌, ◌*◌, ◌/◌, ◌^◌, ◌<◌, ◌≤◌, List, [], ◌∷◌, length}
use Rattle.std.specs.List.{AllByRecursion}
use Rattle.seh_num.specs.declared.limit.TheConstants.{MOST_PARAMETERS, MOST_GLOBALS}
use Rattle.linear_code.specs.declared.slot.Slot.{Slot}
use Rattle.linear_code.specs.declared.slot.Slot.TheVariants.{Local, Temporary}
use Rattle.linear_code.specs.declared.instruction.Instruction.{Instruction}
use Rattle.linear_code.specs.declared.instruction.Instruction.TheVariants as instructions
use Rattle.linear_code.specs.declared.program.FuncletKind.{FuncletKind}
use Rattle.linear_code.specs.declared.program.FuncletKind.TheVariants.{Filter, Finally}
use Rattle.linear_code.specs.Program.{LinearBody, LinearFunction, LinearFunclet, LinearProgram, weight}
use Rattle.template_code.specs.declared.layout.TheConstants.{MOST_REGISTERS, FRAME_BY_WEIGHT, MOST_WEIGHT}
use Rattle.template_code.specs.ColdParts.{AreParts, is_cold}
use Rattle.x64_emit.specs.Near.{IsFieldNear}
use Rattle.x64_emit.specs.Rooms.{code_room}
use Rattle.image_link.specs.declared.place.TheConstants.{ROUTINE_ROOM}
use Rattle.image_link.specs.Routines.{HasParent}
use Rattle.image_link.specs.Walks.{IsNamed, names_room}
use Rattle.host_layout.specs.declared.limit.TheConstants.{MOST_IMAGE}

-- ---- instructions

abbrev pub FitsSlot : LinearBody → Slot → Type 0
FitsSlot b (Local i) = i < b.locals
FitsSlot b (Temporary i) = i < b.temporaries

abbrev pub FitsInstruction : LinearBody → Instruction → Type 0
FitsInstruction b (instructions.Compute to o first second) =
    FitsSlot b to × FitsSlot b first × FitsSlot b second
FitsInstruction b (instructions.Information to field) = FitsSlot b to × IsFieldNear field
FitsInstruction b (instructions.Landing to) = FitsSlot b to
FitsInstruction b (instructions.JumpIfZero slot label) = FitsSlot b slot
FitsInstruction b (instructions.Call function first count) =
    (first < b.temporaries) × (count ≤ MOST_PARAMETERS)
FitsInstruction b (instructions.CallBuiltIn function first) = first < b.temporaries
FitsInstruction b (instructions.Return from) = FitsSlot b from
FitsInstruction b other = Unit {0}

-- ---- bodies

-- the arguments that a body passes, its temporaries and, of a function, its locals are at most so
-- many words, and so many more for each 1 that the function weighs above 1
abbrev pub most_words : ℕ
most_words = 1000

abbrev pub words_by_weight : ℕ
words_by_weight = FRAME_BY_WEIGHT / 8

pub record FitsBody (b : LinearBody) : Type 0 where
  pub words : b.passed + b.temporaries ≤ most_words
  pub locals : b.locals ≤ words_by_weight * MOST_WEIGHT
  pub code : AllByRecursion (FitsInstruction b) b.code
  -- the bytes of their scope records
  pub regions : 16 * length b.regions ≤ MOST_IMAGE
  -- its cold parts are apart
  pub cold : AreParts 0 b.cold (length b.code)

pub record FitsFunction (f : LinearFunction) : Type 0 where
  pub parameters : f.parameters ≤ MOST_PARAMETERS
  pub registers : length f.registers ≤ MOST_REGISTERS
  pub some : 0 < length f.body.code
  pub first : is_cold f.body.cold 0 ≡ false
  pub weight : weight f ≤ MOST_WEIGHT
  pub words : f.body.passed + f.body.temporaries + f.body.locals
      ≤ most_words + words_by_weight * f.surplus
  pub body : FitsBody f.body

abbrev pub FitsKind : LinearBody → FuncletKind → Type 0
FitsKind b Filter = Unit {0}
FitsKind b (Finally flag) = flag < b.locals

pub record FitsFunclet (p : LinearProgram) (f : LinearFunclet) : Type 0 where
  pub kind : FitsKind f.body f.kind
  pub function : f.function < length p.functions
  pub parent : HasParent p f.parent
  pub body : FitsBody f.body

-- ---- programs

-- how many bytes bodies take at most, each with what comes before it
abbrev pub room : List LinearBody → ℕ
room [] = 0
room (b ∷ bs) = ROUTINE_ROOM + code_room b.code + room bs

abbrev pub function_bodies : List LinearFunction → List LinearBody
function_bodies [] = []
function_bodies (f ∷ fs) = f.body ∷ function_bodies fs

abbrev pub funclet_bodies : List LinearFunclet → List LinearBody
funclet_bodies [] = []
funclet_bodies (f ∷ fs) = f.body ∷ funclet_bodies fs

-- how many bytes their unwind infos and scope tables take at most, with what tables have for cold
-- parts: a chained info, an entry, and a row in the table of names
abbrev pub tables_room : List LinearBody → ℕ
tables_room [] = 0
tables_room (b ∷ bs) = 64 + 16 * length b.regions + 45 * length b.cold + tables_room bs

abbrev pub text_room : LinearProgram → ℕ
text_room p = room (function_bodies p.functions) + room (funclet_bodies p.funclets)

abbrev pub program_tables_room : LinearProgram → ℕ
program_tables_room p =
    tables_room (function_bodies p.functions) + tables_room (funclet_bodies p.funclets)

-- what an image keeps for its globals, its headers, its thunks and the rest of each section's last
-- page: 2 MiB
abbrev pub other_room : ℕ
other_room = 2 ^ 21

-- the limits of linking (own). A body passes and has as temporaries at most 1,000 words, a function
-- with its locals 1,024 more for each 1 that it weighs above 1, and it weighs at most 65. A body
-- has at most 2^24 regions, a call passes at most eight arguments, and the globals take at most
-- 2^20 bytes. Each function has an instruction and a name without a 0, and the room of all code,
-- tables and names is at most 2^28 - 2^21 bytes.
pub record FitsProgram (p : LinearProgram) : Type 0 where
  pub globals : length p.globals ≤ MOST_GLOBALS
  pub main : p.main < length p.functions
  pub functions : AllByRecursion FitsFunction p.functions
  pub funclets : AllByRecursion (FitsFunclet p) p.funclets
  pub names : AllByRecursion IsNamed p.functions
  pub small : text_room p + program_tables_room p + names_room p.functions + other_room
      ≤ MOST_IMAGE
