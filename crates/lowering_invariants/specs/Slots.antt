-- Linear code whose slots and arguments are within bounds.
--
-- The main definition: `IsSmall`.
use Rattle.std.specs.Prelude.{ℕ, ◌+◌, ◌*◌, ◌<◌, ◌≤◌, length, Option, Some, None}
use Rattle.std.specs.List.{AllByRecursion}
use Rattle.seh_num.specs.declared.limit.TheConstants.{MOST_PARAMETERS, MOST_GLOBALS}
use Rattle.seh_num.specs.declared.size.TheConstants.{EXCEPTION_MAXIMUM_PARAMETERS}
use Rattle.c_operations.specs.declared.field.Field.{Field}
use Rattle.c_operations.specs.declared.field.Field.TheVariants.{ExceptionInformation}
use Rattle.linear_code.specs.declared.slot.Slot.{Slot}
use Rattle.linear_code.specs.declared.slot.Slot.TheVariants.{Local, Temporary}
use Rattle.linear_code.specs.declared.instruction.Instruction.{Instruction}
use Rattle.linear_code.specs.declared.instruction.Instruction.TheVariants as instructions
use Rattle.linear_code.specs.declared.program.FuncletKind.{FuncletKind}
use Rattle.linear_code.specs.declared.program.FuncletKind.TheVariants.{Filter, Finally}
use Rattle.linear_code.specs.Program.{LinearBody, LinearFunction, LinearFunclet, LinearProgram}

-- among so many locals
abbrev pub IsAmong : ℕ → Slot → Type 0
IsAmong n (Local i) = i < n
IsAmong n (Temporary i) = Unit {0}

-- a parameter of an exception is one of those that it may have
abbrev pub IsField : Field → Type 0
IsField (ExceptionInformation k) = k < EXCEPTION_MAXIMUM_PARAMETERS
IsField f = Unit {0}

-- the locals of an instruction are among so many, its field is one, and it passes at most as many
-- arguments as a function takes
abbrev pub IsPlain : ℕ → Instruction → Type 0
IsPlain n (instructions.Compute to o first second) =
    IsAmong n to × IsAmong n first × IsAmong n second
IsPlain n (instructions.Information to field) = IsAmong n to × IsField field
IsPlain n (instructions.Landing to) = IsAmong n to
IsPlain n (instructions.JumpIfZero slot label) = IsAmong n slot
IsPlain n (instructions.Call function first count) = count ≤ MOST_PARAMETERS
IsPlain n (instructions.Return from) = IsAmong n from
IsPlain n other = Unit {0}

-- a body uses at most 460 words beside the locals, which lie in the frame of a function alone
pub record IsSmallBody (b : LinearBody) : Type 0 where
  pub passed : b.passed ≤ 4
  pub temporaries : b.temporaries ≤ 456
  pub locals : b.locals ≤ 66000
  pub code : AllByRecursion (IsPlain b.locals) b.code

-- ---- programs

abbrev pub HasFlag : LinearBody → FuncletKind → Type 0
HasFlag b Filter = Unit {0}
HasFlag b (Finally flag) = flag < b.locals

abbrev pub HasParent : LinearProgram → Option ℕ → Type 0
HasParent p None = Unit {0}
HasParent p (Some index) = index < length p.funclets

pub record IsSmallFunclet (p : LinearProgram) (f : LinearFunclet) : Type 0 where
  pub kind : HasFlag f.body f.kind
  pub function : f.function < length p.functions
  pub parent : HasParent p f.parent
  pub body : IsSmallBody f.body

-- a function uses at most 1,000 words, and 1,024 more for each 1 that it weighs above 1
pub record IsSmallFunction (f : LinearFunction) : Type 0 where
  pub parameters : f.parameters ≤ MOST_PARAMETERS
  pub surplus : f.surplus ≤ 64
  pub locals : f.body.locals ≤ 540 + 1024 * f.surplus
  pub body : IsSmallBody f.body

-- each body of linear code uses at most 460 words beside the locals, a function with them at most
-- 1,000, and 1,024 more for each 1 that it weighs above 1. What its instructions name is there.
pub record IsSmall (p : LinearProgram) : Type 0 where
  pub globals : length p.globals ≤ MOST_GLOBALS
  pub main : p.main < length p.functions
  pub functions : AllByRecursion IsSmallFunction p.functions
  pub funclets : AllByRecursion (IsSmallFunclet p) p.funclets
