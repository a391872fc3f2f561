-- What the regions and the calls of a body name.
--
-- `IsWhole`, `HaveRoom`, `AllReturnsStayInRegions`: what bodies name is there and theirs; their
-- slots are enough; a call and the instruction after it are inside the same regions.
use Rattle.std.specs.Prelude.{◌≡◌, ℕ, ◌+◌, ◌<◌, ◌≤◌, List, ◌++◌, replicate, slice_get, Option, Some, None}
use Rattle.std.specs.List.{AllByRecursion}
use Rattle.c_operations.specs.declared.built_in.BuiltIn.TheVariants.{AddVectored, RemoveVectored}
use Rattle.c_operations.specs.declared.operation.Operation.{Operation}
use Rattle.c_operations.specs.declared.operation.Operation.TheVariants.{Pure, Allocate, SetPointer, Place, Clear}
use Rattle.linear_code.specs.declared.slot.Slot.{Slot}
use Rattle.linear_code.specs.declared.slot.Slot.TheVariants.{Local, Temporary}
use Rattle.linear_code.specs.declared.instruction.Instruction.{Instruction}
use Rattle.linear_code.specs.declared.instruction.Instruction.TheVariants as instructions
use Rattle.linear_code.specs.declared.program.Region.{Region}
use Rattle.linear_code.specs.declared.program.RegionKind.{RegionKind}
use Rattle.linear_code.specs.declared.program.RegionKind.TheVariants as kinds
use Rattle.linear_code.specs.declared.program.FuncletKind.{FuncletKind}
use Rattle.linear_code.specs.declared.program.FuncletKind.TheVariants as funclets
use Rattle.linear_code.specs.Program.{LinearProgram, LinearBody, LinearFunction, LinearFunclet, depth_weight}
use Rattle.linear_machine.specs.Frames.{BodyName, FunctionBody, FuncletBody, body_of}
use Rattle.linear_machine.specs.Run.{instruction_in}

abbrev pub IsFilterKind : FuncletKind → Type 0
IsFilterKind funclets.Filter = Unit {0}
IsFilterKind (funclets.Finally flag) = ⊥

abbrev pub IsFinallyKind : FuncletKind → Type 0
IsFinallyKind funclets.Filter = ⊥
IsFinallyKind (funclets.Finally flag) = Unit {0}

-- the body that has the region of a funclet
abbrev pub parent_of : ℕ → Option ℕ → BodyName
parent_of function None = FunctionBody function
parent_of function (Some parent) = FuncletBody parent

abbrev pub function_of : Option LinearFunclet → Option ℕ
function_of None = None
function_of (Some f) = Some f.function

abbrev pub IsTemporary : Slot → Type 0
IsTemporary (Local x) = ⊥
IsTemporary (Temporary i) = Unit {0}

abbrev pub ReadsWell : Operation → Slot → Slot → Type 0
ReadsWell (Pure p) first second = Unit {0}
ReadsWell (Allocate n) first second = Unit {0}
ReadsWell (SetPointer n) first second = Unit {0}
ReadsWell (Place w offset) first second = Unit {0}
ReadsWell (Clear w offset) first second = Unit {0}
ReadsWell o first second = IsTemporary first × IsTemporary second

module _ (program : LinearProgram) where
  -- the function whose locals a body works on
  abbrev pub owner_of : BodyName → Option ℕ
  owner_of (FunctionBody f) = Some f
  owner_of (FuncletBody k) = function_of (slice_get program.funclets k)

  -- a funclet of a body: it has the same function, and as many locals
  pub record IsFuncletOf (name : BodyName) (kind : FuncletKind → Type 0) (k : ℕ) : Type 0 where
    pub funclet : LinearFunclet
    pub there : slice_get program.funclets k ≡ Some funclet
    pub parent : parent_of funclet.function funclet.parent ≡ name
    pub owner : owner_of name ≡ Some funclet.function
    pub fits : kind funclet.kind

  -- an `__except` block begins at this label of a body
  abbrev pub IsLanding : BodyName → ℕ → Type 0
  IsLanding name label =
      (slot : ℕ) × (instruction_in (body_of program name) label
      ≡ Some (instructions.Landing (Local slot)))

  -- its funclet is one of the body, and its block begins where it ends
  abbrev pub IsKindOf : BodyName → ℕ → RegionKind → Type 0
  IsKindOf name end (kinds.Finally k) = IsFuncletOf name IsFinallyKind k
  IsKindOf name end (kinds.Filter k target) =
      IsFuncletOf name IsFilterKind k × IsLanding name target × (target ≡ end)
  IsKindOf name end (kinds.Always target) = IsLanding name target × (target ≡ end)

  pub record IsRegionOf (name : BodyName) (r : Region) : Type 0 where
    pub begins : r.begin < r.end
    pub kind : IsKindOf name r.end r.kind

  -- a function that is called takes so many arguments
  pub record IsCallee (f count : ℕ) : Type 0 where
    pub function : LinearFunction
    pub there : slice_get program.functions f ≡ Some function
    pub takes : count ≡ function.parameters

  -- a function that can be a vectored handler takes a code and flags, and begins with one separator
  -- more than it counts in the depth
  pub record IsVectoredCallee (f : ℕ) : Type 0 where
    pub callee : IsCallee f 2
    pub rest : List Instruction
    pub begins : callee.function.body.code
        ≡ replicate (depth_weight callee.function + 1) instructions.Separator ++ rest

  -- what an instruction of a body calls is there, and a function that it puts among the vectored
  -- handlers or takes out can be one; an operation that may fault reads temporaries alone, which no
  -- filter changes
  abbrev pub IsInstructionOf : BodyName → Instruction → Type 0
  IsInstructionOf name (instructions.Compute to o first second) = ReadsWell o first second
  IsInstructionOf name (instructions.Call f first count) = IsCallee f count
  IsInstructionOf name (instructions.CallBuiltIn (AddVectored f) first) = IsVectoredCallee f
  IsInstructionOf name (instructions.CallBuiltIn (RemoveVectored f) first) = IsVectoredCallee f
  IsInstructionOf name (instructions.CallFinally k) = IsFuncletOf name IsFinallyKind k
  IsInstructionOf name other = Unit {0}

  pub record IsBodyOf (name : BodyName) (b : LinearBody) : Type 0 where
    pub regions : AllByRecursion (IsRegionOf name) b.regions
    pub code : AllByRecursion (IsInstructionOf name) b.code

  abbrev pub AreBodies : Type 0
  AreBodies = (name : BodyName) (b : LinearBody) → body_of program name ≡ Some b → IsBodyOf name b

  -- all bodies; parameters are locals, and `main` has one at most
  pub record IsWhole : Type 0 where
    pub bodies : AreBodies
    pub parameters : (k : ℕ) (f : LinearFunction) → slice_get program.functions k ≡ Some f
        → f.parameters ≤ f.body.locals
    pub few : (main : LinearFunction) → slice_get program.functions program.main ≡ Some main
        → main.parameters ≤ 1
