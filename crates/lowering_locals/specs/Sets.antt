-- At each instruction of each body, locals that have been set whenever a run comes there.
--
-- The main definition: `IsSetMap`.
use Rattle.std.specs.Prelude.{◌≡◌, ℕ, ◌+◌, ◌<◌, Bool, true, false, slice_get, Option, Some, None}
use Rattle.std.specs.List.{AllByRecursion}
use Rattle.linear_code.specs.declared.slot.Slot.{Slot}
use Rattle.linear_code.specs.declared.slot.Slot.TheVariants.{Local, Temporary}
use Rattle.linear_code.specs.declared.instruction.Instruction.{Instruction}
use Rattle.linear_code.specs.declared.instruction.Instruction.TheVariants as instructions
use Rattle.linear_code.specs.declared.program.Region.{Region}
use Rattle.linear_code.specs.declared.program.RegionKind.{RegionKind}
use Rattle.linear_code.specs.declared.program.RegionKind.TheVariants as kinds
use Rattle.linear_code.specs.Program.{LinearProgram, LinearBody, LinearFunction}
use Rattle.linear_machine.specs.Frames.{BodyName, FunctionBody, FuncletBody, body_of}
use Rattle.linear_machine.specs.Regions.{holds}
use Rattle.linear_machine.specs.Unwinding.{flag_of}
use Rattle.linear_machine.specs.Instructions.{is_constant}
use Rattle.lowering_invariants.specs.Bodies.{owner_of}
use Rattle.c_checked.specs.LocalScopes.{SeenNames, with_local, IsPart, first_seen}

-- with what is written, if it is a local
abbrev pub with_slot : Slot → SeenNames → SeenNames
with_slot (Local x) seen = with_local x seen
with_slot (Temporary i) seen = seen

-- with the flag of a `__finally` block
abbrev pub with_flag : Option ℕ → SeenNames → SeenNames
with_flag None seen = seen
with_flag (Some x) seen = with_local x seen

-- a local that is read has been set
abbrev pub ReadsIn : SeenNames → Slot → Type 0
ReadsIn seen (Local x) = seen x ≡ true
ReadsIn seen (Temporary i) = Unit {0}

-- a constant reads no slot
abbrev pub OperandsIn : Bool → SeenNames → Slot → Slot → Type 0
OperandsIn true seen first second = Unit {0}
OperandsIn false seen first second = ReadsIn seen first × ReadsIn seen second

-- a local that is written is one of so many
abbrev pub IsLocalOf : ℕ → Slot → Type 0
IsLocalOf locals (Local x) = x < locals
IsLocalOf locals (Temporary i) = Unit {0}

abbrev pub function_locals : Option LinearFunction → ℕ
function_locals None = 0
function_locals (Some f) = f.body.locals

abbrev pub owner_locals : LinearProgram → Option ℕ → ℕ
owner_locals program None = 0
owner_locals program (Some f) = function_locals (slice_get program.functions f)

-- how many locals the activation has that a body works on
abbrev pub locals_at : LinearProgram → BodyName → ℕ
locals_at program name = owner_locals program (owner_of program name)

module _ (program : LinearProgram) (sets : BodyName → ℕ → SeenNames) where
  -- where a funclet begins, what has been set where it is run from, and its flag
  abbrev pub FinallyBegins : ℕ → SeenNames → Type 0
  FinallyBegins k seen =
      IsPart (sets (FuncletBody k) 0) (with_flag (flag_of (slice_get program.funclets k)) seen)

  -- what an instruction of a body reads has been set, and where it leads to, nothing more than here
  -- and what it writes is known
  abbrev pub Leads : BodyName → ℕ → Instruction → Type 0
  Leads name label (instructions.Compute to o first second) =
      OperandsIn (is_constant o) (sets name label) first second
      × IsLocalOf (locals_at program name) to
      × IsPart (sets name (label + 1)) (with_slot to (sets name label))
  Leads name label (instructions.Information to field) =
      IsLocalOf (locals_at program name) to
      × IsPart (sets name (label + 1)) (with_slot to (sets name label))
  Leads name label (instructions.Jump to) = IsPart (sets name to) (sets name label)
  Leads name label (instructions.JumpIfZero slot to) =
      ReadsIn (sets name label) slot × IsPart (sets name to) (sets name label)
      × IsPart (sets name (label + 1)) (sets name label)
  Leads name label (instructions.Call f first count) =
      IsPart (sets name (label + 1)) (sets name label)
  Leads name label (instructions.CallBuiltIn f first) =
      IsPart (sets name (label + 1)) (sets name label)
  Leads name label (instructions.CallFinally k) =
      FinallyBegins k (sets name label) × IsPart (sets name (label + 1)) (sets name label)
  Leads name label (instructions.LocalUnwind to) = IsPart (sets name to) (sets name label)
  Leads name label (instructions.Landing to) =
      IsLocalOf (locals_at program name) to
      × IsPart (sets name (label + 1)) (with_slot to (sets name label))
  Leads name label instructions.Separator = IsPart (sets name (label + 1)) (sets name label)
  Leads name label (instructions.Return from) = ReadsIn (sets name label) from

  -- so do the funclet and the block of a region that holds a place
  abbrev pub Guards : BodyName → ℕ → RegionKind → Type 0
  Guards name label (kinds.Finally k) = FinallyBegins k (sets name label)
  Guards name label (kinds.Filter k target) =
      IsPart (sets (FuncletBody k) 0) (sets name label)
      × IsPart (sets name target) (sets name label)
  Guards name label (kinds.Always target) = IsPart (sets name target) (sets name label)

  pub record IsSetBody (name : BodyName) (b : LinearBody) : Type 0 where
    pub code : (label : ℕ) (i : Instruction) → slice_get b.code label ≡ Some i → Leads name label i
    pub regions : (label : ℕ) → AllByRecursion (λ (r : Region). holds label r ≡ true
        → Guards name label r.kind) b.regions

  -- what `sets` names at a place in a body has been set whenever a run comes there. That is so
  -- since no instruction, region or funclet leads to a place with more names than it had and sets.
  -- What is read at a place is named there. Where a function begins, its parameters have been set;
  -- the flag of a block is one of its function's locals.
  pub record IsSetMap : Type 0 where
    pub begins : (f : ℕ) (function : LinearFunction) → slice_get program.functions f ≡ Some function
        → IsPart (sets (FunctionBody f) 0) (first_seen function.parameters None)
    pub bodies : (name : BodyName) (b : LinearBody) → body_of program name ≡ Some b
        → IsSetBody name b
    pub flags : (k flag : ℕ) → flag_of (slice_get program.funclets k) ≡ Some flag
        → flag < locals_at program (FuncletBody k)
