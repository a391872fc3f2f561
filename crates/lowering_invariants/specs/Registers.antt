-- Locals that stand in registers, and code that leaves them alone.
--
-- The main definition: `SparesRegisters`.
use Rattle.std.specs.Prelude.{◌≡◌, ℕ, ◌<◌, ◌≤◌, List, false, nat_eq, length, slice_get, Some}
use Rattle.std.specs.List.{AllByRecursion, list_any}
use Rattle.std.specs.List.Sorted.{IsStrictlyIncreasing}
use Rattle.c_checked.specs.Program.{Program}
use Rattle.linear_code.specs.declared.slot.Slot.{Slot}
use Rattle.linear_code.specs.declared.slot.Slot.TheVariants.{Local, Temporary}
use Rattle.linear_code.specs.declared.instruction.Instruction.{Instruction}
use Rattle.linear_code.specs.declared.instruction.Instruction.TheVariants as instructions
use Rattle.linear_code.specs.declared.program.FuncletKind.{FuncletKind}
use Rattle.linear_code.specs.declared.program.FuncletKind.TheVariants.{Filter, Finally}
use Rattle.linear_code.specs.Program.{LinearFunction, LinearFunclet, LinearProgram}
use Rattle.seh_ir.specs.Lowered.{lowered}

-- ---- locals that have a property

abbrev pub SlotHas : (ℕ → Type 0) → Slot → Type 0
SlotHas L (Local x) = L x
SlotHas L (Temporary i) = Unit {0}

-- each local that an instruction reads or writes
abbrev pub SlotsHave : (ℕ → Type 0) → Instruction → Type 0
SlotsHave L (instructions.Compute to o first second) =
    SlotHas L to × SlotHas L first × SlotHas L second
SlotsHave L (instructions.Information to field) = SlotHas L to
SlotsHave L (instructions.JumpIfZero slot label) = SlotHas L slot
SlotsHave L (instructions.Landing to) = SlotHas L to
SlotsHave L (instructions.Return from) = SlotHas L from
SlotsHave L other = Unit {0}

-- the flag of a `__finally` block (Microsoft C reference, "AbnormalTermination")
abbrev pub FlagHas : (ℕ → Type 0) → FuncletKind → Type 0
FlagHas L Filter = Unit {0}
FlagHas L (Finally flag) = L flag

-- ---- registers

-- a local stands in the frame, since it is none of those in registers
abbrev pub IsInFrame : List ℕ → ℕ → Type 0
IsInFrame registers x = list_any (nat_eq x) registers ≡ false

-- a filter or a `__finally` block names no local of its function that stands in a register
pub record SparesRegisters (p : LinearProgram) (f : LinearFunclet) : Type 0 where
  pub function : LinearFunction
  pub there : slice_get p.functions f.function ≡ Some function
  pub flag : FlagHas (IsInFrame function.registers) f.kind
  pub code : AllByRecursion (SlotsHave (IsInFrame function.registers)) f.body.code

-- at most seven locals, in rising order
pub record HasRegisters (f : LinearFunction) : Type 0 where
  pub few : length f.registers ≤ 7
  pub rising : IsStrictlyIncreasing f.registers
  pub locals : AllByRecursion (λ x. x < f.body.locals) f.registers

-- ---- what is claimed of every lowered program

abbrev pub LoweredSparesRegisters : Type 0
LoweredSparesRegisters =
    (program : Program) (k : ℕ) (f : LinearFunclet)
    → slice_get (lowered program).funclets k ≡ Some f → SparesRegisters (lowered program) f

abbrev pub LoweredHasRegisters : Type 0
LoweredHasRegisters =
    (program : Program) (k : ℕ) (f : LinearFunction)
    → slice_get (lowered program).functions k ≡ Some f → HasRegisters f
