-- What an instruction does that needs no dispatcher.
use Rattle.std.specs.Prelude.{ℕ, zero, suc, ◌+◌, ◌<◌, ◌≤◌, Bool, nat_eq, nat_lt, if◌then◌else◌, List, length, get_or, Option, Some, None}
use Rattle.seh_num.specs.declared.event.Code.{Code}
use Rattle.c_operations.specs.Performed.{OperationResult, Gives, Raises, Undefined, performed}
use Rattle.linear_code.specs.declared.slot.Slot.{Slot}
use Rattle.linear_code.specs.declared.slot.Slot.TheVariants.{Local, Temporary}
use Rattle.linear_code.specs.declared.instruction.Instruction.{Instruction}
use Rattle.linear_code.specs.declared.instruction.Instruction.TheVariants as instructions
use Rattle.linear_code.specs.BodyState.{BodyState, Counts, with_slot}

-- ---- instructions

-- what an instruction does without the dispatcher: the body after it, and where it continues (at a
-- label, or at the instruction after); a fault; nothing is said; or it isn't one of these
pub data InstructionEffect : Type 0 where
  Next : BodyState → InstructionEffect
  JumpsTo : BodyState → ℕ → InstructionEffect
  Faults : Code → Option (Bool × ℕ) → InstructionEffect
  ReservedAccess : ℕ → InstructionEffect
  NeedsDispatcher : InstructionEffect

abbrev pub kept : Slot → (Slot → ℕ) → OperationResult → InstructionEffect
kept to slots (Gives v m) = Next (record { slots = with_slot slots to v; memory = m })
kept to slots (Raises code access) = Faults code access
kept to slots (Undefined a) = ReservedAccess a

abbrev pub step : (ℕ → Bool) → Instruction → BodyState → InstructionEffect
step reserved (instructions.Compute to o first second) b =
    kept to b.slots (performed reserved o (b.slots first) (b.slots second) b.memory)
step reserved (instructions.Jump label) b = JumpsTo b label
step reserved (instructions.JumpIfZero slot label) b =
    if nat_eq (b.slots slot) 0 then JumpsTo b label else Next b
step reserved instructions.Separator b = Next b
step reserved other b = NeedsDispatcher

-- ---- slots that are there

abbrev pub IsSlot : Counts → Slot → Type 0
IsSlot n (Local i) = i < n.locals
IsSlot n (Temporary i) = i < n.temporaries

abbrev pub HasSlots : Counts → Instruction → Type 0
HasSlots n (instructions.Compute to o first second) = IsSlot n to × IsSlot n first × IsSlot n second
HasSlots n (instructions.Information to field) = IsSlot n to
HasSlots n (instructions.JumpIfZero slot label) = IsSlot n slot
HasSlots n (instructions.Call function first count) =
    (first + 4 ≤ n.temporaries) × (first + count ≤ n.temporaries)
HasSlots n (instructions.CallBuiltIn function first) = first + 4 ≤ n.temporaries
HasSlots n (instructions.Landing to) = IsSlot n to
HasSlots n (instructions.Return from) = IsSlot n from
HasSlots n other = Unit {0}

-- ---- several instructions of a body, each of which continues to another

-- where a body is: the number of its next instruction, and what it works on
abbrev pub BodyPoint : Type 0
BodyPoint = ℕ × BodyState

abbrev pub continued : (ℕ → BodyState → Option BodyPoint) → ℕ → InstructionEffect → Option BodyPoint
continued rest number (Next b) = rest (number + 1) b
continued rest number (JumpsTo b label) = rest label b
continued rest number _ = None

unfoldable pub run : (ℕ → Bool) → List Instruction → ℕ → ℕ → BodyState → Option BodyPoint
run reserved code zero number b = Some (number, b)
run reserved code (suc n) number b =
    if nat_lt number (length code) then continued (run reserved code n) number
    (step reserved (get_or code number instructions.Separator) b) else None
