-- What an instruction needs is there.
--
-- The main definition: `CanContinue`.
use Rattle.std.specs.Prelude.{◌≡◌, ℕ, ◌+◌, ◌<◌, ◌≤◌, Bool, true, false, length, slice_get, Option, Some}
use Rattle.linear_code.specs.declared.slot.Slot.{Slot}
use Rattle.linear_code.specs.declared.slot.Slot.TheVariants.{Local, Temporary}
use Rattle.linear_code.specs.declared.instruction.Instruction.{Instruction}
use Rattle.linear_code.specs.declared.instruction.Instruction.TheVariants as instructions
use Rattle.linear_code.specs.Program.{LinearProgram, LinearFunction}
use Rattle.linear_machine.specs.Frames.{Configuration}
use Rattle.linear_machine.specs.Unwinding.{flag_of}
use Rattle.linear_machine.specs.Instructions.{is_constant, count_of}
use Rattle.linear_machine.specs.Run.{instruction_at}

-- a slot that is read, and one that is written, with so many temporaries held
abbrev pub IsHeld : ℕ → Slot → Type 0
IsHeld n (Local x) = Unit {0}
IsHeld n (Temporary i) = i < n

abbrev pub IsNextSlot : ℕ → Slot → Type 0
IsNextSlot n (Local x) = Unit {0}
IsNextSlot n (Temporary i) = i ≤ n

abbrev pub IsRead : Bool → ℕ → Slot → Type 0
IsRead true n slot = Unit {0}
IsRead false n slot = IsHeld n slot

-- how many temporaries a configuration holds
abbrev pub held : Configuration → ℕ
held c = length c.frame.temporaries

module _ (program : LinearProgram) where
  abbrev pub HasFunction : ℕ → Type 0
  HasFunction f = (function : LinearFunction) × (slice_get program.functions f ≡ Some function)

  abbrev pub HasBlock : ℕ → Type 0
  HasBlock k = (flag : ℕ) × (flag_of (slice_get program.funclets k) ≡ Some flag)

  abbrev pub HasLanded : Option ℕ → Type 0
  HasLanded landed = (code : ℕ) × (landed ≡ Some code)

  -- a configuration that is at an instruction: operands are held, the arguments of a call are the
  -- last temporaries, what is called is there, and at a landing an exception has just been taken
  -- over
  abbrev pub IsReady : Configuration → Instruction → Type 0
  IsReady c (instructions.Compute to o first second) =
      IsRead (is_constant o) (held c) first × IsRead (is_constant o) (held c) second
  IsReady c (instructions.Information to field) = IsNextSlot (held c) to
  IsReady c (instructions.Jump label) = Unit {0}
  IsReady c (instructions.JumpIfZero slot label) = IsHeld (held c) slot
  IsReady c (instructions.Call f first count) = (held c ≡ first + count) × HasFunction f
  IsReady c (instructions.CallBuiltIn f first) = held c ≡ first + count_of f
  IsReady c (instructions.CallFinally k) = HasBlock k
  IsReady c (instructions.LocalUnwind label) = Unit {0}
  IsReady c (instructions.Landing to) = HasLanded c.frame.landed × IsNextSlot (held c) to
  IsReady c instructions.Separator = Unit {0}
  IsReady c (instructions.Return from) = IsHeld (held c) from

  -- it is at an instruction, and what that needs is there
  pub record CanContinue (c : Configuration) : Type 0 where
    pub instruction : Instruction
    pub at : instruction_at program c ≡ Some instruction
    pub ready : IsReady c instruction
