-- Programs that read no local before it has been set.
--
-- The main definition: `ReadsNoUnset`.
use Rattle.std.specs.Prelude.{◌≡◌, ℕ, zero, suc, Bool, true, false, [], ◌∷◌, length, slice_get, ℤ, Some}
use Rattle.linear_code.specs.declared.slot.Slot.{Slot}
use Rattle.linear_code.specs.declared.slot.Slot.TheVariants.{Local, Temporary}
use Rattle.linear_code.specs.declared.instruction.Instruction.{Instruction}
use Rattle.linear_code.specs.declared.instruction.Instruction.TheVariants as instructions
use Rattle.linear_code.specs.Program.{LinearProgram, LinearFunction}
use Rattle.linear_machine.specs.Frames.{Configuration}
use Rattle.linear_machine.specs.Instructions.{is_constant}
use Rattle.linear_machine.specs.Run.{instruction_at, start, main_arguments}
use Rattle.lowering_invariants.specs.Turns.{IsTurn}
use Rattle.lowering_locals.specs.Marks.{Marks, marks_of, first_marks, next_marks}

-- ---- reads

abbrev pub IsSet : Marks → ℕ → Slot → Type 0
IsSet marks k (Local x) = slice_get (marks_of marks k) x ≡ Some true
IsSet marks k (Temporary i) = Unit {0}

-- a constant reads no slot
abbrev pub AreOperandsSet : Bool → Marks → ℕ → Slot → Slot → Type 0
AreOperandsSet true marks k first second = Unit {0}
AreOperandsSet false marks k first second = IsSet marks k first × IsSet marks k second

-- each local that an instruction reads has been set
abbrev pub ReadsSet : Marks → Configuration → Instruction → Type 0
ReadsSet marks c (instructions.Compute to o first second) =
    AreOperandsSet (is_constant o) marks c.frame.activation first second
ReadsSet marks c (instructions.JumpIfZero slot label) = IsSet marks c.frame.activation slot
ReadsSet marks c (instructions.Return from) = IsSet marks c.frame.activation from
ReadsSet marks c i = Unit {0}

-- ---- runs

module _ (program : LinearProgram) where
  -- by so many turns, with the marks
  abbrev pub ComesMarked : ℕ → Configuration → Marks → Configuration → Marks → Type 0
  ComesMarked zero c marks d ends = (c ≡ d) × (marks ≡ ends)
  ComesMarked (suc n) c marks d ends =
      (e : Configuration) × (turn : IsTurn program c e)
      × ComesMarked n e (next_marks program turn.instruction c e marks) d ends

  -- the arguments of `main` have been set
  abbrev pub start_marks : ℤ → LinearFunction → Marks
  start_marks arg main = first_marks (length (main_arguments main.parameters arg)) main ∷ []

  -- from the beginning of a run
  pub record IsMarked (c : Configuration) (marks : Marks) : Type 0 where
    pub argument : ℤ
    pub main : LinearFunction
    pub is_main : slice_get program.functions program.main ≡ Some main
    pub turns : ℕ
    pub comes : ComesMarked turns (start program argument main) (start_marks argument main) c marks

  -- no run reads a local that hasn't been set
  abbrev pub ReadsNoUnset : Type 0
  ReadsNoUnset =
      (c : Configuration) (marks : Marks) (i : Instruction) → IsMarked c marks
      → instruction_at program c ≡ Some i → ReadsSet marks c i
