-- What the machine's effect does to the registers of a measured instruction.
--
-- The main definition: `InstructionsAreMeasured`.
use Rattle.std.specs.Prelude.{◌≡◌, ◌≢◌, ℕ, false, List, Some, Ok}
use Rattle.x64_instr.specs.declared.instruction.Instr.{Instr}
use Rattle.x64_instr.specs.declared.instruction.Instr.TheVariants as instrs
use Rattle.x64_instr.specs.declared.instruction.Target.{Target}
use Rattle.x64_instr.specs.Reading.{bit}
use Rattle.x64_instr.specs.Spelling.{leading}
use Rattle.x64_machine.specs.Effect.{State, effect}
use Rattle.frame_rules.specs.States.{registers}
use Rattle.frame_rules.specs.Body.{is_a_call}
use Rattle.x64_lengths.specs.declared.effects.Effects.{Effects}
use Rattle.x64_lengths.specs.Measures.{measured}

-- wherever the instruction is run, the register of this number stays as it was
abbrev pub Keeps : Instr → ℕ → Type 0
Keeps i r = (s t : State) → effect s i ≡ Ok t → registers t r ≡ registers s r

-- what is measured of bytes that begin with an instruction of n bytes
pub record IsMeasured (bytes : List ℕ) (i : Instr) (n : ℕ) : Type 0 where
  pub effects : Effects
  pub is_measured : measured bytes ≡ Some (record { length = n; effects = effects })
  pub keeps : (r : ℕ) → is_a_call i ≡ false → bit r effects.general ≡ 0 → Keeps i r
  pub call_keeps : (to : Target) (r : ℕ) → i ≡ instrs.Call to → r ≢ 4 → Keeps i r

-- each listed instruction
abbrev pub InstructionsAreMeasured : Type 0
InstructionsAreMeasured =
    (bytes : List ℕ) (i : Instr) (n : ℕ) → leading bytes ≡ Some (i, n) → IsMeasured bytes i n
