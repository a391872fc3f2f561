-- What a turn of linear code leads to, whatever is done from there on.
--
-- The main definition: `IsReached`.
use Rattle.std.specs.Prelude.{◌≡◌, ℕ, zero, suc, ℤ, slice_get, Some}
use Rattle.linear_code.specs.declared.instruction.Instruction.{Instruction}
use Rattle.linear_code.specs.Program.{LinearProgram, LinearFunction}
use Rattle.linear_machine.specs.Frames.{Configuration, Next}
use Rattle.linear_machine.specs.Instructions.{act}
use Rattle.linear_machine.specs.Run.{instruction_at, start}

module _ (program : LinearProgram) where
  -- from one configuration to the next
  pub record IsTurn (c d : Configuration) : Type 0 where
    pub instruction : Instruction
    pub at : instruction_at program c ≡ Some instruction
    pub goes : (next : Next) → act program instruction next c ≡ next d

  -- by so many turns
  abbrev pub Comes : ℕ → Configuration → Configuration → Type 0
  Comes zero c d = c ≡ d
  Comes (suc n) c d = (e : Configuration) × IsTurn c e × Comes n e d

  -- from the beginning of a run
  pub record IsReached (d : Configuration) : Type 0 where
    pub argument : ℤ
    pub main : LinearFunction
    pub is_main : slice_get program.functions program.main ≡ Some main
    pub turns : ℕ
    pub comes : Comes turns (start program argument main) d
