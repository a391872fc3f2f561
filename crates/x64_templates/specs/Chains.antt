-- Turns of a run over code that flows, one after another.
use Rattle.std.specs.Prelude.{◌≡◌, ℕ, zero, suc, ◌+◌, ◌⊎◌, false, List, ◌∷◌, ◌++◌, Some, Ok}
use Rattle.seh_num.specs.declared.size.TheConstants.{LONGEST_INSTRUCTION}
use Rattle.flat_memory.specs.Memory.{executable}
use Rattle.x64_instr.specs.declared.instruction.Instr.{Instr}
use Rattle.x64_instr.specs.Spelling.{leading}
use Rattle.x64_machine.specs.Contexts.{kept_of}
use Rattle.x64_machine.specs.Effect.{State, step}
use Rattle.template_code.specs.Bytes.{size, sizes}
use Rattle.x64_templates.specs.Keeping.{is_call}

-- so many steps are each of this kind
abbrev pub AllTurns : (State → State → Type 0) → ℕ → State → Type 0
AllTurns Turn zero s = Unit {0}
AllTurns Turn (suc n) s = (u : State) → step s ≡ Ok u → Turn s u × AllTurns Turn n u

-- a state inside code that began in one state and ends in another: RIP is at one of its
-- instructions, RSP and the nonvolatile registers are those of the begin, and memory is that of the
-- begin or of the end
pub record IsInside (code : List Instr) (s w u : State) : Type 0 where
  pub done : List Instr
  pub item : Instr
  pub left : List Instr
  pub parts : code ≡ done ++ (item ∷ left)
  pub rip : u.cpu.rip ≡ s.cpu.rip + sizes done
  pub registers : kept_of u.cpu.registers ≡ kept_of s.cpu.registers
  pub memory : (u.memory ≡ s.memory) ⊎ (u.memory ≡ w.memory)

-- a step from such a state to another, or to the end
pub record IsTurnOf (code : List Instr) (s w u v : State) : Type 0 where
  pub steps : step u ≡ Ok v
  pub instruction : Instr
  pub read : leading (executable u.memory LONGEST_INSTRUCTION u.cpu.rip)
      ≡ Some (instruction, size instruction)
  pub no_call : is_call instruction ≡ false
  pub from : IsInside code s w u
  pub to : IsInside code s w v ⊎ (v ≡ w)
