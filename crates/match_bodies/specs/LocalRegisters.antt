-- In which registers the locals of a body stand.
use Rattle.std.specs.Prelude.{◌≡◌, ℕ, ◌+◌, Bool, true, false, List, [], ◌∷◌, slice_index, Option, Some, None}
use Rattle.x64_machine.specs.declared.cpu.Cpu.{Cpu}
use Rattle.x64_machine.specs.Contexts.{context_of}
use Rattle.virtual_unwind.specs.Contexts.{get}

-- the registers in which the locals of a body that runs may stand, by their numbers: of a leaf
-- function all that the processor has, of any other body the nonvolatile ones, which a walk finds
abbrev pub now_of : Bool → Cpu → ℕ → ℕ
now_of false cpu = get (context_of cpu)
now_of true cpu = λ r. slice_index cpu.registers r

abbrev pub IsInRegister : (now : ℕ → ℕ) (v : ℕ) → Option ℕ → Type 0
IsInRegister now v None = Unit {0}
IsInRegister now v (Some r) = now r ≡ v

-- of these locals, from the one of a number on, those that stand in registers have their numbers
-- there
abbrev pub RegistersHold : (now : ℕ → ℕ) (register : ℕ → Option ℕ) (i : ℕ) → List ℕ → Type 0
RegistersHold now register i [] = Unit {0}
RegistersHold now register i (v ∷ vs) =
    IsInRegister now v (register i) × RegistersHold now register (i + 1) vs
