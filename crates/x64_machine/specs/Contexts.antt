-- What a caller can rely on.
use Rattle.std.specs.Prelude.{ℕ, List, [], ◌∷◌, slice_index}
use Rattle.x64_machine.specs.declared.cpu.Cpu.{Cpu}
use Rattle.x64_machine.specs.declared.context.Context.{Context}

-- RSP, RBX, RBP, RSI, RDI and R12 to R15
abbrev pub kept_of : List ℕ → List ℕ
kept_of r =
    slice_index r 4 ∷ slice_index r 3 ∷ slice_index r 5 ∷ slice_index r 6 ∷ slice_index r 7
    ∷ slice_index r 12 ∷ slice_index r 13 ∷ slice_index r 14 ∷ slice_index r 15 ∷ []

abbrev pub context_of : Cpu → Context
context_of c = record { rip = c.rip; kept = kept_of c.registers }
