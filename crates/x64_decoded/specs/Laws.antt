-- What keeps a cache in agreement with memory.
use Rattle.std.specs.Prelude.{ℕ, ◌<◌, ◌^◌, ℤ}
use Rattle.seh_num.specs.declared.width.Width.{Width}
use Rattle.flat_memory.specs.Memory.{Memory, after_store, protected}
use Rattle.x64_instr.specs.declared.instruction.Instr.{Instr}
use Rattle.x64_machine.specs.Effect.{State, memory_after, step}
use Rattle.x64_machine.specs.Effect as machine
use Rattle.x64_decoded.specs.declared.cache.InstructionCache.{InstructionCache}
use Rattle.x64_decoded.specs.Fixed.{KeepsFixed}
use Rattle.x64_decoded.specs.Caches.{IsCoherent}

abbrev pub StoresKeepFixed : Type 0
StoresKeepFixed =
    (m : Memory) (at v : ℕ) (w : Width) → at < 2 ^ 64 → KeepsFixed m (after_store m at w v)

abbrev pub ProtectKeepsFixed : Type 0
ProtectKeepsFixed = (m : Memory) (at : ℕ) (number : ℤ) → KeepsFixed m (protected m at number)

abbrev pub EffectsKeepFixed : Type 0
EffectsKeepFixed =
    (s : State) (i : Instr) → KeepsFixed s.memory (memory_after s.memory (machine.effect s i))

abbrev pub StepsKeepFixed : Type 0
StepsKeepFixed = (s : State) → KeepsFixed s.memory (memory_after s.memory (step s))

-- one change after another
abbrev pub KeepingIsTransitive : Type 0
KeepingIsTransitive =
    (m n o : Memory) → KeepsFixed m n → KeepsFixed n o → KeepsFixed m o

-- a cache agrees with memory after each change that keeps what is fixed
abbrev pub CachesStayCoherent : Type 0
CachesStayCoherent =
    (m new : Memory) (c : InstructionCache) → KeepsFixed m new → IsCoherent m c → IsCoherent new c
