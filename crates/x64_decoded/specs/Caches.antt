-- Caches that agree with memory.
--
-- The main definition: `IsCoherent`.
use Rattle.flat_memory.specs.Memory.{Memory}
use Rattle.x64_decoded.specs.declared.cache.InstructionCache.{InstructionCache}
use Rattle.x64_decoded.specs.Entries.{AreCoherent}

-- a cache in which each instruction that is kept is so. Law: a cache agrees with a memory if it
-- agrees with one of which that keeps what is fixed (`CachesStayCoherent`).
abbrev pub IsCoherent : Memory → InstructionCache → Type 0
IsCoherent m c = AreCoherent m c.entries.items
