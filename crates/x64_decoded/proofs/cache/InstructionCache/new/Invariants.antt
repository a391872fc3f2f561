use Rattle.std.proofs.Common.{◌≡◌, length}
use Rattle.flat_memory.specs.Memory.{Memory}
use Rattle.x64_decoded.specs.Entries.{AreCoherent}
use Rattle.x64_decoded.proofs.cache.InstructionCache.new.Given as goal

abbrev pub invariant-loop-i : goal.invariant-loop-i
invariant-loop-i l = (length l.entries.items ≡ l.i) × ((m : Memory) → AreCoherent m l.entries.items)
