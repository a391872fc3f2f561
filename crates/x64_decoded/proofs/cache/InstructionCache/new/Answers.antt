use Rattle.std.proofs.Common.{None, sym, subst, rules}
use Rattle.std.proofs.lemmas.List.Elements.{All-push}
use Rattle.flat_memory.specs.Memory.{Memory}
use Rattle.x64_decoded.specs.Entries.{IsCoherentEntry, AreCoherent}
use Rattle.x64_decoded.proofs.cache.InstructionCache.new.Goals as goal

nothing : (m : Memory) → IsCoherentEntry m None
nothing m e is = absurd cc

pub loop-i-preserved : goal.loop-i-preserved
loop-i-preserved c = (
  search rules,
  λ m. subst (AreCoherent m) (sym c.in_ok-push.ensures.items)
      (All-push (IsCoherentEntry m) c.loop-i.entries.items None (c.loop-i.invariant.1 m)
      (nothing m)),
)
