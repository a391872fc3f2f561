use Rattle.std.proofs.Common.{◌≡◌, ◌%◌, Some, refl, sym, ap, subst, ◌∙◌}
use Rattle.std.proofs.lemmas.List.Elements.{All-set}
use Rattle.x64_instr.specs.Spelling.{leading}
use Rattle.flat_memory.specs.Memory.{Memory}
use Rattle.x64_decoded.specs.declared.instruction.DecodedInstruction.{DecodedInstruction}
use Rattle.x64_decoded.specs.declared.cache.TheConstants.{ENTRIES}
use Rattle.x64_decoded.specs.Entries.{IsDecoded, IsCoherentEntry}
use Rattle.x64_decoded.proofs.cache.InstructionCache.read.Goals as goal

only : (m : Memory) (e : DecodedInstruction) → IsDecoded m e → IsCoherentEntry m (Some e)
only m e d x is = subst (IsDecoded m) (same is) d
  where
    same : {a b : DecodedInstruction} → Some a ≡ Some b → a ≡ b
    same is = cc

pub returns-then-are_fixed-clause-coherent : goal.returns-then-are_fixed-clause-coherent
returns-then-are_fixed-clause-coherent g c =
    let m = g.S.CodeSpace.memory c.args.space.now in
    let e : DecodedInstruction = record {
      at = c.args.at;
      len = c.in-Some.len;
      instr = c.in-Some.instr;
    } in
    let d : IsDecoded m e = record {
      address = c.ranges.at.fits;
      fixed = c.if-are_fixed.ensures refl;
      reading = ap leading (sym c.fetch-count.ensures.bytes) ∙ sym c.in-Some.ensures.exact;
    } in
    All-set (IsCoherentEntry m) c.args.self.now.entries.items (c.args.at % ENTRIES) (Some e)
    (only m e d) c.requires
