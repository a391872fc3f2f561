-- What is kept stays what memory holds.
use Rattle.std.proofs.Common.{◌≡◌, ℕ, zero, suc, ◌+◌, ◌%◌, ◌^◌, ◌<◌, cond, List, [], ◌∷◌, Option, Some, None, refl, ap, subst, ◌∙◌, arith}
use Rattle.std.proofs.lemmas.List.Elements.{All-weaker}
use Rattle.seh_num.specs.declared.size.TheConstants.{LONGEST_INSTRUCTION}
use Rattle.flat_memory.specs.declared.protection.Protection.{Protection}
use Rattle.flat_memory.specs.Protections.{is_writable}
use Rattle.flat_memory.specs.Memory.{Memory, next, executable}
use Rattle.x64_instr.specs.Spelling.{leading}
use Rattle.x64_decoded.specs.declared.instruction.DecodedInstruction.{DecodedInstruction}
use Rattle.x64_decoded.specs.Fixed.{IsFixedAt, KeepsFixed, AreFixed}
use Rattle.x64_decoded.specs.Entries.{IsDecoded, IsCoherentEntry}
use Rattle.x64_decoded.specs.Laws.{CachesStayCoherent}

-- what is fixed is so in a memory that keeps it
fixed_stays : (m new : Memory) (a : ℕ) → KeepsFixed m new → IsFixedAt m a → IsFixedAt new a
fixed_stays m new a k f = record {
  outside = f.outside;
  read_only = ap (λ (p : Protection). is_writable p.rights) (k a f).protection ∙ f.read_only;
}

-- the same bytes are fetched
executable_stays : (m new : Memory) (n at : ℕ) → KeepsFixed m new → at < 2 ^ 64 → AreFixed m n at
    → executable new n at ≡ executable m n at
unfolding executable
executable_stays m new zero at k lt f = refl
executable_stays m new (suc n) at k lt f =
    let z : (at + 0) % 2 ^ 64 ≡ at = omega arith in
    let here = k at (subst (IsFixedAt m) z (f 0 (omega arith))) in
    let rest = executable_stays m new n (next at) k (omega arith) (λ i il.
    let e : (at + suc i) % 2 ^ 64 ≡ (next at + i) % 2 ^ 64 = omega arith in
    subst (IsFixedAt m) e (f (suc i) (omega arith))) in
    ap (λ (p : Protection). cond p.execute (new.byte at ∷ executable new n (next at)) [])
    here.protection
    ∙ ap (λ (b : ℕ). cond (m.protection at).execute (b ∷ executable new n (next at)) []) here.byte
    ∙ ap (λ (t : List ℕ). cond (m.protection at).execute (m.byte at ∷ t) []) rest

decoded_stays : (m new : Memory) (e : DecodedInstruction) → KeepsFixed m new → IsDecoded m e
    → IsDecoded new e
decoded_stays m new e k d = record {
  address = d.address;
  fixed = λ i il. fixed_stays m new ((e.at + i) % 2 ^ 64) k (d.fixed i il);
  reading = ap leading (executable_stays m new LONGEST_INSTRUCTION e.at k d.address d.fixed)
      ∙ d.reading;
}

entry_stays : (m new : Memory) (e : Option DecodedInstruction) → KeepsFixed m new
    → IsCoherentEntry m e → IsCoherentEntry new e
entry_stays m new None k r = λ e is. absurd cc
entry_stays m new (Some e) k r = λ x is. decoded_stays m new x k (r x is)

pub cache_stays : CachesStayCoherent
cache_stays m new c k r = All-weaker (IsCoherentEntry m) (IsCoherentEntry new)
    (λ e x. entry_stays m new e k x) c.entries.items r
