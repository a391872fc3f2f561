use Rattle.std.proofs.Common.{◌≡◌, ℕ, zero, suc, ◌+◌, ◌-◌, ◌%◌, ◌/◌, ◌++◌, List, [], ◌∷◌, arith, ap, sym, ◌∙◌, append_assoc}
use Rattle.x64_encode.specs.Words.{little}
use Rattle.x64_encode.proofs.writing.put_number.Goals as goal

-- the low byte, then those of the rest
little_more : (n m v : ℕ) → n ≡ m + 1 → little n v ≡ (v % 256) ∷ little m (v / 256)
little_more zero m v e = absurd (omega arith)
little_more (suc n) m v e = let h : n ≡ m = omega arith in
    ap (λ k. (v % 256) ∷ little k (v / 256)) h

pub loop-i-preserved : goal.loop-i-preserved
loop-i-preserved c =
    let more = little_more (c.args.count - c.loop-i._i) (c.args.count - (c.loop-i._i + 1))
    c.loop-i.rest (omega arith) in
    record {
      room = omega arith;
      items = ap (λ (xs : List ℕ). xs ++ little (c.args.count - (c.loop-i._i + 1))
          (c.loop-i.rest / 256)) c.push.ensures.items
          ∙ append_assoc c.loop-i.into.items ((c.loop-i.rest % 256) ∷ []) _
          ∙ ap (λ (xs : List ℕ). c.loop-i.into.items ++ xs) (sym more) ∙ c.loop-i.invariant.items;
    }
