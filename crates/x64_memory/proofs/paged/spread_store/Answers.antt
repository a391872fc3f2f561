use Rattle.std.proofs.Common.{◌≡◌, ◌-◌, ◌+◌, ◌/◌, ◌%◌, ◌≤◌, ◌^◌, ℕ, sym, ap, ◌∙◌, refl, arith}
use Rattle.x64_memory.specs.Words.{Memory, with_bytes, may_write, next, first_refused, with_number, with_byte, Protection, is_writable}
use Rattle.x64_memory.proofs.Lemmas.{with_number-more, with_number-zero}
use Rattle.x64_memory.proofs.Steps.{first_refused-more, may_first}
use Rattle.x64_memory.proofs.paged.spread_store.Goals as goal

one : (byte : ℕ → ℕ) (at v : ℕ) → at ≤ 2 ^ 64 - 1
    → with_number byte 1 at v ≡ with_byte byte at (v % 256)
one byte at v lt = sym (with_number-more byte 1 0 at v (omega arith) (omega arith) (omega arith))
    ∙ with_number-zero (with_byte byte at (v % 256)) 0 (next at) (v / 256) refl

pub put-requires-clause-may : goal.put-requires-clause-may
put-requires-clause-may g c = may_first _ (c.args.count - c.loop-i._i) c.loop-i.here (omega arith)
    c.loop-i.invariant.may

pub loop-i-preserved : goal.loop-i-preserved
loop-i-preserved g c =
    let m = g.P.ReadPages.memory c.loop-i.space in
    let new = g.P.ReadPages.memory c.put.new.self in
    let after = with_bytes m (with_number m.byte 1 c.loop-i.here c.loop-i.rest) in
    let modes : new.protection ≡ m.protection = ap (λ (x : Memory). x.protection) {y = after}
    c.put.ensures in
    let bytes : new.byte ≡ with_byte m.byte c.loop-i.here (c.loop-i.rest % 256) = ap
    (λ (x : Memory). x.byte) {y = after} c.put.ensures
    ∙ one m.byte c.loop-i.here c.loop-i.rest (omega arith) in
    let yes = may_first (may_write m) (c.args.count - c.loop-i._i) c.loop-i.here (omega arith)
    c.loop-i.invariant.may in
    let left = c.args.count - (c.loop-i._i + 1) in
    record {
      modes = modes ∙ c.loop-i.invariant.modes;
      may = ap (λ (f : ℕ → Protection). first_refused (λ a. is_writable (f a).rights) left
          (next c.loop-i.here)) modes ∙ first_refused-more (may_write m)
          (c.args.count - c.loop-i._i)
          left c.loop-i.here (omega arith) yes ∙ c.loop-i.invariant.may;
      bytes = ap (λ f. with_number f left (next c.loop-i.here) (c.loop-i.rest / 256)) bytes
          ∙ with_number-more m.byte (c.args.count - c.loop-i._i) left c.loop-i.here c.loop-i.rest
          (omega arith) (omega arith) (omega arith) ∙ c.loop-i.invariant.bytes;
    }

pub returns : goal.returns
returns g c =
    let m = g.P.ReadPages.memory c.loop-i.space in
    let old = g.P.ReadPages.memory c.args.space.now in
    let b : m.byte ≡ with_number old.byte c.args.count c.args.at c.args.value = sym
    (with_number-zero m.byte (c.args.count - c.loop-i._i) c.loop-i.here c.loop-i.rest
    (omega arith)) ∙ c.loop-i.invariant.bytes in
    λ i. record { protection = c.loop-i.invariant.modes i; byte = b i }
