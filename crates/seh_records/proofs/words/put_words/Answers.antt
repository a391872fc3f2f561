use Rattle.std.proofs.Common.{◌≡◌, ℕ, ◌+◌, ◌-◌, ◌*◌, ◌%◌, ◌^◌, length, drop, get_or, sym, ap, ◌∙◌, arith}
use Rattle.seh_records.specs.Vocabulary.{Protection, is_writable, Memory, may_write, first_refused, with_number, with_words}
use Rattle.seh_records.proofs.Runs.{none_front, none_rest, with_words-more, with_words-none, word_stored}
use Rattle.seh_records.proofs.words.put_words.Goals as goal

pub loop-word-preserved : goal.loop-word-preserved
loop-word-preserved g c =
    let m = g.S.CodeSpace.memory c.loop-word.space in
    let new = g.S.CodeSpace.memory c.store.new.self in
    let i = c.loop-word.word-index in
    let here = c.loop-word.here in
    let left = length c.args.words.now - (i + 1) in
    let free = none_front (may_write m) (8 * (length c.args.words.now - i)) 8 (8 * left) here
    (omega arith) (omega arith) c.loop-word.invariant.may in
    let stored = word_stored m new here (get_or c.args.words.now i 0) c.store.ensures.after free in
    let modes : new.protection ≡ m.protection = ap (λ (x : Memory). x.protection) stored in
    let bytes : new.byte ≡ with_number m.byte 8 here (get_or c.args.words.now i 0) = ap
    (λ (x : Memory). x.byte) stored in
    record {
      modes = modes ∙ c.loop-word.invariant.modes;
      may = ap (λ (f : ℕ → Protection). first_refused (λ a. is_writable (f a).rights) (8 * left)
          ((here + 8) % 2 ^ 64)) modes ∙ none_rest (may_write m)
          (8 * (length c.args.words.now - i)) 8
          (8 * left) here (omega arith) (omega arith) c.loop-word.invariant.may;
      bytes = ap (λ f. with_words f ((here + 8) % 2 ^ 64) (drop (i + 1) c.args.words.now)) bytes
          ∙ with_words-more m.byte here i c.args.words.now (omega arith)
          ∙ c.loop-word.invariant.bytes;
    }

pub returns : goal.returns
returns g c =
    let m = g.S.CodeSpace.memory c.loop-word.space in
    let old = g.S.CodeSpace.memory c.args.space.now in
    let b : m.byte ≡ with_words old.byte c.args.at c.args.words.now = sym
    (with_words-none m.byte c.loop-word.here c.loop-word.word-index c.args.words.now
    (omega arith)) ∙ c.loop-word.invariant.bytes in
    λ i. record { protection = c.loop-word.invariant.modes i; byte = b i }
