use Rattle.std.proofs.Common.{◌≡◌, ℕ, ◌+◌, ◌*◌, ◌%◌, ◌^◌, List, length, ap, ◌∙◌, arith}
use Rattle.seh_records.specs.Vocabulary.{first_refused, may_write, with_bytes, with_words, placed}
use Rattle.seh_records.specs.Record as spec
use Rattle.seh_records.proofs.Places.{writable_words, no_wrap}
use Rattle.seh_records.proofs.Block.{one_block}
use Rattle.seh_records.proofs.placing.put_record.Goals as goal

pub put_words-requires : goal.put_words-requires
put_words-requires g c =
    let n : length c.deref.result.now ≡ 192 = omega
    (arith, ap length c.deref.ensures.0, c.words_of.ensures.len) in
    ap (λ n. first_refused (may_write (g.S.CodeSpace.memory c.args.space.now)) (8 * n)
    ((c.args.at + 32) % 2 ^ 64)) n ∙ writable_words (g.S.CodeSpace.memory c.args.space.now)
    c.args.at (omega arith) c.requires

pub returns : goal.returns
unfolding placed
returns g c =
    let m = g.S.CodeSpace.memory c.args.space.now in
    let e : c.deref.result.now ≡ spec.words c.args.at c.args.dispatch.now = cc in
    let n : 192 ≡ length (spec.words c.args.at c.args.dispatch.now) = omega
    (arith, ap length c.words_of.ensures.value, c.words_of.ensures.len) in
    c.put_words.ensures
    ∙ ap (λ (ws : List ℕ). with_bytes m (with_words m.byte ((c.args.at + 32) % 2 ^ 64) ws)) e
    ∙ ap (λ (b : ℕ → ℕ). with_bytes m b) (one_block m.byte
    (spec.words c.args.at c.args.dispatch.now) ((c.args.at + 32) % 2 ^ 64) 192 n
    (no_wrap m c.args.at (omega arith) c.requires))
