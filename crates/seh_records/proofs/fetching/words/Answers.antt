use Rattle.std.proofs.Common.{◌≡◌, ℕ, ◌+◌, ◌-◌, ◌%◌, ◌^◌, List, ◌∷◌, ◌++◌, length, take, sym, ap, ◌∙◌, arith, length-set}
use Rattle.std.proofs.lemmas.List.{append-nil, take_all}
use Rattle.seh_records.specs.Vocabulary.{words_at}
use Rattle.seh_records.proofs.Runs.{words_at-more, words_at-zero, one_more}
use Rattle.seh_records.proofs.fetching.words.Goals as goal

pub loop-i-preserved : goal.loop-i-preserved
loop-i-preserved g c =
    let m = g.S.CodeSpace.memory c.args.space.now in
    let n = length c.args.into.now in
    let i = c.loop-i.i in
    let here = c.loop-i.here in
    let next : ((c.args.at + here) % 2 ^ 64 + 8) % 2 ^ 64
    ≡ (c.args.at + (here + 8)) % 2 ^ 64 = omega arith in
    let more = words_at-more m.byte (n - i) (n - (i + 1)) ((c.args.at + here) % 2 ^ 64)
    (omega arith) ∙ ap (λ (b : ℕ). b ∷ words_at m.byte (n - (i + 1))
    (((c.args.at + here) % 2 ^ 64 + 8) % 2 ^ 64)) (sym c.word.ensures)
    ∙ ap (λ a. c.word.result ∷ words_at m.byte (n - (i + 1)) a) next in
    record {
      same = length-set c.loop-i.into i c.word.result ∙ c.loop-i.invariant.same;
      here = omega arith;
      words = one_more c.loop-i.into _ (words_at m.byte (n - (i + 1))
          ((c.args.at + (here + 8)) % 2 ^ 64)) i c.word.result (omega arith)
          (c.loop-i.invariant.words ∙ ap (λ (t : List ℕ). take i c.loop-i.into ++ t) more);
    }

pub returns : goal.returns
returns g c =
    let m = g.S.CodeSpace.memory c.args.space.now in
    let n = length c.args.into.now in
    let all : take c.loop-i.i c.loop-i.into ≡ c.loop-i.into = take_all c.loop-i.i c.loop-i.into
    (omega arith) in
    sym (c.loop-i.invariant.words ∙ ap (λ (t : List ℕ). take c.loop-i.i c.loop-i.into ++ t)
    (words_at-zero m.byte (n - c.loop-i.i) ((c.args.at + c.loop-i.here) % 2 ^ 64) (omega arith))
    ∙ append-nil (take c.loop-i.i c.loop-i.into) ∙ all)
