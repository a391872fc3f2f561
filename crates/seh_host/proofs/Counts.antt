-- What is counted of turns, one after another.
use Rattle.std.proofs.Common.{◌≡◌, ℕ, ◌+◌, ◌<◌, length, length-append, add-zero, min, refl, sym, ap, subst, ◌∙◌, arith}
use Rattle.seh_io.specs.Streams.{HasCount, last_count}
use Rattle.host_model.specs.Laws.{shown_in_turns}
use Rattle.seh_host.specs.Words.{Running, made, shown_made, after_turn, shown_of, answer_of}
use Rattle.seh_host.specs.Counts.{CountedTurns}
use Rattle.seh_host.specs.declared.host.Turn.TheVariants as turns
use Rattle.seh_host.proofs.Writing.{one_more, shown_by_one, stays}

-- before the first turn
pub none_counted : (r : Running) (n : ℕ) → HasCount (n + length (shown_made 0 r)) n
unfolding shown_in_turns
none_counted r n = ap (λ m. min m last_count) (sym (add-zero n))

module _ (count i n0 n n' : ℕ) (r0 r r' : Running) (at : r ≡ made i r0)
    (before : HasCount (n0 + length (shown_made i r0)) n) (goes : r' ≡ after_turn r)
    (shows : HasCount (n + length (shown_of r)) n') where
  -- one turn more
  pub next_counted : HasCount (n0 + length (shown_made (i + 1) r0)) n'
  next_counted =
      let more : length (shown_made (i + 1) r0) ≡ length (shown_made i r0) + length (shown_of r)
      = ap length (shown_by_one i (i + 1) r0 refl)
      ∙ length-append (shown_made i r0) (shown_of (made i r0))
      ∙ ap (λ (s : Running). length (shown_made i r0) + length (shown_of s)) (sym at) in
      omega (arith, more, before, shows)

  -- and no other is made
  pub turns_counted : i < count → CountedTurns count r0 n0 r' n'
  turns_counted lt = record {
    turns_made = i + 1;
    within = omega arith;
    host = goes ∙ ap after_turn at ∙ sym (one_more i (i + 1) r0 refl);
    counted = next_counted;
  }

  -- all that would be shown was, as the run has ended
  pub ended_counted : i < count → turns.Ended ≡ answer_of r.host
      → HasCount (n0 + length (shown_made count r0)) n'
  ended_counted lt ended =
      let e : turns.Ended ≡ answer_of (made i r0).host = ended
      ∙ ap (λ (s : Running). answer_of s.host) at in
      let far = stays i count r0 e (omega arith) in
      let near = stays i (i + 1) r0 e (omega arith) in
      subst (λ es. HasCount (n0 + length es) n') (near.1 ∙ sym far.1) next_counted

-- all turns made
pub all_made_counted : (count i n0 n : ℕ) (r0 r : Running) → i ≡ count → r ≡ made i r0
    → HasCount (n0 + length (shown_made i r0)) n
    → CountedTurns count r0 n0 r n × HasCount (n0 + length (shown_made count r0)) n
all_made_counted count i n0 n r0 r e at counted = (
  record {
    turns_made = i;
    within = omega arith;
    host = at;
    counted = counted;
  },
  subst (λ k. HasCount (n0 + length (shown_made k r0)) n) e counted,
)
