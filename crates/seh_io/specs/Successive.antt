-- What a writer or a list did with one text or event and then with another. These are lemmas: the
-- impls of `Events` give them as ghost members, which can cite nothing but specs.
use Rattle.std.proofs.Common.{◌≡◌, ℕ, Bool, true, false, List, [], ◌∷◌, ◌++◌, min, arith, refl, sym, ap, ◌∙◌, append_assoc, append-nil, add-zero, length-append, inl, inr, subst}
use Rattle.std.specs.Prelude.{Option, Some}
use Rattle.std.proofs.lemmas.Bool.{cases_Bool, true≢false}
use Rattle.seh_num.specs.declared.event.Event.{Event}
use Rattle.seh_io.specs.declared.receiver.Lines.{Lines}
use Rattle.seh_io.specs.Streams.{Faults, Grew, Faultless, Faulted, next_count, last_count, faults_of}
use Rattle.seh_io.specs.Text.{line, lines}
use Rattle.seh_io.specs.Writer.{Writer, writer_of, Wrote, TookEvents, Kept}

-- what was taken in two pieces
pub grew_more : (a b c : Option (List ℕ)) (xs ys : List ℕ) → Grew a xs b → Grew b ys c
    → Grew a (xs ++ ys) c
grew_more a b c xs ys p q before known =
    q (before ++ xs) (p before known) ∙ ap Some (append_assoc before xs ys)

-- a condition isn't true and false
pub not_both : (b : Bool) {A : Type 0} → b ≡ true → b ≡ false → A
not_both b p q = absurd (true≢false (sym p ∙ q))

-- a fault after calls without one
pub faulted_later : (f g h : Faults) → Faultless f g → Faulted g h → Faulted f h
faulted_later f g h same last = last ∙ ap (λ n. faults_of (next_count n) true) same

-- no text changes nothing
pub wrote_none : (w : Writer) → Wrote w [] w
wrote_none w = record {
  part = [];
  begins = ([], refl);
  grew = λ before known. known ∙ ap Some (sym (append-nil before));
  whole = λ _. refl;
  nothing = λ was. (refl, was, refl);
  cause = λ is was. not_both w.failed was is;
  faultless = λ _. refl;
  counted = ap (λ n. min n last_count) (sym (add-zero w.count));
}

module _ (x y z : Writer) (t u : List ℕ) (p : Wrote x t y) (q : Wrote y u z) where
  -- where the first text was written whole
  after_whole : y.failed ≡ false → Wrote x (t ++ u) z
  after_whole is = record {
    part = p.part ++ q.part;
    begins = (
      q.begins.0,
      ap (λ s. s ++ u) (sym (p.whole is)) ∙ ap (λ s. p.part ++ s) q.begins.1
          ∙ sym (append_assoc p.part q.part q.begins.0),
    );
    grew = grew_more x.taken y.taken z.taken p.part q.part p.grew q.grew;
    whole = λ done. ap (λ s. s ++ q.part) (p.whole is) ∙ ap (λ s. t ++ s) (q.whole done);
    nothing = λ was. not_both y.failed ((p.nothing was).1) is;
    cause = λ _ was. faulted_later x.faults y.faults z.faults (p.faultless is) (q.cause is was);
    faultless = λ done. q.faultless done ∙ p.faultless is;
    counted = omega (arith, p.counted, q.counted, length-append p.part q.part);
  }

  -- where it wasn't, so that nothing of the second was
  after_part : y.failed ≡ true → Wrote x (t ++ u) z
  after_part was =
      let none : q.part ≡ [] = (q.nothing was).0 in
      let same : p.part ++ q.part ≡ p.part = ap (λ s. p.part ++ s) none ∙ append-nil p.part in
      record {
        part = p.part ++ q.part;
        begins = (
          p.begins.0 ++ u,
          ap (λ s. s ++ u) p.begins.1 ∙ append_assoc p.part p.begins.0 u
              ∙ ap (λ s. s ++ (p.begins.0 ++ u)) (sym same),
        );
        grew = grew_more x.taken y.taken z.taken p.part q.part p.grew q.grew;
        whole = λ done. not_both z.failed ((q.nothing was).1) done;
        nothing = λ before. (
          same ∙ (p.nothing before).0,
          (q.nothing was).1,
          (q.nothing was).2 ∙ (p.nothing before).2,
        );
        cause = λ is _. (q.nothing was).2 ∙ p.cause is was;
        faultless = λ done. not_both z.failed ((q.nothing was).1) done;
        counted = omega (arith, p.counted, q.counted, length-append p.part q.part);
      }

  -- a text and then another are both together
  pub wrote_more : Wrote x (t ++ u) z
  wrote_more = elim (cases_Bool y.failed) [ inl was ↦ after_part was | inr is ↦ after_whole is ]

-- the lines of some events and of more are those of all
pub lines_append : (trace : Bool) (es fs : List Event) (names : ℕ → Option (List ℕ))
    → lines trace (es ++ fs) names ≡ lines trace es names ++ lines trace fs names
lines_append trace [] fs names = refl
lines_append trace (e ∷ es) fs names =
    ap (λ t. line trace e names ++ t) (lines_append trace es fs names)
    ∙ sym (append_assoc (line trace e names) (lines trace es names) (lines trace fs names))

-- no event changes nothing
pub took_none : {X N : Type 0} (taken : X → Option (List ℕ)) (faults : X → Faults)
    (named : N → ℕ → Option (List ℕ)) (x : Lines X N) → TookEvents taken faults named x [] x
took_none taken faults named x =
    record {
      wrote = wrote_none (writer_of taken faults x);
      trace = refl;
      names = refl;
      same_reference = refl;
    }

-- events and then more are all of them
pub took_more : {X N : Type 0} (taken : X → Option (List ℕ)) (faults : X → Faults)
    (named : N → ℕ → Option (List ℕ)) (x y z : Lines X N) (es fs : List Event)
    → TookEvents taken faults named x es y → TookEvents taken faults named y fs z
    → TookEvents taken faults named x (es ++ fs) z
took_more taken faults named x y z es fs p q =
    let x' = writer_of taken faults x in
    let y' = writer_of taken faults y in
    let z' = writer_of taken faults z in
    let names = named x.names.now in
    let same : lines y.trace fs (named y.names.now) ≡ lines x.trace fs names =
    λ i. lines (p.trace i) fs (named (p.names i)) in
    let q' = subst (λ t. Wrote y' t z') same q.wrote in
    record {
      wrote = subst (λ t. Wrote x' t z') (sym (lines_append x.trace es fs names))
          (wrote_more x' y' z' (lines x.trace es names) (lines x.trace fs names) p.wrote q');
      trace = q.trace ∙ p.trace;
      names = q.names ∙ p.names;
      same_reference = q.same_reference ∙ p.same_reference;
    }

-- the same of a list
pub kept_none : (lacks : Bool) (kept : List Event) → Kept lacks kept [] lacks kept
kept_none lacks kept is = (is, sym (append-nil kept))

pub kept_more : (a b c : Bool) (xs ys zs es fs : List Event) → Kept a xs es b ys → Kept b ys fs c zs
    → Kept a xs (es ++ fs) c zs
kept_more a b c xs ys zs es fs p q is =
    let second = q is in
    let first = p second.0 in
    (first.0, second.1 ∙ ap (λ t. t ++ fs) first.1 ∙ append_assoc xs es fs)
