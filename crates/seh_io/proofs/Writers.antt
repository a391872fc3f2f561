-- What a writer did with one text.
use Rattle.std.proofs.Common.{◌≡◌, ℕ, ◌+◌, ◌≤◌, List, [], ◌++◌, take, drop, length, arith, refl, sym, ap, add-zero, min, subst, true, false}
use Rattle.std.specs.Prelude.{Option, Result, Ok, Err, MatchResult, OnOk, IfErr}
use Rattle.std.proofs.lemmas.List.{length-take-le, take-append-drop}
use Rattle.seh_io.specs.Streams.{Faults, Grew, Faultless, Faulted, last_count}
use Rattle.seh_io.specs.Writer.{Writer, writer, Wrote, TookPart}
use Rattle.seh_io.specs.declared.writing.WriteFault.{WriteFault}
use Rattle.seh_io.proofs.Moves.{grew_nothing}
use Rattle.seh_io.specs.Successive.{not_both, wrote_more}

-- one that has failed writes nothing
pub wrote_nothing : (w : Writer) (text : List ℕ) → w.failed ≡ true → Wrote w text w
wrote_nothing w text was = record {
  part = [];
  begins = (text, refl);
  grew = grew_nothing w.taken;
  whole = λ is. not_both w.failed was is;
  nothing = λ _. (refl, was, refl);
  cause = λ is _. not_both w.failed was is;
  faultless = λ _. refl;
  counted = ap (λ n. min n last_count) (sym (add-zero w.count));
}

-- one whose write fails has taken a part
pub wrote_part : (count count' : ℕ) (taken taken' : Option (List ℕ)) (faults faults' : Faults)
    (text : List ℕ) (k : ℕ) → k ≤ length text → Grew taken (take k text) taken'
    → Faulted faults faults' → count' ≡ min (count + k) last_count
    → Wrote (writer false count taken faults) text (writer true count' taken' faults')
wrote_part count count' taken taken' faults faults' text k within grew last counted =
    record {
      part = take k text;
      begins = (drop k text, sym (take-append-drop k text));
      grew = grew;
      whole = λ is. not_both true refl is;
      nothing = λ is. not_both false is refl;
      cause = λ _ _. last;
      faultless = λ is. not_both true refl is;
      counted = omega (arith, length-take-le k text within);
    }

-- ---- a run: a fresh writer is given the lines, then the end's line

module _ (x y z : Writer) (t u : List ℕ) (p : Wrote x t y) (q : Wrote y u z) where
  pub ran_whole : z.failed ≡ false → Grew x.taken (t ++ u) z.taken
  ran_whole is =
      let whole = wrote_more x y z t u p q in
      subst (λ s. Grew x.taken s z.taken) (whole.whole is) whole.grew

  pub ran_part : (count : ℕ) → x.count ≡ 0 → count ≡ z.count
      → TookPart x.taken (t ++ u) z.taken count
  ran_part count fresh e =
      let whole = wrote_more x y z t u p q in
      record {
        part = whole.part;
        begins = whole.begins;
        grew = whole.grew;
        counted = let counted = whole.counted in omega arith;
      }

pub on_ok : (r : Result (Unit {0}) WriteFault) (P : Type 0) (Q : WriteFault → Type 0) (R : Type 0)
    → MatchResult r (λ _. P) Q → (P → R) → OnOk r R
on_ok (Ok _) P Q R h then = then h
on_ok (Err e) P Q R h then = tt

pub on_err : (r : Result (Unit {0}) WriteFault) (P : Type 0) (Q : WriteFault → Type 0)
    (R : WriteFault → Type 0) → MatchResult r (λ _. P) Q → ((e : WriteFault) → Q e → R e)
    → IfErr r R
on_err (Ok _) P Q R h then = tt
on_err (Err e) P Q R h then = then e h

pub same_grew : (a a' b b' : Option (List ℕ)) (s s' : List ℕ) → a ≡ a' → s ≡ s' → b ≡ b'
    → Grew a s b → Grew a' s' b'
same_grew a a' b b' s s' e f k h = subst (λ c. Grew c s' b') e
    (subst (λ c. Grew a c b') f (subst (λ c. Grew a s c) k h))

pub same_part : (a a' b b' : Option (List ℕ)) (s s' : List ℕ) (n : ℕ) → a ≡ a' → s ≡ s' → b ≡ b'
    → TookPart a s b n → TookPart a' s' b' n
same_part a a' b b' s s' n e f k h = subst (λ c. TookPart c s' b' n) e
    (subst (λ c. TookPart a c b' n) f (subst (λ c. TookPart a s c n) k h))
