-- The longest comment after `/*`.
use Rattle.std.proofs.Common.{◌≡◌, ◌-◌, ℕ, Bool, true, false, ◌&&◌, cond, nat_eq, List, [], ◌∷◌}
use Rattle.std.proofs.Common.{◌++◌, length, take, drop, refl, sym, ap, subst, ◌∙◌, Option, Some}
use Rattle.std.proofs.Common.{None, arith}
use Rattle.c_lex.specs.Vocabulary.{Word, Blank, Bad, OpenComment, IsLongest, after_mark, or_else, after_end, ended, comment}

-- where a `*/` is at the front, or doesn't, two bytes decide
mark_at : (a b : ℕ) (bs r : List ℕ) → after_mark (a ∷ b ∷ bs) ≡ Some r
    → (bs ≡ r) × ((m : List ℕ) → after_mark (a ∷ b ∷ m) ≡ Some m)
mark_at a b bs r e = by (nat_eq a 42 && nat_eq b 47) refl e
  where
    by : (t : Bool) → (nat_eq a 42 && nat_eq b 47) ≡ t → cond t (Some bs) None ≡ Some r
        → (bs ≡ r) × ((m : List ℕ) → after_mark (a ∷ b ∷ m) ≡ Some m)
    by true h e = (cc, λ m. rw h refl)
    by false h e = absurd (cc)

no_mark : (a b : ℕ) (bs m : List ℕ) → after_mark (a ∷ b ∷ bs) ≡ None → after_mark (a ∷ b ∷ m) ≡ None
no_mark a b bs m e = by (nat_eq a 42 && nat_eq b 47) refl e
  where
    by : (t : Bool) → (nat_eq a 42 && nat_eq b 47) ≡ t → cond t (Some bs) None ≡ None
        → after_mark (a ∷ b ∷ m) ≡ None
    by true h e = absurd (cc)
    by false h e = rw h refl

by_mark : {C : Type 0} (o p : Option (List ℕ)) (r : List ℕ) → (o ≡ Some r → C)
    → (o ≡ None → p ≡ Some r → C) → or_else o p ≡ Some r → C
by_mark None p r f g e = g refl e
by_mark (Some x) p r f g e = f e

-- further bytes stay after the end
continues : (w m r : List ℕ) → after_end w ≡ Some r → after_end (w ++ m) ≡ Some (r ++ m)
continues [] m r e = absurd (cc)
continues (a ∷ []) m r e = absurd (cc)
continues (a ∷ (b ∷ bs)) m r e = by_mark (after_mark (a ∷ b ∷ bs)) (after_end (b ∷ bs)) r
    (λ f. let k = mark_at a b bs r f in rw (k.1 (bs ++ m)) (ap (λ l. Some (l ++ m)) k.0))
    (λ n f. rw (no_mark a b bs (bs ++ m) n) (continues (b ∷ bs) m r f)) e

record Splits (text r : List ℕ) : Type 0 where
  word : List ℕ
  split : text ≡ word ++ r
  read_whole : after_end word ≡ Some []

-- the end is found in the comment's own bytes alone
splits : (text r : List ℕ) → after_end text ≡ Some r → Splits text r
splits [] r e = absurd (cc)
splits (a ∷ []) r e = absurd (cc)
splits (a ∷ (b ∷ bs)) r e = by_mark (after_mark (a ∷ b ∷ bs)) (after_end (b ∷ bs)) r
    (λ f. let k = mark_at a b bs r f in
    record {
      word = a ∷ b ∷ [];
      split = ap (λ (l : List ℕ). a ∷ b ∷ l) k.0;
      read_whole = rw (k.1 []) refl;
    })
    (λ n f. let s = splits (b ∷ bs) r f in
    record {
      word = a ∷ s.word;
      split = ap (λ (l : List ℕ). a ∷ l) s.split;
      read_whole = later s.word n s.split s.read_whole;
    }) e
  where
    later : (w : List ℕ) → after_mark (a ∷ b ∷ bs) ≡ None → b ∷ bs ≡ w ++ r → after_end w ≡ Some []
        → after_end (a ∷ w) ≡ Some []
    later [] n p i = absurd (cc)
    later (c ∷ w) n p i =
        let h : b ≡ c = cc in
        let k = subst (λ d. after_mark (a ∷ d ∷ w) ≡ None) h (no_mark a b bs w n) in
        rw k i

pub comment_found : (text r : List ℕ) → after_end text ≡ Some r
    → (w : List ℕ) × IsLongest comment text w r Blank
comment_found text r e =
    let s = splits text r e in (
      s.word,
      record {
        split = s.split;
        is = ap ended s.read_whole;
        longest = λ m a y p q. end_of m y (sym (ap ended (continues s.word m [] s.read_whole)) ∙ q);
      },
    )
  where
    end_of : (m : List ℕ) (y : Word) → ended (Some m) ≡ Some y → m ≡ []
    end_of [] y q = refl
    end_of (b ∷ m) y q = absurd (cc)

append_nil : (l : List ℕ) → l ≡ l ++ []
append_nil [] = refl
append_nil (b ∷ l) = ap (λ (k : List ℕ). b ∷ k) (append_nil l)

pub comment_open : (text : List ℕ) → after_end text ≡ None
    → IsLongest comment text text [] (Bad OpenComment)
comment_open text e =
    record { split = append_nil text; is = ap ended e; longest = λ m a y p q. nothing m a p }
  where
    nothing : (m a : List ℕ) → [] ≡ m ++ a → m ≡ []
    nothing [] a p = refl
    nothing (b ∷ m) a p = absurd (cc)

-- nothing is left, as the code cuts it
pub at_its_end : (text : List ℕ) → take (length text - length text) (drop (length text) text) ≡ []
at_its_end text = let n : length text - length text ≡ 0 = omega arith in rw n refl
