-- How the longest word at the front of a text grows byte by byte.
use Rattle.std.proofs.Common.{◌≡◌, ◌≤◌, ◌<◌, ◌⊎◌, inl, inr, ℕ, suc, Bool, List, [], ◌∷◌, ◌++◌}
use Rattle.std.proofs.Common.{length, refl, sym, ap, subst, ◌∙◌, arith, Option, Some, None}
use Rattle.std.proofs.Common.{length-append, append_assoc}
use Rattle.std.proofs.Math.Nat.{eq-or-lt_of_le}
use Rattle.c_lex.specs.Vocabulary.{IsLongest, each, more, span, one, two, three, either}
use Rattle.c_lex.proofs.Fronts.{by_test}

-- the text is at its end
pub at_end : {A : Type 0} (of : List ℕ → Option A) (x : A) → of [] ≡ Some x
    → IsLongest of [] [] [] x
at_end of x e = record { split = refl; is = e; longest = λ m a y p q. nothing m a p }
  where
    nothing : (m a : List ℕ) → [] ≡ m ++ a → m ≡ []
    nothing [] a p = refl
    nothing (b ∷ m) a p = absurd (cc)

-- no word continues with the next byte
pub stops : {A : Type 0} (of : List ℕ → Option A) (b : ℕ) (bs : List ℕ) (x : A) → of [] ≡ Some x
    → ((v a : List ℕ) → bs ≡ v ++ a → of (b ∷ v) ≡ None) → IsLongest of (b ∷ bs) [] (b ∷ bs) x
stops {A = A} of b bs x e none = record { split = refl; is = e; longest = go }
  where
    go : (m a : List ℕ) (y : A) → b ∷ bs ≡ m ++ a → of m ≡ Some y → m ≡ []
    go [] a y p q = refl
    go (c ∷ m) a y p q = let h : b ≡ c = cc in let n = none m a cc in let q' =
        subst (λ (k : ℕ). of (k ∷ m) ≡ Some y) (sym h) q in absurd (cc)

-- words continue with the next byte as words of another kind begin
pub takes : {A : Type 0} (of u : List ℕ → Option A) (b : ℕ) (bs w r : List ℕ) (x : A)
    → ((v a : List ℕ) → bs ≡ v ++ a → of (b ∷ v) ≡ u v) → IsLongest u bs w r x
    → IsLongest of (b ∷ bs) (b ∷ w) r x
takes of u b bs w r x e k = record {
  split = ap (λ (l : List ℕ). b ∷ l) k.split;
  is = e w r k.split ∙ k.is;
  longest = λ m a y p q. k.longest m a y p
      (sym (e (w ++ m) a (k.split ∙ ap (λ (l : List ℕ). w ++ l) p ∙ sym (append_assoc w m a))) ∙ q);
}

-- two kinds have the same words at the front of a text
pub same : {A : Type 0} (of u : List ℕ → Option A) (text w r : List ℕ) (x : A)
    → ((v a : List ℕ) → text ≡ v ++ a → of v ≡ u v) → IsLongest u text w r x
    → IsLongest of text w r x
same of u text w r x e k = record {
  split = k.split;
  is = e w r k.split ∙ k.is;
  longest = λ m a y p q. k.longest m a y p
      (sym (e (w ++ m) a (k.split ∙ ap (λ (l : List ℕ). w ++ l) p ∙ sym (append_assoc w m a))) ∙ q);
}

-- bytes that all pass a test
pub each_takes : {A : Type 0} (p : ℕ → Bool) (f : List ℕ → A) (text : List ℕ)
    → IsLongest (each p f) text (span p text).0 (span p text).1 (f (span p text).0)
each_takes p f [] = at_end (each p f) (f []) refl
each_takes p f (b ∷ bs) =
    by_test (λ (r : List ℕ × List ℕ). IsLongest (each p f) (b ∷ bs) r.0 r.1 (f r.0)) (p b)
    (more b (span p bs)) ([], b ∷ bs)
    (λ e. takes (each p f) (each p (λ v. f (b ∷ v))) b bs (span p bs).0 (span p bs).1
    (f (b ∷ (span p bs).0)) (λ v a q. rw e refl) (each_takes p (λ v. f (b ∷ v)) bs))
    (λ e. stops (each p f) b bs (f []) refl (λ v a q. rw e refl))

-- ---- words of at most three bytes

-- no front of the text with more bytes is one
pub record Within {A : Type 0} (of : List ℕ → Option A) (text : List ℕ) (k : ℕ) : Type 0 where
  pub within : (m a : List ℕ) (y : A) → text ≡ m ++ a → of m ≡ Some y → length m ≤ k

same_front : (m a w r : List ℕ) → m ++ a ≡ w ++ r → length m ≡ length w → m ≡ w
same_front [] a [] r e n = refl
same_front [] a (c ∷ w) r e n = absurd (omega arith)
same_front (b ∷ m) a [] r e n = absurd (omega arith)
same_front (b ∷ m) a (c ∷ w) r e n = let h : b ≡ c = cc in let k : m ++ a ≡ w ++ r = cc in
    let l : length m ≡ length w = omega arith in let t = same_front m a w r k l in cc

none_left : (m : List ℕ) → length m ≤ 0 → m ≡ []
none_left [] h = refl
none_left (b ∷ m) h = absurd (omega arith)

ends_at : {A : Type 0} (of : List ℕ → Option A) (text w r : List ℕ) (x : A) → text ≡ w ++ r
    → of w ≡ Some x → Within of text (length w) → IsLongest of text w r x
ends_at of text w r x e i k = record {
  split = e;
  is = i;
  longest = λ m a y p q. let h =
      k.within (w ++ m) a y (e ∙ ap (λ (l : List ℕ). w ++ l) p ∙ sym (append_assoc w m a)) q in
      none_left m (omega (arith, length-append w m));
}

shrinks : {A : Type 0} (of : List ℕ → Option A) (text w r : List ℕ) (k : ℕ) → text ≡ w ++ r
    → of w ≡ None → length w ≡ suc k → Within of text (suc k) → Within of text k
shrinks {A = A} of text w r k e n l h =
    record { within = λ m a y p q. below m a y p q (eq-or-lt_of_le (h.within m a y p q)) }
  where
    below : (m a : List ℕ) (y : A) → text ≡ m ++ a → of m ≡ Some y
        → (length m ≡ suc k) ⊎ (length m < suc k) → length m ≤ k
    below m a y p q (inl s) = let same = same_front m a w r (sym p ∙ e) (s ∙ sym l) in let q' =
        subst (λ (v : List ℕ). of v ≡ Some y) same q in absurd (cc)
    below m a y p q (inr s) = omega arith

short : {A : Type 0} (of : List ℕ → Option A) (text : List ℕ) (k : ℕ) → length text ≤ k
    → Within of text k
short of text k h = record { within = λ m a y p q. omega (arith, ap length p, length-append m a) }

by_option : {A B : Type 0} (P : A × B → Type 0) (o : Option A) (r : B) (d : A × B) (f : Option A → B
    → A × B → A × B) → (f None r d ≡ d) → ((x : A) → f (Some x) r d ≡ (x, r))
    → ((x : A) → o ≡ Some x → P (x, r)) → (o ≡ None → P d) → P (f o r d)
by_option P None r d f e g s n = subst P (sym e) (n refl)
by_option P (Some x) r d f e g s n = subst P (sym (g x)) (s x refl)

abbrev Found : {A : Type 0} → (List ℕ → Option A) → List ℕ → A × List ℕ → Type 0
Found of text r = (w : List ℕ) × IsLongest of text w r.1 r.0

pub one_takes : {A : Type 0} (of : List ℕ → Option A) (x : A) (text : List ℕ) → of [] ≡ Some x
    → Within of text 1 → Found of text (one of x text)
one_takes of x [] e k = ([], at_end of x e)
one_takes of x (a ∷ r) e k = by_option (Found of (a ∷ r)) (of (a ∷ [])) r (x, a ∷ r) either refl
    (λ y. refl)
    (λ y s. (a ∷ [], ends_at of (a ∷ r) (a ∷ []) r y refl s k))
    (λ n. (
      [],
      ends_at of (a ∷ r) [] (a ∷ r) x refl e
          (shrinks of (a ∷ r) (a ∷ []) r 0 refl n refl k),
    ))

pub two_takes : {A : Type 0} (of : List ℕ → Option A) (x : A) (text : List ℕ) → of [] ≡ Some x
    → Within of text 2 → Found of text (two of x text)
two_takes of x [] e k = one_takes of x [] e (short of [] 1 (omega arith))
two_takes of x (a ∷ []) e k = one_takes of x (a ∷ []) e (short of (a ∷ []) 1 (omega arith))
two_takes of x (a ∷ (b ∷ r)) e k = by_option (Found of (a ∷ b ∷ r)) (of (a ∷ b ∷ [])) r
    (one of x (a ∷ b ∷ r)) either refl (λ y. refl)
    (λ y s. (a ∷ b ∷ [], ends_at of (a ∷ b ∷ r) (a ∷ b ∷ []) r y refl s k))
    (λ n. one_takes of x (a ∷ b ∷ r) e (shrinks of (a ∷ b ∷ r) (a ∷ b ∷ []) r 1 refl n refl k))

pub three_takes : {A : Type 0} (of : List ℕ → Option A) (x : A) (text : List ℕ) → of [] ≡ Some x
    → Within of text 3 → Found of text (three of x text)
three_takes of x [] e k = two_takes of x [] e (short of [] 2 (omega arith))
three_takes of x (a ∷ []) e k = two_takes of x (a ∷ []) e (short of (a ∷ []) 2 (omega arith))
three_takes of x (a ∷ (b ∷ [])) e k =
    two_takes of x (a ∷ b ∷ []) e (short of (a ∷ b ∷ []) 2 (omega arith))
three_takes of x (a ∷ (b ∷ (c ∷ r))) e k =
    by_option (Found of (a ∷ b ∷ c ∷ r)) (of (a ∷ b ∷ c ∷ [])) r (two of x (a ∷ b ∷ c ∷ r)) either
    refl (λ y. refl)
    (λ y s. (a ∷ b ∷ c ∷ [], ends_at of (a ∷ b ∷ c ∷ r) (a ∷ b ∷ c ∷ []) r y refl s k))
    (λ n. two_takes of x (a ∷ b ∷ c ∷ r) e
    (shrinks of (a ∷ b ∷ c ∷ r) (a ∷ b ∷ c ∷ []) r 2 refl n refl k))
