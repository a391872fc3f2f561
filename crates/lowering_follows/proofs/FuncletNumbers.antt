-- The funclets of statements are at their numbers.
use Rattle.std.proofs.Common.{◌≡◌, ℕ, ◌+◌, List, [], ◌∷◌, ◌++◌, length, refl, ap, subst, ◌∙◌, arith}
use Rattle.std.proofs.lemmas.Bool.{eqb-true}
use Rattle.std.specs.Prelude.{Bool, true, ◌&&◌}
use Rattle.lowering_follows.specs.Words.{count_up}
use Rattle.lowering_follows.proofs.SoundExpressions.{both_left, both_right}

-- ---- counting

pub count_front : (n : ℕ) (ks js : List ℕ) → count_up n (ks ++ js) ≡ true → count_up n ks ≡ true
count_front n [] js h = refl
count_front n (k ∷ ks) js h = both_hold _ _ (both_left _ _ h)
    (count_front (n + 1) ks js (both_right _ _ h))
  where
    both_hold : (a b : Bool) → a ≡ true → b ≡ true → (a && b) ≡ true
    both_hold a b p q = ap (λ x. x && b) p ∙ q

pub count_back : (n m : ℕ) (ks js : List ℕ) → n + length ks ≡ m → count_up n (ks ++ js) ≡ true
    → count_up m js ≡ true
count_back n m [] js e h = subst (λ k. count_up k js ≡ true) (omega arith) h
count_back n m (k ∷ ks) js e h = count_back (n + 1) m ks js (omega arith) (both_right _ _ h)

-- the number at the head of a count
pub counted : (n k : ℕ) (ks : List ℕ) → count_up n (k ∷ ks) ≡ true → k ≡ n
counted n k ks h = eqb-true k n (both_left _ _ h)
