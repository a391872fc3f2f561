-- The store with other numbers in the locals of one activation.
use Rattle.std.proofs.Common.{◌≡◌, ℕ, zero, suc, ◌<◌, Some, List, [], ◌∷◌, ◌++◌, length, refl, sym, ap, subst, ◌∙◌, arith, inl, inr}
use Rattle.std.specs.Prelude.{slice_get, slice_set}
use Rattle.std.proofs.lemmas.Bool.{cases_eq}
use Rattle.match_bodies.specs.Words.{Activation, locals_of, with_values}
use Rattle.match_bodies.proofs.Places.ActivationPlaces.{locals_count}
use Rattle.match_bodies.proofs.Keeping.ActivationKeeping.{first_changes, later_changes}

set_before : {A : Type 0} → (xs ys : List A) (k : ℕ) (x : A) → k < length xs
    → slice_set (xs ++ ys) k x ≡ slice_set xs k x ++ ys
set_before [] ys k x lt = absurd (omega arith)
set_before (y ∷ xs) ys zero x lt = refl
set_before (y ∷ xs) ys (suc k) x lt = ap (λ zs. y ∷ zs) (set_before xs ys k x (omega arith))

set_last : {A : Type 0} → (xs : List A) (y x : A)
    → slice_set (xs ++ y ∷ []) (length xs) x ≡ xs ++ x ∷ []
set_last [] y x = refl
set_last (z ∷ xs) y x = ap (λ zs. z ∷ zs) (set_last xs y x)

set_same : {A : Type 0} → (xs : List A) (k : ℕ) (x : A) → slice_get xs k ≡ Some x
    → slice_set xs k x ≡ xs
set_same [] k x e = cc
set_same (y ∷ xs) zero x e = cc
set_same (y ∷ xs) (suc k) x e = ap (λ zs. y ∷ zs) (set_same xs k x e)

-- by its number
pub activated : (acts : List Activation) (k : ℕ) (values : List ℕ) → k < length acts
    → locals_of (with_values acts k values) ≡ slice_set (locals_of acts) k values
activated [] k values lt = absurd (omega arith)
activated (a ∷ outer) k values lt = elim (cases_eq k (length outer)) [
  | inl e ↦
      (let n : length (locals_of outer) ≡ k = locals_count outer ∙ sym e in
      ap locals_of (first_changes a outer k values e)
      ∙ sym (subst (λ j. slice_set (locals_of outer ++ a.values ∷ []) j values
      ≡ locals_of outer ++ values ∷ []) n (set_last (locals_of outer) a.values values)))
  | inr e ↦
      (let small : k < length outer = omega arith in
      let n = locals_count outer in
      ap locals_of (later_changes a outer k values small)
      ∙ ap (λ xs. xs ++ a.values ∷ []) (activated outer k values small)
      ∙ sym (set_before (locals_of outer) (a.values ∷ []) k values (omega arith)))
]

-- with the same numbers
pub same_activations : (acts : List Activation) (k : ℕ) (values : List ℕ) → k < length acts
    → slice_get (locals_of acts) k ≡ Some values
    → locals_of (with_values acts k values) ≡ locals_of acts
same_activations acts k values lt e = activated acts k values lt
    ∙ set_same (locals_of acts) k values e
