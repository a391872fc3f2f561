-- The host's list of name thunks changes as the list of functions does: different functions have
-- different name thunks.
use Rattle.std.proofs.Common.{◌≡◌, ℕ, suc, ◌<◌, Bool, true, false, List, [], ◌∷◌, ◌++◌, length, map, refl, sym, ap, ◌∙◌, inl, inr}
use Rattle.std.specs.Prelude.{nat_eq, nat_lt, not, ◌&&◌, ◌||◌, if◌then◌else◌}
use Rattle.std.specs.List.{AllByRecursion}
use Rattle.std.proofs.lemmas.Bool.{cases_eq, eq-eqb, ne_eqb}
use Rattle.vectored_list.specs.declared.TheConstants.{MOST_HANDLERS}
use Rattle.vectored_list.specs.Lists.{is_listed, can_be_added, put_in, added, removed}

module _ (at : ℕ → ℕ) (count : ℕ)
    (apart : (f g : ℕ) → f < count → g < count → at f ≡ at g → f ≡ g) where
  -- functions of the program
  abbrev pub AreBelow : List ℕ → Type 0
  AreBelow fs = AllByRecursion (λ f. f < count) fs

  same_test : (f g : ℕ) → f < count → g < count → nat_eq (at f) (at g) ≡ nat_eq f g
  same_test f g lf lg = elim (cases_eq f g) [
    | inl e ↦ eq-eqb (at f) (at g) (ap at e) ∙ sym (eq-eqb f g e)
    | inr ne ↦ ne_eqb (at f) (at g) (λ e. ne (apart f g lf lg e)) ∙ sym (ne_eqb f g ne)
  ]

  pub listed_so : (f : ℕ) (fs : List ℕ) → f < count → AreBelow fs
      → is_listed (at f) (map at fs) ≡ is_listed f fs
  listed_so f [] lf h = refl
  listed_so f (g ∷ gs) lf h = ap (λ b. b || is_listed (at f) (map at gs)) (same_test f g lf h.0)
      ∙ ap (λ b. nat_eq f g || b) (listed_so f gs lf h.1)

  length_so : (fs : List ℕ) → length (map at fs) ≡ length fs
  length_so [] = refl
  length_so (f ∷ fs) = ap (λ n. suc n) (length_so fs)

  pub can_be_added_so : (f : ℕ) (fs : List ℕ) → f < count → AreBelow fs
      → can_be_added (at f) (map at fs) ≡ can_be_added f fs
  can_be_added_so f fs lf h =
      ap (λ b. not b && nat_lt (length (map at fs)) MOST_HANDLERS) (listed_so f fs lf h)
      ∙ ap (λ n. not (is_listed f fs) && nat_lt n MOST_HANDLERS) (length_so fs)

  append_so : (fs : List ℕ) (f : ℕ) → map at fs ++ at f ∷ [] ≡ map at (fs ++ f ∷ [])
  append_so [] f = refl
  append_so (g ∷ gs) f = ap (λ xs. at g ∷ xs) (append_so gs f)

  put_so : (first : Bool) (f : ℕ) (fs : List ℕ)
      → put_in first (at f) (map at fs) ≡ map at (put_in first f fs)
  put_so true f fs = refl
  put_so false f fs = append_so fs f

  pub added_so : (first : Bool) (f : ℕ) (fs : List ℕ) → f < count → AreBelow fs
      → added first (at f) (map at fs) ≡ map at (added first f fs)
  added_so first f fs lf h =
      ap (λ b. if b then put_in first (at f) (map at fs) else map at fs)
      (can_be_added_so f fs lf h) ∙ by (can_be_added f fs)
    where
      by : (b : Bool) → (if b then put_in first (at f) (map at fs) else map at fs)
          ≡ map at (if b then put_in first f fs else fs)
      by true = put_so first f fs
      by false = refl

  pub removed_so : (f : ℕ) (fs : List ℕ) → f < count → AreBelow fs
      → removed (at f) (map at fs) ≡ map at (removed f fs)
  removed_so f [] lf h = refl
  removed_so f (g ∷ gs) lf h =
      ap (λ b. if b then map at gs else at g ∷ removed (at f) (map at gs))
      (same_test f g lf h.0) ∙ by (nat_eq f g) (removed_so f gs lf h.1)
    where
      by : (b : Bool) → removed (at f) (map at gs) ≡ map at (removed f gs)
          → (if b then map at gs else at g ∷ removed (at f) (map at gs))
          ≡ map at (if b then gs else g ∷ removed f gs)
      by true e = refl
      by false e = ap (λ xs. at g ∷ xs) e
