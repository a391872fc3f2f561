-- Elements of a list that are one after another from a place on.
use Rattle.std.proofs.Common.{◌≡◌, ℕ, ◌+◌, List, [], ◌∷◌, ◌++◌, length, refl, sym, ap, subst, ◌∙◌, arith, append_assoc, length-append}
use Rattle.std.specs.Prelude.{slice_get, Some}

abbrev pub IsSegmentAt : {X : Type 0} → List X → ℕ → List X → Type 0
IsSegmentAt xs at [] = Unit {0}
IsSegmentAt xs at (y ∷ ys) = (slice_get xs at ≡ Some y) × IsSegmentAt xs (at + 1) ys

module _ {X : Type 0} (xs : List X) where
  pub moved : (at to : ℕ) (ys : List X) → at ≡ to → IsSegmentAt xs at ys → IsSegmentAt xs to ys
  moved at to ys e h = subst (λ k. IsSegmentAt xs k ys) e h

  pub front : (at : ℕ) (ys zs : List X) → IsSegmentAt xs at (ys ++ zs) → IsSegmentAt xs at ys
  front at [] zs h = tt
  front at (y ∷ ys) zs h = (h.0, front (at + 1) ys zs h.1)

  pub back : (at to : ℕ) (ys zs : List X) → at + length ys ≡ to → IsSegmentAt xs at (ys ++ zs)
      → IsSegmentAt xs to zs
  back at to [] zs e h = moved at to zs (omega arith) h
  back at to (y ∷ ys) zs e h = back (at + 1) to ys zs (omega arith) h.1

  -- a part with the first element after it
  pub with_next : (at : ℕ) (ys : List X) (z : X) (zs : List X) → IsSegmentAt xs at (ys ++ z ∷ zs)
      → IsSegmentAt xs at (ys ++ z ∷ [])
  with_next at [] z zs h = (h.0, tt)
  with_next at (y ∷ ys) z zs h = (h.0, with_next (at + 1) ys z zs h.1)

get_next : {X : Type 0} (front : List X) (y : X) (ys : List X)
    → slice_get (front ++ y ∷ ys) (length front) ≡ Some y
get_next [] y ys = refl
get_next (x ∷ front) y ys = get_next front y ys

length_push : {X : Type 0} (front : List X) (y : X) → length (front ++ y ∷ []) ≡ length front + 1
length_push front y = length-append front (y ∷ [])

following : {X : Type 0} (xs front ys : List X) → xs ≡ front ++ ys
    → IsSegmentAt xs (length front) ys
following xs front [] e = tt
following xs front (y ∷ ys) e = (
  ap (λ l. slice_get l (length front)) e ∙ get_next front y ys,
  subst (λ k. IsSegmentAt xs k ys) (length_push front y)
      (following xs (front ++ y ∷ []) ys (e ∙ sym (append_assoc front (y ∷ []) ys))),
)

pub whole_is_at : {X : Type 0} (xs : List X) → IsSegmentAt xs 0 xs
whole_is_at xs = following xs [] xs refl
