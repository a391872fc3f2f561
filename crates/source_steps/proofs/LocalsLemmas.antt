-- Locals in a list of activations.
use Rattle.std.proofs.Common.{◌≡◌, ℕ, zero, suc, ◌+◌, ◌<◌, ◌≤◌, List, [], ◌∷◌, ◌++◌, length, map}
use Rattle.std.proofs.Common.{refl, sym, ap, ◌∙◌, subst, Option, Some, None}
use Rattle.std.specs.Prelude.{slice_set, get_or, option_map, replicate}
use Rattle.std.proofs.lemmas.Option.{slice_get_read, slice_get-map}
use Rattle.std.proofs.lemmas.List.{length-map, map-set, set_past, append_assoc}
use Rattle.std.proofs.lemmas.List.{replicate-append-replicate}
use Rattle.source_steps.specs.Locals.{frame_in, with_local_in}

set_kept : {X : Type 0} (xs : List X) (k : ℕ) (x : X) → x ≡ get_or xs k x → slice_set xs k x ≡ xs
set_kept [] k x e = refl
set_kept (y ∷ ys) zero x e = ap (λ z. z ∷ ys) e
set_kept (y ∷ ys) (suc k) x e = ap (λ zs. y ∷ zs) (set_kept ys k x e)

module _ {V : Type 0} (f : V → List ℕ) where
  frame_at : (vs : List V) (k : ℕ) (w : V) → k < length vs → w ≡ get_or vs k w
      → frame_in (map f vs) k ≡ f w
  frame_at vs k w lt e =
      ap (λ (o : Option (List ℕ)). elim o [ Some frame ↦ frame | None ↦ [] ])
      (slice_get-map f vs k ∙ ap (option_map f) (slice_get_read vs (length vs) k w refl lt e))

  pub written : (vs : List V) (k x v : ℕ) (w w' : V) → k < length vs → w ≡ get_or vs k w
      → f w' ≡ slice_set (f w) x v → map f (slice_set vs k w') ≡ with_local_in (map f vs) k x v
  written vs k x v w w' lt e s =
      map-set f vs k w' ∙ ap (slice_set (map f vs) k)
      (s ∙ ap (λ l. slice_set l x v) (sym (frame_at vs k w lt e)))

  pub past_frames : (vs : List V) (k x v : ℕ) → length vs ≤ k
      → map f vs ≡ with_local_in (map f vs) k x v
  past_frames vs k x v le =
      sym (set_past (map f vs) k _ (subst (λ (n : ℕ). n ≤ k) (sym (length-map vs f)) le))

  pub past_locals : (vs : List V) (k x v : ℕ) (w : V) → k < length vs → w ≡ get_or vs k w
      → length (f w) ≤ x → map f vs ≡ with_local_in (map f vs) k x v
  past_locals vs k x v w lt e le =
      sym (ap (λ l. slice_set (map f vs) k (slice_set l x v)) (frame_at vs k w lt e)
      ∙ ap (slice_set (map f vs) k) (set_past (f w) x v le) ∙ sym (map-set f vs k w)
      ∙ ap (map f) (set_kept vs k w e))

pub one_zero_more : (xs ys all : List ℕ) (k : ℕ) → all ≡ xs ++ replicate k 0 → ys ≡ all ++ 0 ∷ []
    → ys ≡ xs ++ replicate (k + 1) 0
one_zero_more xs ys all k e p =
    p ∙ ap (λ l. l ++ 0 ∷ []) e ∙ append_assoc xs (replicate k 0) (0 ∷ [])
    ∙ ap (λ l. xs ++ l) (replicate-append-replicate k 1 0)
