-- The handlers below a number.
use Rattle.std.proofs.Common.{◌≡◌, ℕ, zero, suc, ◌≤◌, List, [], ◌∷◌, ◌++◌, length, take, refl}
use Rattle.std.proofs.Common.{sym, ap, ◌∙◌, arith, inl, inr}
use Rattle.std.specs.Prelude.{reverse, slice_get, Some}
use Rattle.std.proofs.lemmas.Option.{slice_get_cases}
use Rattle.std.proofs.lemmas.List.{reverse-append, take_all}
use Rattle.std.proofs.Math.Seq.{take-suc}
use Rattle.source_machine.specs.Words.{Handler, found, below}

reverse-one : (h : Handler) (hs : List Handler) → reverse (hs ++ h ∷ []) ≡ h ∷ reverse hs
reverse-one h hs = reverse-append hs (h ∷ [])

below_suc : (hs : List Handler) (k : ℕ) (h : Handler) → slice_get hs k ≡ Some h
    → below (suc k) hs ≡ h ∷ below k hs
below_suc hs k h e = ap (λ o. found o (below k hs)) e

pub length-below : (hs : List Handler) (k : ℕ) → k ≤ length hs → length (below k hs) ≡ k
length-below hs zero le = refl
length-below hs (suc k) le =
    elim ((slice_get_cases hs k).1) [
      | inl w ↦ ap length (below_suc hs k w.0 w.2) ∙ ap suc (length-below hs k (omega arith))
      | inr w ↦ let past = w.0 in absurd (omega arith)
    ]

below-take : (hs : List Handler) (k : ℕ) → k ≤ length hs → below k hs ≡ reverse (take k hs)
below-take hs zero le = refl
below-take hs (suc k) le =
    elim ((slice_get_cases hs k).1) [
      | inl w ↦
          below_suc hs k w.0 w.2 ∙ ap (λ xs. w.0 ∷ xs) (below-take hs k (omega arith))
          ∙ sym (reverse-one w.0 (take k hs))
          ∙ ap (λ x. reverse (take k hs ++ x ∷ [])) (sym w.3)
          ∙ ap reverse (sym (take-suc hs k w.0 w.1))
      | inr w ↦ let past = w.0 in absurd (omega arith)
    ]

-- all are those around a place
pub all_below : (hs : List Handler) → below (length hs) hs ≡ reverse hs
all_below hs =
    below-take hs (length hs) (omega arith) ∙ ap reverse (take_all (length hs) hs (omega arith))
