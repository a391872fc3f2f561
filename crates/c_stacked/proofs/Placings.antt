-- Variables placed one after another.
use Rattle.std.proofs.Common.{◌≡◌, ◌≤◌, ◌<◌, ℕ, ◌+◌, refl, ap, sym, ◌∙◌}
use Rattle.std.proofs.lemmas.List.{append-nil, drop_all}
use Rattle.std.specs.Prelude.{Bool, true, false, ◌||◌, List, [], ◌∷◌, ◌++◌, drop, length, get_or, Option, Some, None, is_some}
use Rattle.c_stacked.proofs.Walked.{get_any}
use Rattle.c_checked.proofs.Items.{next_of}
use Rattle.c_resolved.specs.declared.variable.Place.{Place}
use Rattle.c_resolved.specs.declared.variable.Variable.{Variable}
use Rattle.c_resolved.specs.Layout.{places_from, end_of_all, is_placed, any_placed}
use Rattle.c_stacked.specs.declared.layout.Placing.{Placing}
use Rattle.c_stacked.specs.Placings.{IsPlacing}

-- the places so far with those of the other variables are all
pub record StillToPlace (vs : List Variable) (marks : List Bool) (i : ℕ) (p : Placing) : Type 0
  where
    pub places : p.places.items ++ places_from (drop i vs) (drop i marks) p.end
        ≡ places_from vs marks 0
    pub end : end_of_all (drop i vs) (drop i marks) p.end ≡ end_of_all vs marks 0

none_without_marks : (vs : List Variable) (at : ℕ) → places_from vs [] at ≡ []
none_without_marks [] at = refl
none_without_marks (v ∷ vs) at = refl

end_without_marks : (vs : List Variable) (at : ℕ) → end_of_all vs [] at ≡ at
end_without_marks [] at = refl
end_without_marks (v ∷ vs) at = refl

-- nothing is left of the variables, or of the marks
pub all_placed : (vs : List Variable) (marks : List Bool) (i : ℕ) (p : Placing)
    → StillToPlace vs marks i p → length vs ≤ i → IsPlacing vs marks p
all_placed vs marks i p h past =
    let none : drop i vs ≡ [] = drop_all i vs past in
    record {
      places = sym (append-nil p.places.items)
          ∙ ap (λ w. p.places.items ++ places_from w (drop i marks) p.end) (sym none) ∙ h.places;
      end = ap (λ w. end_of_all w (drop i marks) p.end) (sym none) ∙ h.end;
    }

pub all_marked : (vs : List Variable) (marks : List Bool) (i : ℕ) (p : Placing)
    → StillToPlace vs marks i p → length marks ≤ i → IsPlacing vs marks p
all_marked vs marks i p h past =
    let none : drop i marks ≡ [] = drop_all i marks past in
    record {
      places = sym (append-nil p.places.items)
          ∙ ap (λ w. p.places.items ++ w) (sym (none_without_marks (drop i vs) p.end))
          ∙ ap (λ w. p.places.items ++ places_from (drop i vs) w p.end) (sym none) ∙ h.places;
      end = sym (end_without_marks (drop i vs) p.end)
          ∙ ap (λ w. end_of_all (drop i vs) w p.end) (sym none) ∙ h.end;
    }

-- ---- whether a variable is placed

abbrev pub AnyLeft : List (Option Place) → ℕ → Bool
AnyLeft ps i = any_placed (drop i ps)

pub any_found : (ps : List (Option Place)) (i : ℕ) (p : Option Place) → i < length ps
    → p ≡ get_or ps i p → is_placed p ≡ true → AnyLeft ps i ≡ true
any_found ps i p lt is h = ap any_placed (next_of ps i p lt is)
    ∙ ap (λ b. b || AnyLeft ps (i + 1)) h

pub any_after : (ps : List (Option Place)) (i : ℕ) (p : Option Place) → i < length ps
    → p ≡ get_or ps i p → is_placed p ≡ false → AnyLeft ps (i + 1) ≡ AnyLeft ps i
any_after ps i p lt is h = sym (ap any_placed (next_of ps i p lt is)
    ∙ ap (λ b. b || AnyLeft ps (i + 1)) h)

pub none_left : (ps : List (Option Place)) (i : ℕ) → length ps ≤ i → AnyLeft ps i ≡ false
none_left ps i past = ap any_placed (drop_all i ps past)

-- ---- parameters that are placed

some_placed : (p : Option Place) → is_some p ≡ is_placed p
some_placed None = refl
some_placed (Some p) = refl

pub found_at : (ps : List (Option Place)) (i : ℕ) (d : Option Place) → i < length ps
    → is_some (get_or ps i d) ≡ true → AnyLeft ps i ≡ true
found_at ps i d lt h = any_found ps i (get_or ps i d) lt (get_any ps i d (get_or ps i d) lt)
    (sym (some_placed (get_or ps i d)) ∙ h)

pub after_at : (ps : List (Option Place)) (i : ℕ) (d : Option Place) → i < length ps
    → is_some (get_or ps i d) ≡ false → AnyLeft ps (i + 1) ≡ AnyLeft ps i
after_at ps i d lt h = any_after ps i (get_or ps i d) lt (get_any ps i d (get_or ps i d) lt)
    (sym (some_placed (get_or ps i d)) ∙ h)
