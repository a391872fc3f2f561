-- Places of variables.
use Rattle.std.proofs.Common.{◌≡◌, ◌≤◌, ◌<◌, ℕ, ◌+◌, ◌-◌, ◌*◌, ◌^◌, refl, ap, subst, ◌∙◌, arith}
use Rattle.std.proofs.lemmas.Bool.{or_left, or_right, lt-ltb, le-leb, eq-eqb}
use Rattle.std.proofs.lemmas.List.{append-nil, length_push}
use Rattle.std.specs.Prelude.{zero, suc, Bool, true, false, if◌then◌else◌, List, [], ◌∷◌, ◌++◌, length, take, slice_get, Option, Some, None}
use Rattle.c_operations.specs.declared.operation.Size.TheVariants as sizes
use Rattle.c_checked.specs.Program.{DataFrame, declared_among}
use Rattle.c_checked.specs.Sound.{data_sound, parameters_sound}
use Rattle.c_checked.specs.declared.function.StackedParameter.{StackedParameter}
use Rattle.c_resolved.specs.Words.{Size, is_size, access_of, Layout, Place, Variable, stored_bytes, element_count, is_addressable, end_of, place_from, places_from, end_of_all, is_placed, any_placed, only_place, with_parameter, stacked_parameters}
use Rattle.c_resolved.proofs.Operands.{and_true}
use Rattle.c_resolved.proofs.Numbers.{front_get, front_itself, if_both}
use Rattle.c_resolved.proofs.ArrayBytes.{room, variable_room, ends_near}

-- the part of the data stack, by whether there is one
abbrev pub frame_if : Bool → ℕ → Layout → Option DataFrame
frame_if b parameters l =
    if b then Some (record {
      base = l.base;
      size = l.size;
      parameters = stacked_parameters 0 (take parameters l.places);
    }) else None

-- where the place of one variable is on the data stack, there is such a place
pub place_counts : (ps : List (Option Place)) (x : ℕ)
    → is_placed (only_place (slice_get ps x)) ≡ true → any_placed ps ≡ true
place_counts [] x h = absurd (cc)
place_counts (p ∷ ps) zero h = or_left (is_placed p) (any_placed ps) h
place_counts (p ∷ ps) (suc x) h = or_right (is_placed p) (any_placed ps) (place_counts ps x h)

-- ---- what is placed

-- the place is one of the variable, and ends below a bound
abbrev pub PlacedBelow : Variable → ℕ → Place → Type 0
PlacedBelow v m p = (p.access ≡ access_of v.of) × (p.elements ≡ v.elements)
    × (p.offset + stored_bytes v.of * element_count v.elements ≤ m)

below_more : (v : Variable) (m n : ℕ) (p : Place) → m ≤ n → PlacedBelow v m p → PlacedBelow v n p
below_more v m n p le h = (h.0, h.1, omega (arith, le, h.2))

some_place : (p q : Place) → Some (Some p) ≡ Some (Some q) → p ≡ q
some_place p q e = ap (λ o. elim o [ None ↦ p | Some o' ↦ elim o' [ None ↦ p | Some r ↦ r ] ]) e

none_placed : (p : Place) (o : Option Place) → o ≡ None → Some o ≡ Some (Some p) → ⊥
none_placed p None h e = absurd (cc)
none_placed p (Some q) h e = absurd (cc)

pub place_found : (vs : List Variable) (marks : List Bool) (at x : ℕ) (v : Variable) (p : Place)
    → slice_get vs x ≡ Some v → slice_get (places_from vs marks at) x ≡ Some (Some p)
    → PlacedBelow v (at + room vs) p
place_found [] marks at x v p h k = absurd (cc)
place_found (w ∷ vs) [] at x v p h k = absurd (cc)
place_found (w ∷ vs) (mark ∷ marks) at zero v p h k = if_both {A = List (Option Place)}
    (λ ps. slice_get ps zero ≡ Some (Some p) → PlacedBelow v (at + (variable_room w + room vs)) p)
    (is_addressable w mark) (Some (place_from w at) ∷ places_from vs marks (end_of w at))
    (None ∷ places_from vs marks at) (λ t e.
    let same : w ≡ v = ap (λ o. elim o [ None ↦ w | Some u ↦ u ]) h in
    let near = ends_near w at in
    subst (λ u. PlacedBelow u (at + (variable_room w + room vs)) p) same
    (subst (PlacedBelow w (at + (variable_room w + room vs))) (some_place (place_from w at) p e)
    (refl, refl, omega (arith, near)))) (λ t e. absurd (none_placed p None refl e)) k
place_found (w ∷ vs) (mark ∷ marks) at (suc x) v p h k = if_both {A = List (Option Place)}
    (λ ps. slice_get ps (suc x) ≡ Some (Some p)
    → PlacedBelow v (at + (variable_room w + room vs)) p)
    (is_addressable w mark) (Some (place_from w at) ∷ places_from vs marks (end_of w at))
    (None ∷ places_from vs marks at) (λ t e.
    let near = ends_near w at in
    below_more v (end_of w at + room vs) (at + (variable_room w + room vs)) p
    (omega (arith, near)) (place_found vs marks (end_of w at) x v p h e)) (λ t e.
    below_more v (at + room vs) (at + (variable_room w + room vs)) p (omega arith)
    (place_found vs marks at x v p h e)) k

pub end_near : (vs : List Variable) (marks : List Bool) (at : ℕ)
    → end_of_all vs marks at ≤ at + room vs
end_near [] marks at = omega arith
end_near (v ∷ vs) [] at = omega arith
end_near (v ∷ vs) (mark ∷ marks) at = if_both {A = ℕ}
    (λ n. n ≤ at + (variable_room v + room vs)) (is_addressable v mark)
    (end_of_all vs marks (end_of v at)) (end_of_all vs marks at) (λ t.
    let near = ends_near v at in
    let h = end_near vs marks (end_of v at) in
    omega (arith, near, h)) (λ t.
    let h = end_near vs marks at in
    omega (arith, h))

-- ---- every place below a bound

abbrev pub OffsetBelow : ℕ → Option Place → Type 0
OffsetBelow m None = Unit {0}
OffsetBelow m (Some p) = p.offset ≤ m

abbrev pub AllBelow : ℕ → List (Option Place) → Type 0
AllBelow m [] = Unit {0}
AllBelow m (p ∷ ps) = OffsetBelow m p × AllBelow m ps

pub all_below : (vs : List Variable) (marks : List Bool) (at m : ℕ) → at + room vs ≤ m
    → AllBelow m (places_from vs marks at)
all_below [] marks at m h = tt
all_below (v ∷ vs) [] at m h = tt
all_below (v ∷ vs) (mark ∷ marks) at m h = if_both {A = List (Option Place)} (AllBelow m)
    (is_addressable v mark) (Some (place_from v at) ∷ places_from vs marks (end_of v at))
    (None ∷ places_from vs marks at) (λ t.
    let near = ends_near v at in
    (omega (arith, near, h), all_below vs marks (end_of v at) m (omega (arith, near, h)))) (λ t.
    (tt, all_below vs marks at m (omega (arith, h))))

take_below : (m n : ℕ) (ps : List (Option Place)) → AllBelow m ps → AllBelow m (take n ps)
take_below m zero ps h = tt
take_below m (suc n) [] h = tt
take_below m (suc n) (p ∷ ps) h = (h.0, take_below m n ps h.1)

take_few : (n : ℕ) (ps : List (Option Place)) → length (take n ps) ≤ n
take_few zero ps = omega arith
take_few (suc n) [] = omega arith
take_few (suc n) (p ∷ ps) = let h = take_few n ps in omega (arith, h)

with_few : (n : ℕ) (p : Option Place) (rest : List StackedParameter)
    → length (with_parameter n p rest) ≤ 1 + length rest
with_few n None rest = omega arith
with_few n (Some p) rest = omega arith

few_parameters : (n : ℕ) (ps : List (Option Place)) → length (stacked_parameters n ps) ≤ length ps
few_parameters n [] = omega arith
few_parameters n (p ∷ ps) =
    let h = with_few n p (stacked_parameters (n + 1) ps) in
    let k = few_parameters (n + 1) ps in
    omega (arith, h, k)

with_sound : (count n : ℕ) (p : Option Place) (rest : List StackedParameter) → n < count
    → OffsetBelow (2 ^ 32 - 1) p → parameters_sound count rest ≡ true
    → parameters_sound count (with_parameter n p rest) ≡ true
with_sound count n None rest lt small h = h
with_sound count n (Some p) rest lt small h = and_true
    (and_true (lt-ltb n count lt) (lt-ltb p.offset (2 ^ 32) (omega (arith, small)))) h

sound_parameters : (count n : ℕ) (ps : List (Option Place)) → n + length ps ≤ count
    → AllBelow (2 ^ 32 - 1) ps → parameters_sound count (stacked_parameters n ps) ≡ true
sound_parameters count n [] few h = refl
sound_parameters count n (p ∷ ps) few h = with_sound count n p (stacked_parameters (n + 1) ps)
    (omega (arith, few)) h.0 (sound_parameters count (n + 1) ps (omega (arith, few)) h.1)

-- ---- the function's part of the data stack is sound

abbrev pub base_if : Bool → List Size
base_if b = if b then sizes.Long ∷ [] else []

pub frame_sound : (b : Bool) (count : ℕ) (xs : List Size) (l : Layout) → l.base ≡ count + length xs
    → l.size < 2 ^ 21 → AllBelow (2 ^ 32 - 1) l.places
    → data_sound count (xs ++ base_if b) (frame_if b count l) ≡ true
frame_sound false count xs l e small below = refl
frame_sound true count xs l e small below =
    let long : length (xs ++ sizes.Long ∷ []) ≡ length xs + 1 = length_push xs sizes.Long in
    let last : length (xs ++ sizes.Long ∷ []) - 1 ≡ length xs = omega (arith, long) in
    let got : slice_get (xs ++ sizes.Long ∷ []) (length (xs ++ sizes.Long ∷ []) - 1)
    ≡ Some sizes.Long = ap (slice_get (xs ++ sizes.Long ∷ [])) last
    ∙ front_get xs sizes.Long (xs ++ sizes.Long ∷ []) (front_itself (xs ++ sizes.Long ∷ [])) in
    let taken : length (take count l.places) ≤ count = take_few count l.places in
    let few = few_parameters 0 (take count l.places) in
    and_true
    (and_true
    (and_true
    (and_true
    (and_true (lt-ltb 0 (length (xs ++ sizes.Long ∷ [])) (omega (arith, long)))
    (eq-eqb l.base (count + (length (xs ++ sizes.Long ∷ []) - 1)) (omega (arith, e, last))))
    (ap (is_size sizes.Long) got))
    (lt-ltb l.size (2 ^ 21) small))
    (le-leb (length (stacked_parameters 0 (take count l.places))) count
    (omega (arith, few, taken))))
    (sound_parameters count 0 (take count l.places) (omega (arith, taken))
    (take_below (2 ^ 32 - 1) count l.places below))

-- the locals that are declared are those before the base
pub declared_without : (b : Bool) (count : ℕ) (xs : List Size) (l : Layout)
    → declared_among (xs ++ base_if b) (frame_if b count l) ≡ length xs
declared_without false count xs l = ap length (append-nil xs)
declared_without true count xs l =
    let long : length (xs ++ sizes.Long ∷ []) ≡ length xs + 1 = length_push xs sizes.Long in
    omega (arith, long)

-- ---- what a layout has fits

pub only_found : (o : Option (Option Place)) (p : Place) → only_place o ≡ Some p
    → o ≡ Some (Some p)
only_found None p h = absurd (cc)
only_found (Some q) p h = ap (λ o. Some o) h
