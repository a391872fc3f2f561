-- A conversion takes a number of its source's size, and makes one of its target's.
use Rattle.std.proofs.Common.{◌≡◌, ℕ, refl, ap, ◌∙◌}
use Rattle.std.proofs.lemmas.Bool.{eqb-true, and_parts}
use Rattle.std.specs.Prelude.{Bool, true, false, ◌&&◌, nat_eq, nat_lt, if◌then◌else◌, Some}
use Rattle.c_resolved.specs.Words.{Width, W8, W16, W32, W64, Signedness, Conversion, Kept, Scale, can_convert, size_after, Base, Void, Char, UnsignedChar, Short, UnsignedShort, Int, Unsigned, LongLong, UnsignedLongLong, CType, base_width, width_of, sort_of, same_base, same_type, size_of_width, to_width, conversion, index_width, scaled}

-- it can be resolve_statement of a number of the one width's size, and gives a number of the
-- other's
abbrev pub Makes : Conversion → Width → Width → Type 0
Makes c from to = (can_convert c (Some (size_of_width from)) ≡ true)
    × (size_after c (Some (size_of_width from)) ≡ Some (size_of_width to))

pub to_width_makes : (from : Width) (s : Signedness) (to : Width) (t : Signedness)
    → Makes (to_width from s to t) from to
to_width_makes W8 s W8 t = (refl, refl)
to_width_makes W16 s W8 t = (refl, refl)
to_width_makes W32 s W8 t = (refl, refl)
to_width_makes W64 s W8 t = (refl, refl)
to_width_makes W8 s W16 t = (refl, refl)
to_width_makes W16 s W16 t = (refl, refl)
to_width_makes W32 s W16 t = (refl, refl)
to_width_makes W64 s W16 t = (refl, refl)
to_width_makes W8 s W32 t = (refl, refl)
to_width_makes W16 s W32 t = (refl, refl)
to_width_makes W32 s W32 t = (refl, refl)
to_width_makes W64 s W32 t = (refl, refl)
to_width_makes W8 s W64 t = (refl, refl)
to_width_makes W16 s W64 t = (refl, refl)
to_width_makes W32 s W64 t = (refl, refl)
to_width_makes W64 s W64 t = (refl, refl)

-- where `same_base` holds, the bases are equal
same_base_is : (a b : Base) → same_base a b ≡ true → a ≡ b
same_base_is Void Void h = refl
same_base_is Char Char h = refl
same_base_is UnsignedChar UnsignedChar h = refl
same_base_is Short Short h = refl
same_base_is UnsignedShort UnsignedShort h = refl
same_base_is Int Int h = refl
same_base_is Unsigned Unsigned h = refl
same_base_is LongLong LongLong h = refl
same_base_is UnsignedLongLong UnsignedLongLong h = refl
same_base_is a b h = absurd (cc)

-- where `same_type` holds, the types are equal
pub same_type_is : (a b : CType) → same_type a b ≡ true → a ≡ b
same_type_is a b h =
    let parts = and_parts (nat_eq a.pointers b.pointers) (same_base a.base b.base) h in
    let p : a.pointers ≡ b.pointers = eqb-true a.pointers b.pointers parts.0 in
    let q : a.base ≡ b.base = same_base_is a.base b.base parts.1 in
    λ i. record { base = q i; pointers = p i }

kept_makes : (from to : Width) → from ≡ to → Makes Kept from to
kept_makes from to e = (refl, ap (λ w. Some (size_of_width w)) e)

pub and_left : (a b : Bool) → (a && b) ≡ true → a ≡ true
and_left true b h = refl
and_left false b h = h

pub and_right : (a b : Bool) → (a && b) ≡ true → b ≡ true
and_right true b h = h
and_right false b h = absurd (cc)

same_type_width : (a b : CType) → same_type a b ≡ true → width_of a ≡ width_of b
same_type_width a b h =
    let pointers : nat_eq a.pointers b.pointers
    ≡ true = and_left (nat_eq a.pointers b.pointers) (same_base a.base b.base) h in
    let bases : same_base a.base b.base ≡ true = and_right (nat_eq a.pointers b.pointers)
    (same_base a.base b.base) h in
    let alike : a.pointers ≡ b.pointers = eqb-true a.pointers b.pointers pointers in
    ap (λ k. if nat_lt 0 k then W64 else base_width a.base) alike
    ∙ ap (λ w. if nat_lt 0 b.pointers then W64 else w)
    (ap base_width (same_base_is a.base b.base bases))

pub conversion_makes : (a b : CType) → Makes (conversion a b) (width_of a) (width_of b)
conversion_makes a b = by_same (same_type a b) refl
  where
    by_same : (x : Bool) → same_type a b ≡ x → Makes
        (if x then Kept else to_width (width_of a) (sort_of a) (width_of b) (sort_of b))
        (width_of a)
        (width_of b)
    by_same true e = kept_makes (width_of a) (width_of b) (same_type_width a b e)
    by_same false e = to_width_makes (width_of a) (sort_of a) (width_of b) (sort_of b)

abbrev scaled_by : Width → Signedness → ℕ → Conversion
scaled_by w s by = Scale s (index_width w) by

index_makes : (w : Width) (s : Signedness) (by : ℕ) → Makes (scaled_by w s by) w W64
index_makes W8 s by = (refl, refl)
index_makes W16 s by = (refl, refl)
index_makes W32 s by = (refl, refl)
index_makes W64 s by = (refl, refl)

pub scaled_makes : (a : CType) (by : ℕ) → Makes (scaled a by) (width_of a) W64
scaled_makes a by = index_makes (width_of a) (sort_of a) by
