-- Types of C: which of them have values, and what size these are.
use Rattle.std.proofs.Common.{◌≡◌, ℕ, ◌+◌, ◌-◌, refl, ap, sym, ◌∙◌, arith}
use Rattle.std.proofs.lemmas.Bool.Decides.{nat_tests}
use Rattle.std.specs.Prelude.{Bool, true, false, not, ◌&&◌, ◌||◌, nat_eq, nat_lt, if◌then◌else◌, Some, None}
use Rattle.c_resolved.specs.Words.{Width, W8, W64, bytes_of, Size, size_in_memory, constant_fits, is_divisor, Base, Void, Char, Unsigned, LongLong, UnsignedLongLong, CType, plain, pointer_to, pointed, is_void_base, is_pointer, is_void, is_integer, is_scalar, is_void_pointer, is_sized_pointer, base_width, size_of_width, size_of, promoted_base, promoted, wider, common, TypedNode, can_become, are_comparable, result_size}
use Rattle.c_operations.specs.declared.operation.Size.TheVariants as sizes
use Rattle.c_resolved.proofs.Conversions.{and_left, and_right}

-- ---- sizes of values

sized_unless : (v : Bool) (z : Size) → not v ≡ true → (if v then None else Some z) ≡ Some z
sized_unless true z h = absurd (cc)
sized_unless false z h = refl

none_when : (v : Bool) (z : Size) → v ≡ true → (if v then None else Some z) ≡ None
none_when true z h = refl
none_when false z h = absurd (cc)

pub scalar_size : (t : CType) → is_scalar t ≡ true → result_size t ≡ Some (size_of t)
scalar_size t h = sized_unless (is_void t) (size_of t) h

pub void_size : (t : CType) → is_void t ≡ true → result_size t ≡ None
void_size t h = none_when (is_void t) (size_of t) h

pub size_in_memory_is : (w : Width) → size_in_memory w ≡ size_of_width w
size_in_memory_is W8 = refl
size_in_memory_is w = refl

pub bytes_divide : (w : Width) → is_divisor (bytes_of w) ≡ true
bytes_divide W8 = refl
bytes_divide w = refl

pub bytes_fit : (w : Width) → constant_fits sizes.Long (bytes_of w) ≡ true
bytes_fit W8 = refl
bytes_fit w = refl

pub one_fits : (z : Size) → constant_fits z 1 ≡ true
one_fits sizes.Int = refl
one_fits sizes.Long = refl

pub pointer_size : (t : CType) → is_pointer t ≡ true → size_of t ≡ sizes.Long
pointer_size t h = ap (λ b. size_of_width (if b then W64 else base_width t.base)) h

-- ---- scalars

pub void_not_scalar : (t : CType) → is_void t ≡ false → is_scalar t ≡ true
void_not_scalar t h = ap not h

pointer_not_void : (p v : Bool) → p ≡ true → not (v && not p) ≡ true
pointer_not_void true true h = refl
pointer_not_void true false h = refl
pointer_not_void false v h = absurd (cc)

pub pointer_scalar : (t : CType) → is_pointer t ≡ true → is_scalar t ≡ true
pointer_scalar t h = pointer_not_void (is_pointer t) (is_void_base t.base) h

integer_not_void : (p v : Bool) → (not p && not v) ≡ true → not (v && not p) ≡ true
integer_not_void true v h = absurd (cc)
integer_not_void false true h = absurd (cc)
integer_not_void false false h = refl

pub integer_scalar : (t : CType) → is_integer t ≡ true → is_scalar t ≡ true
integer_scalar t h = integer_not_void (is_pointer t) (is_void_base t.base) h

not_true : (b : Bool) → not b ≡ true → b ≡ false
not_true true h = absurd (cc)
not_true false h = refl

pub integer_not_pointer : (t : CType) → is_integer t ≡ true → is_pointer t ≡ false
integer_not_pointer t h = not_true (is_pointer t)
    (and_left (not (is_pointer t)) (not (is_void_base t.base)) h)

pub integer_base_value : (t : CType) → is_integer t ≡ true → is_void_base t.base ≡ false
integer_base_value t h = not_true (is_void_base t.base)
    (and_right (not (is_pointer t)) (not (is_void_base t.base)) h)

pub plain_scalar : (b : Base) → is_void_base b ≡ false → is_scalar (plain b) ≡ true
plain_scalar b h = ap (λ v. not (v && true)) h

one_more : (n : ℕ) → nat_lt 0 (n + 1) ≡ true
one_more n = grind (arith, nat_tests)

pub pointer_to_pointer : (t : CType) → is_pointer (pointer_to t) ≡ true
pointer_to_pointer t = one_more t.pointers

one_fewer : (n : ℕ) → nat_lt 0 n ≡ true → nat_eq n 1 ≡ false → nat_lt 0 (n - 1) ≡ true
one_fewer n h k = grind (arith, nat_tests)

pointed_not_void : (v : Bool) (n : ℕ) → nat_lt 0 n ≡ true → not (v && nat_eq n 1) ≡ true
    → not (v && not (nat_lt 0 (n - 1))) ≡ true
pointed_not_void false n h k = refl
pointed_not_void true n h k = ap (λ b. not (not b)) (one_fewer n h (not_true (nat_eq n 1) k))

pub pointed_scalar : (t : CType) → is_sized_pointer t ≡ true → is_scalar (pointed t) ≡ true
pointed_scalar t h =
    pointed_not_void (is_void_base t.base) t.pointers
    (and_left (is_pointer t) (not (is_void_pointer t)) h)
    (and_right (is_pointer t) (not (is_void_pointer t)) h)

-- ---- types of results

promoted_value : (b : Base) → is_void_base b ≡ false → is_void_base (promoted_base b) ≡ false
promoted_value Void h = h
promoted_value Char h = refl
promoted_value b h = refl

wider_value : (a b : Base) → is_void_base a ≡ false → is_void_base b ≡ false
    → is_void_base (wider a b) ≡ false
wider_value UnsignedLongLong b h k = refl
wider_value LongLong UnsignedLongLong h k = refl
wider_value LongLong b h k = refl
wider_value Unsigned UnsignedLongLong h k = refl
wider_value Unsigned LongLong h k = refl
wider_value Unsigned b h k = refl
wider_value a b h k = k

pub promoted_scalar : (t : CType) → is_integer t ≡ true → is_scalar (promoted t) ≡ true
promoted_scalar t h = plain_scalar (promoted_base t.base)
    (promoted_value t.base (integer_base_value t h))

pub common_scalar : (a b : CType) → is_integer a ≡ true → is_integer b ≡ true
    → is_scalar (common a b) ≡ true
common_scalar a b h k =
    plain_scalar (wider (promoted_base a.base) (promoted_base b.base))
    (wider_value (promoted_base a.base) (promoted_base b.base)
    (promoted_value a.base (integer_base_value a h))
    (promoted_value b.base (integer_base_value b k)))

promoted_width : (b : Base) → is_void_base b ≡ false
    → size_of_width (base_width (promoted_base b)) ≡ size_of_width (base_width b)
promoted_width Void h = absurd (cc)
promoted_width Char h = refl
promoted_width b h = refl

-- promotion changes no number
pub promoted_size : (t : CType) → is_integer t ≡ true → size_of (promoted t) ≡ size_of t
promoted_size t h = promoted_width t.base (integer_base_value t h)
    ∙ sym (ap (λ p. size_of_width (if p then W64 else base_width t.base)) (integer_not_pointer t h))

-- ---- what may become a type, and what may be compared

comparable : (p q x az bz s t : Bool) → (p ≡ true → s ≡ true) → (q ≡ true → t ≡ true)
    → (az ≡ true → s ≡ true) → (bz ≡ true → t ≡ true)
    → ((p && q && x) || (p && bz) || (q && az)) ≡ true
    → (s ≡ true) × (t ≡ true)
comparable true true x az bz s t p q a b h = (p refl, q refl)
comparable true false x az true s t p q a b h = (p refl, b refl)
comparable true false x az false s t p q a b h = absurd (cc)
comparable false true x true bz s t p q a b h = (a refl, q refl)
comparable false true x false bz s t p q a b h = absurd (cc)
comparable false false x az bz s t p q a b h = absurd (cc)

no_pointer : (p x : Bool) → (p && false && x) ≡ true → ⊥
no_pointer true x h = absurd (cc)
no_pointer false x h = absurd (cc)

becoming : (i j p q x az s t : Bool) → (i ≡ true → s ≡ true) → (j ≡ true → t ≡ true)
    → (p ≡ true → s ≡ true) → (q ≡ true → t ≡ true) → (az ≡ true → s ≡ true)
    → ((i && j) || (q && az) || (p && q && x)) ≡ true
    → (s ≡ true) × (t ≡ true)
becoming true true p q x az s t i j k l z h = (i refl, j refl)
becoming true false p true x az s t i j k l z h = (i refl, l refl)
becoming true false p false x az s t i j k l z h = absurd (no_pointer p x h)
becoming false j p true x true s t i j' k l z h = (z refl, l refl)
becoming false j true true x false s t i j' k l z h = (k refl, l refl)
becoming false j false true x false s t i j' k l z h = absurd (cc)
becoming false j p false x az s t i j' k l z h = absurd (no_pointer p x h)

-- a literal 0 is a scalar
abbrev pub ZeroScalar : TypedNode → Type 0
ZeroScalar a = a.zero ≡ true → is_scalar a.type ≡ true

pub can_become_scalar : (t : CType) (a : TypedNode) → ZeroScalar a → can_become t a ≡ true
    → (is_scalar a.type ≡ true) × (is_scalar t ≡ true)
can_become_scalar t a z h =
    becoming (is_integer a.type) (is_integer t) (is_pointer a.type) (is_pointer t) _ a.zero
    (is_scalar a.type) (is_scalar t)
    (integer_scalar a.type) (integer_scalar t) (pointer_scalar a.type) (pointer_scalar t) z h

pub comparable_scalar : (a b : TypedNode) → ZeroScalar a → ZeroScalar b → are_comparable a b ≡ true
    → (is_scalar a.type ≡ true) × (is_scalar b.type ≡ true)
comparable_scalar a b z w h =
    comparable (is_pointer a.type) (is_pointer b.type) _ a.zero b.zero (is_scalar a.type)
    (is_scalar b.type) (pointer_scalar a.type) (pointer_scalar b.type) z w h
