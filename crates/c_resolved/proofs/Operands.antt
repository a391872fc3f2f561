-- Operands that are sound, as their operators take them.
use Rattle.std.proofs.Common.{◌≡◌, refl, ap, sym, ◌∙◌}
use Rattle.std.specs.Prelude.{Bool, true, false, ◌&&◌, if◌then◌else◌, Option, Some, None}
use Rattle.c_resolved.specs.Words.{Operation, Size, Conversion, Kept, On, Node, Lvalue, same_size, is_size, is_number, same_sizes, can_convert, size_after, takes, CType, is_pointer, is_scalar, size_of, bytes_in, pointed, conversion, scaled, TypedNode, typed, only_if, as_is, as_type, as_index, lvalue_of, with_lvalue, result_size}
use Rattle.c_resolved.proofs.Settings.{node_size, node_sound, lvalue_size, lvalue_sound, expression_size, expression_sound, Setting}
use Rattle.c_operations.specs.declared.operation.Size.TheVariants as sizes
use Rattle.c_checked.specs.Expression as nodes
use Rattle.c_checked.specs.Expression.{Expression}
use Rattle.c_resolved.proofs.Conversions.{conversion_makes, scaled_makes}
use Rattle.c_resolved.proofs.TypeFacts.{scalar_size, pointer_size, pointer_scalar}

-- an operand that represents a number of its type, or for none if its type has no values
pub record IsGood (S : Setting) (a : TypedNode) : Type 0 where
  pub sound : node_sound S a.node ≡ true
  pub sized : node_size S a.node ≡ result_size a.type
  pub zero : a.zero ≡ true → is_scalar a.type ≡ true

-- what a rule gives is good
abbrev pub GoodIf : Setting → Option TypedNode → Type 0
GoodIf S None = Unit {0}
GoodIf S (Some t) = IsGood S t

-- an expression that is sound, and of a size
pub record HasSize (S : Setting) (e : Expression) (z : Size) : Type 0 where
  pub sound : expression_sound S e ≡ true
  pub size : expression_size S e ≡ Some z

-- ---- tests

pub and_true : {a b : Bool} → a ≡ true → b ≡ true → (a && b) ≡ true
and_true {a} {b} p q = ap (λ x. x && b) p ∙ q

pub same_size_itself : (z : Size) → same_size z z ≡ true
same_size_itself sizes.Int = refl
same_size_itself sizes.Long = refl

-- ---- rules

pub only_if_good : (S : Setting) (c : Bool) (t : TypedNode) → (c ≡ true → IsGood S t)
    → GoodIf S (only_if c t)
only_if_good S true t h = h refl
only_if_good S false t h = tt

pub if_good : (S : Setting) (c : Bool) (x y : Option TypedNode) → (c ≡ true → GoodIf S x)
    → (c ≡ false → GoodIf S y) → GoodIf S (if c then x else y)
if_good S true x y h k = h refl
if_good S false x y h k = k refl

-- ---- what is made of a node

-- a node that is sound and of its type's size
pub typed_good : (S : Setting) (t : CType) (n : Node) → is_scalar t ≡ true
    → node_sound S n ≡ true → node_size S n ≡ Some (size_of t) → IsGood S (typed t n)
typed_good S t n h sound size = record {
  sound = sound;
  sized = size ∙ sym (scalar_size t h);
  zero = λ z. h;
}

-- one of a pointer's size
pub pointer_good : (S : Setting) (t : CType) (n : Node) → is_pointer t ≡ true
    → node_sound S n ≡ true → node_size S n ≡ Some sizes.Long → IsGood S (typed t n)
pointer_good S t n h sound size = typed_good S t n (pointer_scalar t h) sound
    (size ∙ ap (λ z. Some z) (sym (pointer_size t h)))

pub good_size : (S : Setting) (a : TypedNode) → IsGood S a → is_scalar a.type ≡ true
    → node_size S a.node ≡ Some (size_of a.type)
good_size S a g h = g.sized ∙ scalar_size a.type h

-- ---- operands

converted_has : (S : Setting) (n : Node) (c : Conversion) (from to : Size)
    → node_sound S n ≡ true → node_size S n ≡ Some from → can_convert c (Some from) ≡ true
    → size_after c (Some from) ≡ Some to → HasSize S (On n c) to
converted_has S n c from to sound size can after =
    record {
      sound = ap (λ b. b && can_convert c (node_size S n)) sound ∙ ap (λ z. can_convert c z) size
          ∙ can;
      size = ap (λ z. size_after c z) size ∙ after;
    }

pub as_is_has : (S : Setting) (a : TypedNode) → IsGood S a → is_scalar a.type ≡ true
    → HasSize S (as_is a) (size_of a.type)
as_is_has S a g h = converted_has S a.node Kept (size_of a.type) (size_of a.type) g.sound
    (good_size S a g h) refl refl

pub as_type_has : (S : Setting) (a : TypedNode) (t : CType) → IsGood S a
    → is_scalar a.type ≡ true → HasSize S (as_type t a) (size_of t)
as_type_has S a t g h =
    let m = conversion_makes a.type t in
    converted_has S a.node (conversion a.type t) (size_of a.type) (size_of t) g.sound
    (good_size S a g h) m.0 m.1

pub as_index_has : (S : Setting) (p : CType) (a : TypedNode) → IsGood S a
    → is_scalar a.type ≡ true → HasSize S (as_index p a) sizes.Long
as_index_has S p a g h =
    let m = scaled_makes a.type (bytes_in (pointed p)) in
    converted_has S a.node (scaled a.type (bytes_in (pointed p))) (size_of a.type) sizes.Long
    g.sound (good_size S a g h) m.0 m.1

pub resized : (S : Setting) (e : Expression) (y z : Size) → y ≡ z → HasSize S e y
    → HasSize S e z
resized S e y z h p = record { sound = p.sound; size = p.size ∙ ap (λ x. Some x) h }

-- a pointer is of 64 bits
pub pointer_has : (S : Setting) (a : TypedNode) → IsGood S a → is_pointer a.type ≡ true
    → HasSize S (as_is a) sizes.Long
pointer_has S a g h = resized S (as_is a) (size_of a.type) sizes.Long (pointer_size a.type h)
    (as_is_has S a g (pointer_scalar a.type h))

-- an operand that needs no value
pub as_is_sound : (S : Setting) (a : TypedNode) → IsGood S a
    → expression_sound S (as_is a) ≡ true
as_is_sound S a g = ap (λ b. b && true) g.sound

-- ---- tests of sizes

pub has_number : (S : Setting) (e : Expression) (z : Size) → HasSize S e z
    → is_number (expression_size S e) ≡ true
has_number S e z h = ap is_number h.size

pub has_size : (S : Setting) (e : Expression) (z : Size) → HasSize S e z
    → is_size z (expression_size S e) ≡ true
has_size S e z h = ap (is_size z) h.size ∙ same_size_itself z

pub alike_sizes : (x y : Option Size) (z : Size) → x ≡ Some z → y ≡ Some z → same_sizes x y ≡ true
alike_sizes x y z h k = ap (λ o. same_sizes o y) h ∙ ap (same_sizes (Some z)) k ∙ same_size_itself z

-- ---- operators with two operands

pub binary_has : (S : Setting) (o : Operation) (e f : Expression) (x y z : Size)
    → HasSize S e x → HasSize S f y → takes o (Some x) (Some y) ≡ Some z
    → (node_sound S (nodes.Binary o e f) ≡ true) × (node_size S (nodes.Binary o e f) ≡ Some z)
binary_has S o e f x y z p q h =
    let size : takes o (expression_size S e) (expression_size S f)
    ≡ Some z = ap (λ v. takes o v (expression_size S f)) p.size
    ∙ ap (λ v. takes o (Some x) v) q.size ∙ h in
    (and_true (and_true p.sound q.sound) (ap is_number size), size)

-- ---- lvalues

-- a node that has a value of its own place is read from there
pub with_lvalue_good : (S : Setting) (n : Node) (z : Option Size) (go : Lvalue → TypedNode)
    → node_sound S n ≡ true → node_size S n ≡ z
    → ((p : Lvalue) → lvalue_sound S p ≡ true → lvalue_size S p ≡ z → IsGood S (go p))
    → GoodIf S (with_lvalue (lvalue_of n) go)
with_lvalue_good S (nodes.Read p) z go sound size h = h p sound size
with_lvalue_good S other z go sound size h = tt
