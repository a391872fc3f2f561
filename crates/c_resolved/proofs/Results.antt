-- What operators make of good operands is good.
use Rattle.std.proofs.Common.{◌≡◌, ℕ, refl, ap, sym, ◌∙◌}
use Rattle.std.specs.Prelude.{Bool, true, false, not, ◌&&◌, ◌||◌, if◌then◌else◌, Option, Some}
use Rattle.c_resolved.specs.Words.{Operation, Signedness, Size, Conversion, Kept, Fixity, Lvalue, is_number, both, can_convert, size_after, constant_fits, amount_fits, change_fits, unary_takes, takes, LongLong, CType, Arithmetic, BinaryOperator, Comparison, Increment, UnaryOperator, plain, pointer_to, pointed, is_pointer, is_integer, is_scalar, is_void_pointer, is_sized_pointer, same_type, sort_of, width_of, access_of, size_of, bytes_in, promoted, common, conversion, TypedNode, typed, only_if, int, void_pointer, as_is, as_type, as_index, can_become, operation_of, operation_in, is_shift, working_type, right_operand, on_integers, long_operation, moved, sum, difference, arithmetic_of, relation_of, compared, are_comparable, comparison_of, binary_of, lvalue_of, with_lvalue, address, unary_of, cast_of, element_of, assigned, is_additive, compound_assigned, increment_operator, incremented, address_of, place_lvalue}
use Rattle.c_resolved.proofs.Settings.{node_size, node_sound, lvalue_size, expression_size, expression_sound, Setting}
use Rattle.c_operations.specs.declared.operation.Operation.TheVariants as operations
use Rattle.c_operations.specs.declared.operation.Pure.{Pure}
use Rattle.c_operations.specs.declared.operation.Pure.TheVariants as pures
use Rattle.c_operations.specs.declared.operation.Relation.{Relation}
use Rattle.c_operations.specs.declared.operation.Signedness.TheVariants as signs
use Rattle.c_operations.specs.declared.operation.Size.TheVariants as sizes
use Rattle.c_checked.specs.Expression as nodes
use Rattle.c_checked.specs.Sound as sound
use Rattle.c_checked.specs.Expression.{Expression}
use Rattle.c_syntax.specs.declared.operator.Arithmetic.TheVariants as arithmetic
use Rattle.c_syntax.specs.declared.operator.BinaryOperator.TheVariants as binary
use Rattle.c_syntax.specs.declared.operator.UnaryOperator.TheVariants as unary
use Rattle.c_resolved.proofs.Conversions.{and_left, and_right, conversion_makes}
use Rattle.c_resolved.proofs.TypeFacts.{size_in_memory_is, bytes_divide, bytes_fit, one_fits, pointer_size, pointer_scalar, integer_scalar, pointer_to_pointer, pointed_scalar, promoted_scalar, promoted_size, common_scalar, can_become_scalar, comparable_scalar}
use Rattle.c_resolved.proofs.Operands.{IsGood, GoodIf, HasSize, and_true, only_if_good, if_good, typed_good, pointer_good, good_size, as_is_has, as_type_has, as_index_has, resized, pointer_has, has_number, has_size, alike_sizes, binary_has, with_lvalue_good}

-- ---- operators on integers

-- both operands of one size, and for a shift a right one of any size
takes_alike : (o : Arithmetic) (s : Signedness) (z : Size)
    → takes (operation_of o s z) (Some z) (Some z) ≡ Some z
takes_alike arithmetic.Multiply s sizes.Int = refl
takes_alike o s sizes.Int = refl
takes_alike o s z = refl

takes_shift : (o : Arithmetic) (s : Signedness) (z y : Size) → is_shift o ≡ true
    → takes (operation_of o s z) (Some z) (Some y) ≡ Some z
takes_shift arithmetic.ShiftLeft s sizes.Int y h = refl
takes_shift arithmetic.ShiftLeft s sizes.Long y h = refl
takes_shift arithmetic.ShiftRight s sizes.Int y h = refl
takes_shift arithmetic.ShiftRight s sizes.Long y h = refl
takes_shift o s z y h = absurd (cc)

-- the right operand is of a size that the operation takes
right_has : (S : Setting) (o : Arithmetic) (t : CType) (b : TypedNode) → IsGood S b
    → is_scalar b.type ≡ true → (x : Bool) → is_shift o ≡ x
    → (y : Size) × HasSize S (if x then as_is b else as_type t b) y
    × (takes (operation_in o t) (Some (size_of t)) (Some y) ≡ Some (size_of t))
right_has S o t b g h true e = (
  size_of b.type,
  as_is_has S b g h,
  takes_shift o (sort_of t) (size_of t) (size_of b.type) e,
)
right_has S o t b g h false e = (
  size_of t,
  as_type_has S b t g h,
  takes_alike o (sort_of t) (size_of t),
)

working_scalar : (o : Arithmetic) (a b : CType) → is_integer a ≡ true → is_integer b ≡ true
    → is_scalar (working_type o a b) ≡ true
working_scalar o a b h k = by_shift (is_shift o)
  where
    by_shift : (x : Bool) → is_scalar (if x then promoted a else common a b) ≡ true
    by_shift true = promoted_scalar a h
    by_shift false = common_scalar a b h k

pub integers_good : (S : Setting) (o : Arithmetic) (a b : TypedNode) → IsGood S a → IsGood S b
    → GoodIf S (on_integers o a b)
integers_good S o a b g h =
    let t = working_type o a.type b.type in
    only_if_good S (is_integer a.type && is_integer b.type)
    (typed t (nodes.Binary (operation_in o t) (as_type t a) (right_operand o t b))) λ e.
    let p = and_left (is_integer a.type) (is_integer b.type) e in
    let q = and_right (is_integer a.type) (is_integer b.type) e in
    let r = right_has S o t b h (integer_scalar b.type q) (is_shift o) refl in
    let n = binary_has S (operation_in o t) (as_type t a) (right_operand o t b) (size_of t) r.0
    (size_of t) (as_type_has S a t g (integer_scalar a.type p)) r.1 r.2 in
    typed_good S t (nodes.Binary (operation_in o t) (as_type t a) (right_operand o t b))
    (working_scalar o a.type b.type p q) n.0 n.1

-- ---- operators on pointers

sized_is_pointer : (t : CType) → is_sized_pointer t ≡ true → is_pointer t ≡ true
sized_is_pointer t h = and_left (is_pointer t) (not (is_void_pointer t)) h

-- of two operands of 64 bits
long_has : (S : Setting) (o : Arithmetic) (e f : Expression) → HasSize S e sizes.Long
    → HasSize S f sizes.Long
    → (node_sound S (nodes.Binary (long_operation o) e f) ≡ true)
    × (node_size S (nodes.Binary (long_operation o) e f) ≡ Some sizes.Long)
long_has S o e f p q = binary_has S (long_operation o) e f sizes.Long sizes.Long sizes.Long p q
    (takes_alike o signs.Unsigned sizes.Long)

-- a pointer and an index
pointed_has : (S : Setting) (p i : TypedNode) → IsGood S p → IsGood S i
    → (is_sized_pointer p.type && is_integer i.type) ≡ true
    → (is_pointer p.type ≡ true) × HasSize S (as_is p) sizes.Long
    × HasSize S (as_index p.type i) sizes.Long
pointed_has S p i g h e =
    let pointer = sized_is_pointer p.type (and_left (is_sized_pointer p.type) (is_integer i.type)
    e) in (
      pointer,
      pointer_has S p g pointer,
      as_index_has S p.type i h
          (integer_scalar i.type (and_right (is_sized_pointer p.type) (is_integer i.type) e)),
    )

moved_good : (S : Setting) (o : Arithmetic) (p i : TypedNode) → IsGood S p → IsGood S i
    → (is_sized_pointer p.type && is_integer i.type) ≡ true → IsGood S (moved o p i)
moved_good S o p i g h e =
    let r = pointed_has S p i g h e in
    let n = long_has S o (as_is p) (as_index p.type i) r.1 r.2 in
    pointer_good S p.type (nodes.Binary (long_operation o) (as_is p) (as_index p.type i)) r.0 n.0
    n.1

abbrev index_first : TypedNode → TypedNode → TypedNode
index_first i p = typed p.type (nodes.Binary (long_operation arithmetic.Add) (as_index p.type i)
    (as_is p))

index_first_good : (S : Setting) (p i : TypedNode) → IsGood S p → IsGood S i
    → (is_sized_pointer p.type && is_integer i.type) ≡ true → IsGood S (index_first i p)
index_first_good S p i g h e =
    let r = pointed_has S p i g h e in
    let n = long_has S arithmetic.Add (as_index p.type i) (as_is p) r.2 r.1 in
    pointer_good S p.type (nodes.Binary (long_operation arithmetic.Add) (as_index p.type i)
    (as_is p)) r.0 n.0 n.1

sum_good : (S : Setting) (a b : TypedNode) → IsGood S a → IsGood S b → GoodIf S (sum a b)
sum_good S a b g h =
    if_good S (is_pointer a.type) _ _
    (λ p. only_if_good S (is_sized_pointer a.type && is_integer b.type) (moved arithmetic.Add a b)
    (λ e. moved_good S arithmetic.Add a b g h e))
    (λ p. if_good S (is_pointer b.type) _ _
    (λ q. only_if_good S (is_sized_pointer b.type && is_integer a.type) (index_first a b)
    (λ e. index_first_good S b a h g e))
    (λ q. integers_good S arithmetic.Add a b g h))

apart_good : (S : Setting) (a b : TypedNode) → IsGood S a → IsGood S b
    → is_pointer a.type ≡ true → is_pointer b.type ≡ true
    → IsGood S (typed (plain LongLong) (nodes.PointerDifference (bytes_in (pointed a.type))
    (as_is a) (as_is b)))
apart_good S a b g h p q =
    let x = pointer_has S a g p in
    let y = pointer_has S b h q in
    typed_good S (plain LongLong) (nodes.PointerDifference (bytes_in (pointed a.type)) (as_is a)
    (as_is b)) refl
    (and_true (and_true (and_true (and_true x.sound y.sound) (has_size S (as_is a) sizes.Long x))
    (has_size S (as_is b) sizes.Long y)) (bytes_divide (width_of (pointed a.type)))) refl

difference_good : (S : Setting) (a b : TypedNode) → IsGood S a → IsGood S b
    → GoodIf S (difference a b)
difference_good S a b g h =
    if_good S (is_pointer a.type && is_pointer b.type) _ _
    (λ p. only_if_good S (is_sized_pointer a.type && same_type a.type b.type)
    (typed (plain LongLong) (nodes.PointerDifference (bytes_in (pointed a.type)) (as_is a)
    (as_is b)))
    (λ e. apart_good S a b g h (and_left (is_pointer a.type) (is_pointer b.type) p)
    (and_right (is_pointer a.type) (is_pointer b.type) p)))
    (λ p. if_good S (is_pointer a.type) _ _
    (λ q. only_if_good S (is_sized_pointer a.type && is_integer b.type)
    (moved arithmetic.Subtract a b) (λ e. moved_good S arithmetic.Subtract a b g h e))
    (λ q. integers_good S arithmetic.Subtract a b g h))

arithmetic_good : (S : Setting) (o : Arithmetic) (a b : TypedNode) → IsGood S a → IsGood S b
    → GoodIf S (arithmetic_of o a b)
arithmetic_good S arithmetic.Add a b g h = sum_good S a b g h
arithmetic_good S arithmetic.Subtract a b g h = difference_good S a b g h
arithmetic_good S o a b g h = integers_good S o a b g h

-- ---- comparisons

takes_compared : (r : Relation) (s : Signedness) (z : Size)
    → takes (operations.Pure (pures.Compare r s z)) (Some z) (Some z) ≡ Some sizes.Int
takes_compared r s sizes.Int = refl
takes_compared r s sizes.Long = refl

compared_good : (S : Setting) (c : Comparison) (t : CType) (a b : TypedNode) → IsGood S a
    → IsGood S b → is_scalar a.type ≡ true → is_scalar b.type ≡ true → IsGood S (compared c t a b)
compared_good S c t a b g h p q =
    let o = operations.Pure (pures.Compare (relation_of c) (sort_of t) (size_of t)) in
    let n = binary_has S o (as_type t a) (as_type t b) (size_of t) (size_of t) sizes.Int
    (as_type_has S a t g p) (as_type_has S b t h q)
    (takes_compared (relation_of c) (sort_of t) (size_of t)) in
    typed_good S int (nodes.Binary o (as_type t a) (as_type t b)) refl n.0 n.1

comparison_good : (S : Setting) (c : Comparison) (a b : TypedNode) → IsGood S a → IsGood S b
    → GoodIf S (comparison_of c a b)
comparison_good S c a b g h =
    if_good S (is_pointer a.type || is_pointer b.type) _ _
    (λ p. only_if_good S (are_comparable a b) (compared c void_pointer a b)
    (λ e. let r = comparable_scalar a b g.zero h.zero e in
    compared_good S c void_pointer a b g h r.0 r.1))
    (λ p. only_if_good S (is_integer a.type && is_integer b.type)
    (compared c (common a.type b.type) a b)
    (λ e. compared_good S c (common a.type b.type) a b g h
    (integer_scalar a.type (and_left (is_integer a.type) (is_integer b.type) e))
    (integer_scalar b.type (and_right (is_integer a.type) (is_integer b.type) e))))

-- ---- `&&` and `||`

both_scalar : (S : Setting) (a b : TypedNode) → IsGood S a → IsGood S b
    → (is_scalar a.type && is_scalar b.type) ≡ true
    → (expression_sound S (as_is a) && expression_sound S (as_is b)
    && both (expression_size S (as_is a)) (expression_size S (as_is b))) ≡ true
both_scalar S a b g h e =
    let p = as_is_has S a g (and_left (is_scalar a.type) (is_scalar b.type) e) in
    let q = as_is_has S b h (and_right (is_scalar a.type) (is_scalar b.type) e) in
    and_true (and_true p.sound q.sound) (and_true (has_number S (as_is a) (size_of a.type) p)
    (has_number S (as_is b) (size_of b.type) q))

pub binary_good : (S : Setting) (o : BinaryOperator) (a b : TypedNode) → IsGood S a
    → IsGood S b → GoodIf S (binary_of o a b)
binary_good S (binary.Arithmetic o) a b g h = arithmetic_good S o a b g h
binary_good S (binary.Comparison c) a b g h = comparison_good S c a b g h
binary_good S binary.LogicalAnd a b g h =
    only_if_good S (is_scalar a.type && is_scalar b.type)
    (typed int (nodes.And (as_is a) (as_is b))) λ e. typed_good S int
    (nodes.And (as_is a) (as_is b)) refl (both_scalar S a b g h e) refl
binary_good S binary.LogicalOr a b g h =
    only_if_good S (is_scalar a.type && is_scalar b.type)
    (typed int (nodes.Or (as_is a) (as_is b))) λ e. typed_good S int
    (nodes.Or (as_is a) (as_is b)) refl (both_scalar S a b g h e) refl

-- ---- one operand

abbrev IsChange : Pure → Size → Type 0
IsChange o z = unary_takes o (Some z) ≡ Some z

takes_itself : (z : Size) → (unary_takes (pures.Negate z) (Some z) ≡ Some z)
    × (unary_takes (pures.Not z) (Some z) ≡ Some z)
takes_itself sizes.Int = (refl, refl)
takes_itself sizes.Long = (refl, refl)

unary_has : (S : Setting) (o : Pure) (e : Expression) (y z : Size) → HasSize S e y
    → unary_takes o (Some y) ≡ Some z → (node_sound S (nodes.Unary o e) ≡ true)
    × (node_size S (nodes.Unary o e) ≡ Some z)
unary_has S o e y z p h =
    let size : unary_takes o (expression_size S e) ≡ Some z = ap (unary_takes o) p.size ∙ h in
    (and_true p.sound (ap is_number size), size)

-- an operator on a promoted integer
promoted_good : (S : Setting) (o : Pure) (a : TypedNode) → IsGood S a
    → IsChange o (size_of (promoted a.type)) → GoodIf S
    (only_if (is_integer a.type) (typed (promoted a.type) (nodes.Unary o (as_is a))))
promoted_good S o a g c =
    only_if_good S (is_integer a.type) (typed (promoted a.type) (nodes.Unary o (as_is a))) λ e.
    let h = resized S (as_is a) (size_of a.type) (size_of (promoted a.type))
    (sym (promoted_size a.type e)) (as_is_has S a g (integer_scalar a.type e)) in
    let n = unary_has S o (as_is a) (size_of (promoted a.type)) (size_of (promoted a.type)) h c in
    typed_good S (promoted a.type) (nodes.Unary o (as_is a)) (promoted_scalar a.type e) n.0 n.1

indirection_good : (S : Setting) (a : TypedNode) → IsGood S a
    → GoodIf S (unary_of unary.Indirection a)
indirection_good S a g =
    let place = nodes.Indirection (access_of (pointed a.type)) (as_is a) in
    only_if_good S (is_sized_pointer a.type) (typed (pointed a.type) (nodes.Read place)) λ e.
    let p = pointer_has S a g (sized_is_pointer a.type e) in
    typed_good S (pointed a.type) (nodes.Read place) (pointed_scalar a.type e)
    (and_true p.sound (has_size S (as_is a) sizes.Long p))
    (ap (λ z. Some z) (size_in_memory_is (width_of (pointed a.type))))

-- the address of what is in memory, or no address
placed_address : (S : Setting) (q : Lvalue) → sound.lvalue_sound S.around q ≡ true
    → (sound.node_sound S.around (address_of q) ≡ true)
    × (sound.node_size S.around (address_of q) ≡ Some sizes.Long)
placed_address S (nodes.Local x) h = (refl, refl)
placed_address S q h = (and_true h refl, refl)

address_good : (S : Setting) (t : CType) (n : nodes.Node) → node_sound S n ≡ true
    → GoodIf S (address t (lvalue_of n))
address_good S t (nodes.Read p) h =
    let q = placed_address S (place_lvalue S.layout p) h in
    pointer_good S (pointer_to t) (nodes.AddressOf p) (pointer_to_pointer t) q.0 q.1
address_good S t other h = tt

pub unary_good : (S : Setting) (o : UnaryOperator) (a : TypedNode) → IsGood S a
    → GoodIf S (unary_of o a)
unary_good S unary.Plus a g = promoted_good S pures.First a g refl
unary_good S unary.Minus a g = promoted_good S (pures.Negate (size_of (promoted a.type))) a g
    (takes_itself (size_of (promoted a.type))).0
unary_good S unary.Complement a g = promoted_good S (pures.Not (size_of (promoted a.type))) a g
    (takes_itself (size_of (promoted a.type))).1
unary_good S unary.LogicalNot a g =
    only_if_good S (is_scalar a.type) (typed int (nodes.Not (as_is a))) λ e.
    let p = as_is_has S a g e in
    typed_good S int (nodes.Not (as_is a)) refl
    (and_true p.sound (has_number S (as_is a) (size_of a.type) p)) refl
unary_good S unary.Indirection a g = indirection_good S a g
unary_good S unary.AddressOf a g = address_good S a.type a.node g.sound

pub cast_good : (S : Setting) (t : CType) (a : TypedNode) → IsGood S a
    → GoodIf S (cast_of t a)
cast_good S t a g =
    only_if_good S (is_scalar t && is_scalar a.type)
    (typed t (nodes.Unary pures.First (as_type t a))) λ e.
    let n = unary_has S pures.First (as_type t a) (size_of t) (size_of t)
    (as_type_has S a t g (and_right (is_scalar t) (is_scalar a.type) e)) refl in
    typed_good S t (nodes.Unary pures.First (as_type t a))
    (and_left (is_scalar t) (is_scalar a.type) e) n.0 n.1

pub element_good : (S : Setting) (a i : TypedNode) → IsGood S a → IsGood S i
    → GoodIf S (element_of a i)
element_good S a i g h =
    let place = nodes.Element (access_of (pointed a.type)) (as_is a) (as_index a.type i) in
    only_if_good S (is_sized_pointer a.type && is_integer i.type)
    (typed (pointed a.type) (nodes.Read place)) λ e.
    let r = pointed_has S a i g h e in
    typed_good S (pointed a.type) (nodes.Read place)
    (pointed_scalar a.type (and_left (is_sized_pointer a.type) (is_integer i.type) e))
    (and_true (and_true (and_true r.1.sound r.2.sound) (has_size S (as_is a) sizes.Long r.1))
    (has_size S (as_index a.type i) sizes.Long r.2))
    (ap (λ z. Some z) (size_in_memory_is (width_of (pointed a.type))))

-- ---- changes of a place

pub assigned_good : (S : Setting) (a b : TypedNode) → IsGood S a → IsGood S b
    → GoodIf S (assigned a b)
assigned_good S a b g h =
    if_good S (can_become a.type b) _ _
    (λ e.
    let s = can_become_scalar a.type b h.zero e in
    let v = as_type_has S b a.type h s.0 in
    with_lvalue_good S a.node (Some (size_of a.type))
    (λ p. typed a.type (nodes.Assign p (as_type a.type b))) g.sound (good_size S a g s.1)
    (λ p sound size. typed_good S a.type (nodes.Assign p (as_type a.type b)) s.1
    (and_true (and_true sound v.sound) (alike_sizes (expression_size S (as_type a.type b))
    (lvalue_size S p) (size_of a.type) v.size size)) size))
    (λ e. tt)

-- a value of a size is changed in another, and is of its own size again
change_has : (place amount : Option Size) (before after : Conversion) (o : Operation) (x y z : Size)
    → place ≡ Some x → amount ≡ Some z
    → can_convert before (Some x) ≡ true → size_after before (Some x) ≡ Some y
    → takes o (Some y) (Some z) ≡ Some y → can_convert after (Some y) ≡ true
    → size_after after (Some y) ≡ Some x
    → change_fits place before o amount after ≡ true
change_has place amount before after o x y z p q b s t c u =
    let result : takes o (size_after before place) amount
    ≡ Some y = ap (λ v. takes o (size_after before v) amount) p ∙ ap (λ v. takes o v amount) s
    ∙ ap (takes o (Some y)) q ∙ t in
    and_true
    (and_true (and_true (ap (can_convert before) p ∙ b) (ap is_number result))
    (ap (can_convert after) result ∙ c))
    (alike_sizes (size_after after (takes o (size_after before place) amount)) place x
    (ap (size_after after) result ∙ u) p)

moved_place_good : (S : Setting) (o : Arithmetic) (a b : TypedNode) → IsGood S a → IsGood S b
    → (is_sized_pointer a.type && is_integer b.type) ≡ true
    → GoodIf S (with_lvalue (lvalue_of a.node)
    (λ p. typed a.type (nodes.CompoundAssign p Kept (long_operation o) (as_index a.type b) Kept)))
moved_place_good S o a b g h e =
    let r = pointed_has S a b g h e in
    let size : node_size S a.node ≡ Some sizes.Long = good_size S a g (pointer_scalar a.type r.0)
    ∙ ap (λ z. Some z) (pointer_size a.type r.0) in
    with_lvalue_good S a.node (Some sizes.Long)
    (λ p. typed a.type (nodes.CompoundAssign p Kept (long_operation o) (as_index a.type b) Kept))
    g.sound size
    (λ p sound sized. pointer_good S a.type (nodes.CompoundAssign p Kept (long_operation o)
    (as_index a.type b) Kept) r.0
    (and_true (and_true sound r.2.sound)
    (change_has (lvalue_size S p) (expression_size S (as_index a.type b)) Kept Kept
    (long_operation o) sizes.Long sizes.Long sizes.Long sized r.2.size refl refl
    (takes_alike o signs.Unsigned sizes.Long) refl refl))
    sized)

worked_place_good : (S : Setting) (o : Arithmetic) (a b : TypedNode) → IsGood S a → IsGood S b
    → is_integer a.type ≡ true → is_integer b.type ≡ true
    → (t : CType) → GoodIf S (with_lvalue (lvalue_of a.node)
    (λ p. typed a.type (nodes.CompoundAssign p (conversion a.type t) (operation_in o t)
    (right_operand o t b) (conversion t a.type))))
worked_place_good S o a b g h p q t =
    let scalar = integer_scalar a.type p in
    let r = right_has S o t b h (integer_scalar b.type q) (is_shift o) refl in
    let there = conversion_makes a.type t in
    let back = conversion_makes t a.type in
    with_lvalue_good S a.node (Some (size_of a.type))
    (λ x. typed a.type (nodes.CompoundAssign x (conversion a.type t) (operation_in o t)
    (right_operand o t b) (conversion t a.type))) g.sound (good_size S a g scalar)
    (λ x sound sized. typed_good S a.type (nodes.CompoundAssign x (conversion a.type t)
    (operation_in o t) (right_operand o t b) (conversion t a.type)) scalar
    (and_true (and_true sound r.1.sound)
    (change_has (lvalue_size S x) (expression_size S (right_operand o t b)) (conversion a.type t)
    (conversion t a.type) (operation_in o t) (size_of a.type) (size_of t) r.0 sized r.1.size
    there.0 there.1 r.2 back.0 back.1))
    sized)

-- a test of three parts, without the first
additive_parts : (x y z : Bool) → (x && y && z) ≡ true → (y && z) ≡ true
additive_parts true y z h = h
additive_parts false y z h = absurd (cc)

pub compound_assigned_good : (S : Setting) (o : Arithmetic) (a b : TypedNode) → IsGood S a
    → IsGood S b → GoodIf S (compound_assigned o a b)
compound_assigned_good S o a b g h =
    if_good S (is_pointer a.type) _ _
    (λ p. if_good S (is_additive o && is_sized_pointer a.type && is_integer b.type) _ _
    (λ e. moved_place_good S o a b g h (additive_parts (is_additive o) (is_sized_pointer a.type)
    (is_integer b.type) e))
    (λ e. tt))
    (λ p. if_good S (is_integer a.type && is_integer b.type) _ _
    (λ e. worked_place_good S o a b g h (and_left (is_integer a.type) (is_integer b.type) e)
    (and_right (is_integer a.type) (is_integer b.type) e) (working_type o a.type b.type))
    (λ e. tt))

increment_place_good : (S : Setting) (m : Fixity) (o : Operation) (n : ℕ) (after : Conversion)
    (y : Size) (a : TypedNode) → IsGood S a → is_scalar a.type ≡ true → size_of a.type ≡ y
    → takes o (Some y) (Some y) ≡ Some y → can_convert after (Some y) ≡ true
    → size_after after (Some y) ≡ Some (size_of a.type) → constant_fits y n ≡ true
    → GoodIf S (with_lvalue (lvalue_of a.node)
    (λ p. typed a.type (nodes.Increment m p Kept o n after)))
increment_place_good S m o n after y a g scalar same t c u small =
    with_lvalue_good S a.node (Some (size_of a.type))
    (λ p. typed a.type (nodes.Increment m p Kept o n after)) g.sound (good_size S a g scalar)
    (λ p sound sized. typed_good S a.type (nodes.Increment m p Kept o n after) scalar
    (and_true
    (and_true sound
    (change_has (lvalue_size S p) (lvalue_size S p) Kept after o (size_of a.type) y y sized
    (sized ∙ ap (λ z. Some z) same) refl (ap (λ z. Some z) same) t c u))
    (ap (λ z. amount_fits z n) (sized ∙ ap (λ z. Some z) same) ∙ small))
    sized)

pub incremented_good : (S : Setting) (m : Fixity) (i : Increment) (a : TypedNode) → IsGood S a
    → GoodIf S (incremented m i a)
incremented_good S m i a g =
    if_good S (is_pointer a.type) _ _
    (λ p. if_good S (is_sized_pointer a.type) _ _
    (λ e. increment_place_good S m (long_operation (increment_operator i))
    (bytes_in (pointed a.type)) Kept sizes.Long a g (pointer_scalar a.type p)
    (pointer_size a.type p)
    (takes_alike (increment_operator i) signs.Unsigned sizes.Long) refl
    (ap (λ z. Some z) (sym (pointer_size a.type p))) (bytes_fit (width_of (pointed a.type))))
    (λ e. tt))
    (λ p. if_good S (is_integer a.type) _ _
    (λ e.
    let t = promoted a.type in
    let back = conversion_makes t a.type in
    increment_place_good S m (operation_in (increment_operator i) t) 1 (conversion t a.type)
    (size_of t) a g (integer_scalar a.type e) (sym (promoted_size a.type e))
    (takes_alike (increment_operator i) (sort_of t) (size_of t)) back.0 back.1
    (one_fits (size_of t)))
    (λ e. tt))
