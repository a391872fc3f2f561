-- What operators make of operands with types: the type and the node of the whole, where the rules
-- on types hold (C11, 6.5).
use Rattle.std.specs.Prelude.{Bool, true, false, ◌&&◌, ◌||◌, if◌then◌else◌, Option, Some, None}
use Rattle.c_operations.specs.declared.operation.Operation.{Operation}
use Rattle.c_operations.specs.declared.operation.Operation.TheVariants as operations
use Rattle.c_operations.specs.declared.operation.Pure.TheVariants as pures
use Rattle.c_operations.specs.declared.operation.Relation.{Relation}
use Rattle.c_operations.specs.declared.operation.Relation.TheVariants as relations
use Rattle.c_operations.specs.declared.operation.Size.{Size}
use Rattle.c_operations.specs.declared.operation.Size.TheVariants as sizes
use Rattle.c_operations.specs.declared.operation.Signedness.{Signedness}
use Rattle.c_operations.specs.declared.operation.Signedness.TheVariants as sorts
use Rattle.c_checked.specs.declared.expression.Conversion.TheVariants.{Kept}
use Rattle.c_checked.specs.declared.expression.Fixity.{Fixity}
use Rattle.c_checked.specs.Expression as nodes
use Rattle.c_checked.specs.Expression.{Expression, On, Node, Lvalue}
use Rattle.c_syntax.specs.declared.expression.Base.TheVariants.{Void, Int, LongLong}
use Rattle.c_syntax.specs.declared.expression.CType.{CType}
use Rattle.c_syntax.specs.declared.operator.Arithmetic.{Arithmetic}
use Rattle.c_syntax.specs.declared.operator.Arithmetic.TheVariants as arithmetic
use Rattle.c_syntax.specs.declared.operator.Comparison.{Comparison}
use Rattle.c_syntax.specs.declared.operator.Comparison.TheVariants as comparisons
use Rattle.c_syntax.specs.declared.operator.BinaryOperator.{BinaryOperator}
use Rattle.c_syntax.specs.declared.operator.BinaryOperator.TheVariants as binary
use Rattle.c_syntax.specs.declared.operator.UnaryOperator.{UnaryOperator}
use Rattle.c_syntax.specs.declared.operator.UnaryOperator.TheVariants as unary
use Rattle.c_syntax.specs.declared.operator.Increment.{Increment}
use Rattle.c_syntax.specs.declared.operator.Increment.TheVariants as increments
use Rattle.c_resolved.specs.Types.{plain, pointer_to, pointed, is_pointer, is_void, is_integer, is_scalar, is_void_pointer, is_sized_pointer, same_type, sort_of, access_of, size_of, bytes_in, promoted, common, conversion, scaled}

-- an expression without faults: its type, its node, and whether it is a literal 0
pub record TypedNode : Type 0 where
  pub type : CType
  pub node : Node
  pub zero : Bool

abbrev pub typed : CType → Node → TypedNode
typed t n = record { type = t; node = n; zero = false }

abbrev pub only_if : Bool → TypedNode → Option TypedNode
only_if true t = Some t
only_if false t = None

-- the value, as it is and as one of a type
abbrev pub as_is : TypedNode → Expression
as_is a = On a.node Kept

abbrev pub as_type : CType → TypedNode → Expression
as_type t a = On a.node (conversion a.type t)

abbrev pub as_index : CType → TypedNode → Expression
as_index p a = On a.node (scaled a.type (bytes_in (pointed p)))

abbrev pub int : CType
int = plain Int

-- ---- implicit conversion

abbrev pub can_become : CType → TypedNode → Bool
can_become t a =
    (is_integer a.type && is_integer t)
    || (is_pointer t && a.zero)
    || (is_pointer a.type && is_pointer t &&
    (same_type a.type t || is_void_pointer a.type || is_void_pointer t))

-- ---- operators on numbers

abbrev pub operation_of : Arithmetic → Signedness → Size → Operation
operation_of arithmetic.Multiply s z = operations.Pure (pures.Multiply z)
operation_of arithmetic.Divide s z = operations.Divide s z
operation_of arithmetic.Remainder s z = operations.Remainder s z
operation_of arithmetic.Add s z = operations.Pure (pures.Add z)
operation_of arithmetic.Subtract s z = operations.Pure (pures.Subtract z)
operation_of arithmetic.ShiftLeft s z = operations.Pure (pures.ShiftLeft z)
operation_of arithmetic.ShiftRight s z = operations.Pure (pures.ShiftRight s z)
operation_of arithmetic.And s z = operations.Pure (pures.And z)
operation_of arithmetic.ExclusiveOr s z = operations.Pure (pures.Xor z)
operation_of arithmetic.Or s z = operations.Pure (pures.Or z)

-- the operation in a type
abbrev pub operation_in : Arithmetic → CType → Operation
operation_in o t = operation_of o (sort_of t) (size_of t)

abbrev pub is_shift : Arithmetic → Bool
is_shift arithmetic.ShiftLeft = true
is_shift arithmetic.ShiftRight = true
is_shift other = false

-- the type in which two integers are worked on, and what becomes of the right one
abbrev pub working_type : Arithmetic → CType → CType → CType
working_type o a b = if is_shift o then promoted a else common a b

abbrev pub right_operand : Arithmetic → CType → TypedNode → Expression
right_operand o t b = if is_shift o then as_is b else as_type t b

abbrev pub on_integers : Arithmetic → TypedNode → TypedNode → Option TypedNode
on_integers o a b =
    let t = working_type o a.type b.type in
    only_if (is_integer a.type && is_integer b.type)
    (typed t (nodes.Binary (operation_in o t) (as_type t a) (right_operand o t b)))

-- ---- operators on pointers

abbrev pub long_operation : Arithmetic → Operation
long_operation o = operation_of o sorts.Unsigned sizes.Long

abbrev pub moved : Arithmetic → TypedNode → TypedNode → TypedNode
moved o p i = typed p.type (nodes.Binary (long_operation o) (as_is p) (as_index p.type i))

abbrev pub sum : TypedNode → TypedNode → Option TypedNode
sum a b =
    if is_pointer a.type then only_if (is_sized_pointer a.type && is_integer b.type)
    (moved arithmetic.Add a b)
    else if is_pointer b.type then only_if (is_sized_pointer b.type && is_integer a.type)
    (typed b.type (nodes.Binary (long_operation arithmetic.Add) (as_index b.type a)
    (as_is b)))
    else on_integers arithmetic.Add a b

abbrev pub difference : TypedNode → TypedNode → Option TypedNode
difference a b =
    if is_pointer a.type && is_pointer b.type
    then only_if (is_sized_pointer a.type && same_type a.type b.type)
    (typed (plain LongLong) (nodes.PointerDifference (bytes_in (pointed a.type)) (as_is a)
    (as_is b)))
    else if is_pointer a.type then only_if (is_sized_pointer a.type && is_integer b.type)
    (moved arithmetic.Subtract a b)
    else on_integers arithmetic.Subtract a b

abbrev pub arithmetic_of : Arithmetic → TypedNode → TypedNode → Option TypedNode
arithmetic_of arithmetic.Add a b = sum a b
arithmetic_of arithmetic.Subtract a b = difference a b
arithmetic_of o a b = on_integers o a b

-- ---- comparisons

abbrev pub relation_of : Comparison → Relation
relation_of comparisons.Less = relations.Less
relation_of comparisons.Greater = relations.Greater
relation_of comparisons.LessEqual = relations.LessOrEqual
relation_of comparisons.GreaterEqual = relations.GreaterOrEqual
relation_of comparisons.Equal = relations.Equal
relation_of comparisons.NotEqual = relations.NotEqual

abbrev pub compared : Comparison → CType → TypedNode → TypedNode → TypedNode
compared c t a b =
    typed int (nodes.Binary (operations.Pure (pures.Compare (relation_of c) (sort_of t)
    (size_of t))) (as_type t a) (as_type t b))

-- pointers of one type, one to void, or one and a literal 0
abbrev pub are_comparable : TypedNode → TypedNode → Bool
are_comparable a b =
    (is_pointer a.type && is_pointer b.type &&
    (same_type a.type b.type || is_void_pointer a.type || is_void_pointer b.type))
    || (is_pointer a.type && b.zero) || (is_pointer b.type && a.zero)

abbrev pub void_pointer : CType
void_pointer = pointer_to (plain Void)

abbrev pub comparison_of : Comparison → TypedNode → TypedNode → Option TypedNode
comparison_of c a b =
    if is_pointer a.type || is_pointer b.type
    then only_if (are_comparable a b) (compared c void_pointer a b)
    else only_if (is_integer a.type && is_integer b.type) (compared c (common a.type b.type) a b)

abbrev pub binary_of : BinaryOperator → TypedNode → TypedNode → Option TypedNode
binary_of (binary.Arithmetic o) a b = arithmetic_of o a b
binary_of (binary.Comparison c) a b = comparison_of c a b
binary_of binary.LogicalAnd a b =
    only_if (is_scalar a.type && is_scalar b.type) (typed int (nodes.And (as_is a) (as_is b)))
binary_of binary.LogicalOr a b =
    only_if (is_scalar a.type && is_scalar b.type) (typed int (nodes.Or (as_is a) (as_is b)))

-- ---- one operand

abbrev pub lvalue_of : Node → Option Lvalue
lvalue_of (nodes.Read p) = Some p
lvalue_of other = None

abbrev pub address : CType → Option Lvalue → Option TypedNode
address t None = None
address t (Some p) = Some (typed (pointer_to t) (nodes.AddressOf p))

abbrev pub unary_of : UnaryOperator → TypedNode → Option TypedNode
unary_of unary.Plus a =
    only_if (is_integer a.type) (typed (promoted a.type) (nodes.Unary pures.First (as_is a)))
unary_of unary.Minus a =
    only_if (is_integer a.type) (typed (promoted a.type)
    (nodes.Unary (pures.Negate (size_of (promoted a.type))) (as_is a)))
unary_of unary.Complement a =
    only_if (is_integer a.type) (typed (promoted a.type)
    (nodes.Unary (pures.Not (size_of (promoted a.type))) (as_is a)))
unary_of unary.LogicalNot a = only_if (is_scalar a.type) (typed int (nodes.Not (as_is a)))
unary_of unary.Indirection a =
    only_if (is_sized_pointer a.type)
    (typed (pointed a.type) (nodes.Read (nodes.Indirection (access_of (pointed a.type))
    (as_is a))))
unary_of unary.AddressOf a = address a.type (lvalue_of a.node)

abbrev pub cast_of : CType → TypedNode → Option TypedNode
cast_of t a =
    only_if (is_scalar t && is_scalar a.type) (typed t (nodes.Unary pures.First (as_type t a)))

abbrev pub element_of : TypedNode → TypedNode → Option TypedNode
element_of a i =
    only_if (is_sized_pointer a.type && is_integer i.type)
    (typed (pointed a.type) (nodes.Read (nodes.Element (access_of (pointed a.type)) (as_is a)
    (as_index a.type i))))

-- ---- changes of a place

abbrev pub with_lvalue : Option Lvalue → (Lvalue → TypedNode) → Option TypedNode
with_lvalue None go = None
with_lvalue (Some p) go = Some (go p)

abbrev pub assigned : TypedNode → TypedNode → Option TypedNode
assigned a b =
    if can_become a.type b then with_lvalue (lvalue_of a.node)
    (λ p. typed a.type (nodes.Assign p (as_type a.type b))) else None

abbrev pub is_additive : Arithmetic → Bool
is_additive arithmetic.Add = true
is_additive arithmetic.Subtract = true
is_additive other = false

abbrev pub compound_assigned : Arithmetic → TypedNode → TypedNode → Option TypedNode
compound_assigned o a b =
    if is_pointer a.type
    then (if is_additive o && is_sized_pointer a.type && is_integer b.type
    then with_lvalue (lvalue_of a.node)
    (λ p. typed a.type (nodes.CompoundAssign p Kept (long_operation o)
    (as_index a.type b) Kept)) else None)
    else (
    let t = working_type o a.type b.type in
    if is_integer a.type && is_integer b.type
    then with_lvalue (lvalue_of a.node)
    (λ p. typed a.type (nodes.CompoundAssign p (conversion a.type t) (operation_in o t)
    (right_operand o t b) (conversion t a.type)))
    else None)

abbrev pub increment_operator : Increment → Arithmetic
increment_operator increments.Increment = arithmetic.Add
increment_operator increments.Decrement = arithmetic.Subtract

-- `++e` is `e += 1`
abbrev pub incremented : Fixity → Increment → TypedNode → Option TypedNode
incremented m i a =
    if is_pointer a.type
    then (if is_sized_pointer a.type then with_lvalue (lvalue_of a.node)
    (λ p. typed a.type (nodes.Increment m p Kept (long_operation (increment_operator i))
    (bytes_in (pointed a.type)) Kept)) else None)
    else (if is_integer a.type then with_lvalue (lvalue_of a.node)
    (λ p. typed a.type (nodes.Increment m p Kept (operation_in (increment_operator i)
    (promoted a.type)) 1 (conversion (promoted a.type) a.type))) else None)

-- ---- conditional and comma

abbrev pub branch_type : TypedNode → TypedNode → Option CType
branch_type a b =
    if is_integer a.type && is_integer b.type then Some (common a.type b.type)
    else if is_void a.type && is_void b.type then Some (plain Void)
    else if is_pointer a.type && (same_type a.type b.type || b.zero) then Some a.type
    else if is_pointer b.type && a.zero then Some b.type
    else if is_pointer a.type && is_pointer b.type &&
    (is_void_pointer a.type || is_void_pointer b.type) then Some void_pointer
    else None

abbrev pub as_branch : CType → TypedNode → Expression
as_branch t a = if is_void t then as_is a else as_type t a

abbrev pub chosen : TypedNode → TypedNode → TypedNode → Option CType → Option TypedNode
chosen c a b None = None
chosen c a b (Some t) = Some (typed t (nodes.Conditional (as_is c) (as_branch t a) (as_branch t b)))

abbrev pub conditional_of : TypedNode → TypedNode → TypedNode → Option TypedNode
conditional_of c a b = if is_scalar c.type then chosen c a b (branch_type a b) else None

abbrev pub comma_of : TypedNode → TypedNode → Option TypedNode
comma_of a b = Some (typed b.type (nodes.Comma (as_is a) (as_is b)))
