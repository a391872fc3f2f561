-- What an operator makes of operands names no locals but theirs.
use Rattle.std.proofs.Common.{◌≡◌}
use Rattle.std.specs.Prelude.{Bool, true, false, ◌&&◌, ◌||◌, if◌then◌else◌, Option, Some, None}
use Rattle.c_checked.specs.Expression as nodes
use Rattle.c_resolved.specs.Words.{Node, Lvalue, Fixity, CType, Arithmetic, Comparison, BinaryOperator, UnaryOperator, Increment, TypedNode, only_if, as_is, as_type, can_become, is_additive, right_operand, on_integers, sum, difference, arithmetic_of, comparison_of, binary_of, lvalue_of, with_lvalue, address, unary_of, cast_of, element_of, assigned, compound_assigned, incremented, branch_type, as_branch, chosen, conditional_of, comma_of, is_shift, working_type, is_pointer, is_integer, is_void, is_sized_pointer, is_scalar, SeenNames, expression_within, lvalue_within, node_within}
use Rattle.c_checked.specs.Expression.{Expression}
use Rattle.c_syntax.specs.declared.operator.Arithmetic.TheVariants as arithmetic
use Rattle.c_syntax.specs.declared.operator.BinaryOperator.TheVariants as binary
use Rattle.c_syntax.specs.declared.operator.UnaryOperator.TheVariants as unary
use Rattle.c_resolved.proofs.Operands.{and_true}

abbrev pub IsWithin : SeenNames → TypedNode → Type 0
IsWithin seen t = node_within seen t.node ≡ true

-- nothing, or something that names no other locals than these
abbrev pub WithinIf : SeenNames → Option TypedNode → Type 0
WithinIf seen None = Unit {0}
WithinIf seen (Some t) = IsWithin seen t

within_if : (seen : SeenNames) (b : Bool) (x y : Option TypedNode) → WithinIf seen x
    → WithinIf seen y → WithinIf seen (if b then x else y)
within_if seen true x y h k = h
within_if seen false x y h k = k

within_only : (seen : SeenNames) (b : Bool) (t : TypedNode) → IsWithin seen t
    → WithinIf seen (only_if b t)
within_only seen true t h = h
within_only seen false t h = tt

either_within : (seen : SeenNames) (b : Bool) (x y : Expression) → expression_within seen x ≡ true
    → expression_within seen y ≡ true → expression_within seen (if b then x else y) ≡ true
either_within seen true x y h k = h
either_within seen false x y h k = k

right_within : (seen : SeenNames) (o : Arithmetic) (t : CType) (b : TypedNode) → IsWithin seen b
    → expression_within seen (right_operand o t b) ≡ true
right_within seen o t b h = either_within seen (is_shift o) (as_is b) (as_type t b) h h

branch_within : (seen : SeenNames) (t : CType) (a : TypedNode) → IsWithin seen a
    → expression_within seen (as_branch t a) ≡ true
branch_within seen t a h = either_within seen (is_void t) (as_is a) (as_type t a) h h

place_within : (seen : SeenNames) (x : Node) (go : Lvalue → TypedNode) → node_within seen x ≡ true
    → ((p : Lvalue) → lvalue_within seen p ≡ true → IsWithin seen (go p))
    → WithinIf seen (with_lvalue (lvalue_of x) go)
place_within seen (nodes.Read p) go h k = k p h
place_within seen other go h k = tt

address_within : (seen : SeenNames) (t : CType) (x : Node) → node_within seen x ≡ true
    → WithinIf seen (address t (lvalue_of x))
address_within seen t (nodes.Read p) h = h
address_within seen t other h = tt

-- ---- operators with two operands

module _ (seen : SeenNames) (a b : TypedNode) (p : IsWithin seen a) (q : IsWithin seen b) where
  on_integers_within : (o : Arithmetic) → WithinIf seen (on_integers o a b)
  on_integers_within o = within_only seen (is_integer a.type && is_integer b.type) _
      (and_true p (right_within seen o (working_type o a.type b.type) b q))

  sum_within : WithinIf seen (sum a b)
  sum_within =
      within_if seen (is_pointer a.type) _ _ (within_only seen
      (is_sized_pointer a.type && is_integer b.type) _ (and_true p q))
      (within_if seen (is_pointer b.type) _ _
      (within_only seen (is_sized_pointer b.type && is_integer a.type) _ (and_true p q))
      (on_integers_within arithmetic.Add))

  difference_within : WithinIf seen (difference a b)
  difference_within =
      within_if seen (is_pointer a.type && is_pointer b.type) _ _
      (within_only seen _ _ (and_true p q))
      (within_if seen (is_pointer a.type) _ _
      (within_only seen (is_sized_pointer a.type && is_integer b.type) _ (and_true p q))
      (on_integers_within arithmetic.Subtract))

  arithmetic_within : (o : Arithmetic) → WithinIf seen (arithmetic_of o a b)
  arithmetic_within arithmetic.Add = sum_within
  arithmetic_within arithmetic.Subtract = difference_within
  arithmetic_within o = on_integers_within o

  comparison_within : (c : Comparison) → WithinIf seen (comparison_of c a b)
  comparison_within c = within_if seen (is_pointer a.type || is_pointer b.type) _ _
      (within_only seen _ _ (and_true p q)) (within_only seen _ _ (and_true p q))

  pub binary_within : (o : BinaryOperator) → WithinIf seen (binary_of o a b)
  binary_within (binary.Arithmetic o) = arithmetic_within o
  binary_within (binary.Comparison c) = comparison_within c
  binary_within binary.LogicalAnd = within_only seen _ _ (and_true p q)
  binary_within binary.LogicalOr = within_only seen _ _ (and_true p q)

  pub element_within : WithinIf seen (element_of a b)
  element_within = within_only seen _ _ (and_true p q)

  pub assigned_within : WithinIf seen (assigned a b)
  assigned_within = within_if seen (can_become a.type b) _ _
      (place_within seen a.node _ p (λ x h. and_true h q)) tt

  pub compound_within : (o : Arithmetic) → WithinIf seen (compound_assigned o a b)
  compound_within o =
      within_if seen (is_pointer a.type) _ _
      (within_if seen (is_additive o && is_sized_pointer a.type && is_integer b.type) _ _
      (place_within seen a.node _ p (λ x h. and_true h q)) tt)
      (within_if seen (is_integer a.type && is_integer b.type) _ _
      (place_within seen a.node _ p (λ x h. and_true h
      (right_within seen o (working_type o a.type b.type) b q))) tt)

  pub comma_within : WithinIf seen (comma_of a b)
  comma_within = and_true p q

-- ---- operators with one operand

module _ (seen : SeenNames) (a : TypedNode) (p : IsWithin seen a) where
  pub incremented_within : (m : Fixity) (i : Increment) → WithinIf seen (incremented m i a)
  incremented_within m i =
      within_if seen (is_pointer a.type) _ _
      (within_if seen (is_sized_pointer a.type) _ _ (place_within seen a.node _ p (λ x h. h)) tt)
      (within_if seen (is_integer a.type) _ _ (place_within seen a.node _ p (λ x h. h)) tt)

  pub unary_within : (o : UnaryOperator) → WithinIf seen (unary_of o a)
  unary_within unary.Plus = within_only seen _ _ p
  unary_within unary.Minus = within_only seen _ _ p
  unary_within unary.Complement = within_only seen _ _ p
  unary_within unary.LogicalNot = within_only seen _ _ p
  unary_within unary.Indirection = within_only seen _ _ p
  unary_within unary.AddressOf = address_within seen a.type a.node p

  pub cast_within : (t : CType) → WithinIf seen (cast_of t a)
  cast_within t = within_only seen _ _ p

-- ---- the conditional operator

module _ (seen : SeenNames) (c a b : TypedNode) (o : IsWithin seen c) (p : IsWithin seen a)
    (q : IsWithin seen b) where
  chosen_within : (z : Option CType) → WithinIf seen (chosen c a b z)
  chosen_within None = tt
  chosen_within (Some z) = and_true (and_true o (branch_within seen z a p))
      (branch_within seen z b q)

  pub conditional_within : WithinIf seen (conditional_of c a b)
  conditional_within = within_if seen (is_scalar c.type) _ _ (chosen_within (branch_type a b)) tt
