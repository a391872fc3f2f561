-- What an operator makes of operands is nested one deeper than they are.
use Rattle.std.proofs.Common.{◌≡◌, ℕ, ◌+◌, ◌≤◌, refl, arith}
use Rattle.std.specs.Prelude.{Bool, true, false, ◌&&◌, ◌||◌, if◌then◌else◌, Option, Some, None}
use Rattle.c_checked.specs.Expression as nodes
use Rattle.text_bounds.specs.Words.{Expression, Node, Lvalue, Fixity, CType, Arithmetic, Comparison, BinaryOperator, UnaryOperator, Increment, TypedNode, only_if, as_is, as_type, can_become, is_additive, right_operand, on_integers, sum, difference, arithmetic_of, comparison_of, binary_of, lvalue_of, with_lvalue, address, unary_of, cast_of, element_of, assigned, compound_assigned, incremented, branch_type, as_branch, chosen, conditional_of, comma_of, is_shift, working_type, is_pointer, is_integer, is_void, is_sized_pointer, is_scalar, expression_nesting, node_nesting, expression_reads, node_reads, lvalue_nesting, lvalue_reads}
use Rattle.c_syntax.specs.declared.operator.Arithmetic.TheVariants as arithmetic
use Rattle.c_syntax.specs.declared.operator.BinaryOperator.TheVariants as binary
use Rattle.c_syntax.specs.declared.operator.UnaryOperator.TheVariants as unary

abbrev pub nesting : TypedNode → ℕ
nesting t = node_nesting t.node

abbrev pub reads : TypedNode → ℕ
reads t = node_reads t.node

-- nothing, or something that is nested at most so deep and names a parameter among fifteen at most
abbrev pub IsShallowIn : ℕ → TypedNode → Type 0
IsShallowIn n t = (nesting t ≤ n) × (reads t ≤ 15)

abbrev pub ShallowIf : ℕ → Option TypedNode → Type 0
ShallowIf n None = Unit {0}
ShallowIf n (Some t) = IsShallowIn n t

shallow_if : (n : ℕ) (b : Bool) (x y : Option TypedNode) → ShallowIf n x → ShallowIf n y
    → ShallowIf n (if b then x else y)
shallow_if n true x y h k = h
shallow_if n false x y h k = k

shallow_only : (n : ℕ) (b : Bool) (t : TypedNode) → IsShallowIn n t → ShallowIf n (only_if b t)
shallow_only n true t h = h
shallow_only n false t h = tt

pub deeper : (m n : ℕ) (o : Option TypedNode) → m ≤ n → ShallowIf m o → ShallowIf n o
deeper m n None le h = tt
deeper m n (Some t) le h = let p = h.0 in (omega arith, h.1)

of_either : (f : Expression → ℕ) (b : Bool) (x y : Expression) (w : ℕ) → f x ≡ w → f y ≡ w
    → f (if b then x else y) ≡ w
of_either f true x y w e g = e
of_either f false x y w e g = g

right_nesting : (o : Arithmetic) (t : CType) (b : TypedNode)
    → expression_nesting (right_operand o t b) ≡ nesting b
right_nesting o t b = of_either expression_nesting (is_shift o) (as_is b) (as_type t b) (nesting b)
    refl refl

right_reads : (o : Arithmetic) (t : CType) (b : TypedNode)
    → expression_reads (right_operand o t b) ≡ reads b
right_reads o t b = of_either expression_reads (is_shift o) (as_is b) (as_type t b) (reads b) refl
    refl

branch_nesting : (t : CType) (a : TypedNode) → expression_nesting (as_branch t a) ≡ nesting a
branch_nesting t a = of_either expression_nesting (is_void t) (as_is a) (as_type t a) (nesting a)
    refl refl

branch_reads : (t : CType) (a : TypedNode) → expression_reads (as_branch t a) ≡ reads a
branch_reads t a = of_either expression_reads (is_void t) (as_is a) (as_type t a) (reads a) refl
    refl

place_shallow : (x : Node) (go : Lvalue → TypedNode) (n : ℕ)
    → ((p : Lvalue) → node_nesting x ≡ lvalue_nesting p → node_reads x ≡ lvalue_reads p
    → IsShallowIn n (go p)) → ShallowIf n (with_lvalue (lvalue_of x) go)
place_shallow (nodes.Read p) go n h = h p refl refl
place_shallow other go n h = tt

address_shallow : (t : CType) (x : Node) (n : ℕ) → 1 + node_nesting x ≤ n → node_reads x ≤ 15
    → ShallowIf n (address t (lvalue_of x))
address_shallow t (nodes.Read p) n le r = (le, r)
address_shallow t other n le r = tt

-- ---- operators with two operands

module _ (n : ℕ) (a b : TypedNode) (p : 1 + nesting a ≤ n) (q : 1 + nesting b ≤ n)
    (r : reads a ≤ 15) (s : reads b ≤ 15) where
  on_integers_shallow : (o : Arithmetic) → ShallowIf n (on_integers o a b)
  on_integers_shallow o =
      let e = right_nesting o (working_type o a.type b.type) b in
      let g = right_reads o (working_type o a.type b.type) b in
      shallow_only n (is_integer a.type && is_integer b.type) _ (omega arith, omega arith)

  sum_shallow : ShallowIf n (sum a b)
  sum_shallow =
      shallow_if n (is_pointer a.type) _ _ (shallow_only n
      (is_sized_pointer a.type && is_integer b.type) _ (omega arith, omega arith))
      (shallow_if n (is_pointer b.type) _ _ (shallow_only n
      (is_sized_pointer b.type && is_integer a.type) _ (omega arith, omega arith))
      (on_integers_shallow arithmetic.Add))

  difference_shallow : ShallowIf n (difference a b)
  difference_shallow =
      shallow_if n (is_pointer a.type && is_pointer b.type) _ _
      (shallow_only n _ _ (omega arith, omega arith))
      (shallow_if n (is_pointer a.type) _ _ (shallow_only n
      (is_sized_pointer a.type && is_integer b.type) _ (omega arith, omega arith))
      (on_integers_shallow arithmetic.Subtract))

  arithmetic_shallow : (o : Arithmetic) → ShallowIf n (arithmetic_of o a b)
  arithmetic_shallow arithmetic.Add = sum_shallow
  arithmetic_shallow arithmetic.Subtract = difference_shallow
  arithmetic_shallow o = on_integers_shallow o

  comparison_shallow : (c : Comparison) → ShallowIf n (comparison_of c a b)
  comparison_shallow c = shallow_if n (is_pointer a.type || is_pointer b.type) _ _
      (shallow_only n _ _ (omega arith, omega arith))
      (shallow_only n _ _ (omega arith, omega arith))

  pub binary_shallow : (o : BinaryOperator) → ShallowIf n (binary_of o a b)
  binary_shallow (binary.Arithmetic o) = arithmetic_shallow o
  binary_shallow (binary.Comparison c) = comparison_shallow c
  binary_shallow binary.LogicalAnd = shallow_only n _ _ (omega arith, omega arith)
  binary_shallow binary.LogicalOr = shallow_only n _ _ (omega arith, omega arith)

  pub element_shallow : ShallowIf n (element_of a b)
  element_shallow = shallow_only n _ _ (omega arith, omega arith)

  pub assigned_shallow : ShallowIf n (assigned a b)
  assigned_shallow = shallow_if n (can_become a.type b) _ _
      (place_shallow a.node _ n (λ x e g. (omega arith, omega arith))) tt

  pub compound_shallow : (o : Arithmetic) → ShallowIf n (compound_assigned o a b)
  compound_shallow o =
      let e' = right_nesting o (working_type o a.type b.type) b in
      let g' = right_reads o (working_type o a.type b.type) b in
      shallow_if n (is_pointer a.type) _ _
      (shallow_if n (is_additive o && is_sized_pointer a.type && is_integer b.type) _ _
      (place_shallow a.node _ n (λ x e g. (omega arith, omega arith))) tt)
      (shallow_if n (is_integer a.type && is_integer b.type) _ _
      (place_shallow a.node _ n (λ x e g. (omega arith, omega arith))) tt)

  pub comma_shallow : ShallowIf n (comma_of a b)
  comma_shallow = (omega arith, omega arith)

-- ---- operators with one operand

module _ (n : ℕ) (a : TypedNode) (p : 1 + nesting a ≤ n) (r : reads a ≤ 15) where
  pub incremented_shallow : (m : Fixity) (i : Increment) → ShallowIf n (incremented m i a)
  incremented_shallow m i =
      shallow_if n (is_pointer a.type) _ _
      (shallow_if n (is_sized_pointer a.type) _ _
      (place_shallow a.node _ n (λ x e g. (omega arith, omega arith))) tt)
      (shallow_if n (is_integer a.type) _ _ (place_shallow a.node _ n
      (λ x e g. (omega arith, omega arith))) tt)

  pub unary_shallow : (o : UnaryOperator) → ShallowIf n (unary_of o a)
  unary_shallow unary.Plus = shallow_only n _ _ (omega arith, omega arith)
  unary_shallow unary.Minus = shallow_only n _ _ (omega arith, omega arith)
  unary_shallow unary.Complement = shallow_only n _ _ (omega arith, omega arith)
  unary_shallow unary.LogicalNot = shallow_only n _ _ (omega arith, omega arith)
  unary_shallow unary.Indirection = shallow_only n _ _ (omega arith, omega arith)
  unary_shallow unary.AddressOf = address_shallow a.type a.node n p r

  pub cast_shallow : (t : CType) → ShallowIf n (cast_of t a)
  cast_shallow t = shallow_only n _ _ (omega arith, omega arith)

-- ---- the conditional operator

module _ (n : ℕ) (c a b : TypedNode) (o : 1 + nesting c ≤ n) (p : 1 + nesting a ≤ n)
    (q : 1 + nesting b ≤ n) (r : reads c ≤ 15) (s : reads a ≤ 15) (t : reads b ≤ 15) where
  chosen_shallow : (z : Option CType) → ShallowIf n (chosen c a b z)
  chosen_shallow None = tt
  chosen_shallow (Some z) =
      let d = branch_nesting z a in
      let e = branch_nesting z b in
      let f = branch_reads z a in
      let g = branch_reads z b in
      (omega arith, omega arith)

  pub conditional_shallow : ShallowIf n (conditional_of c a b)
  conditional_shallow = shallow_if n (is_scalar c.type) _ _ (chosen_shallow (branch_type a b)) tt
