-- What an operator makes of operands weighs at most so much more than they do.
use Rattle.std.proofs.Common.{◌≡◌, ℕ, ◌+◌, ◌≤◌, refl, ap, arith}
use Rattle.std.specs.Prelude.{Bool, true, false, ◌&&◌, ◌||◌, if◌then◌else◌, Option, Some, None}
use Rattle.text_bounds.specs.Words.{Conversion, Kept, Expression, Node, Lvalue, Fixity, CType, Arithmetic, Comparison, BinaryOperator, UnaryOperator, Increment, TypedNode, only_if, as_is, as_type, can_become, is_additive, right_operand, on_integers, sum, difference, arithmetic_of, comparison_of, binary_of, lvalue_of, with_lvalue, address, unary_of, cast_of, element_of, assigned, compound_assigned, incremented, branch_type, as_branch, chosen, conditional_of, comma_of, is_shift, working_type, is_pointer, is_integer, is_void, is_sized_pointer, is_scalar, conversion, access_of, Weights, NodesAdd, Pure, as_index, operation_in, long_operation, moved, compared, void_pointer, increment_operator, pointed, bytes_in, scaled, promoted, common}
use Rattle.c_operations.specs.declared.operation.Operation.{Operation}
use Rattle.c_checked.specs.declared.expression.Access.{Access}
use Rattle.c_checked.specs.Expression as nodes
use Rattle.c_syntax.specs.declared.operator.Arithmetic.TheVariants as arithmetic
use Rattle.c_syntax.specs.declared.operator.BinaryOperator.TheVariants as binary
use Rattle.c_syntax.specs.declared.operator.UnaryOperator.TheVariants as unary

-- with what its conversion adds at most
abbrev pub weight : Weights → TypedNode → ℕ
weight w t = w.converted + w.node t.node

-- nothing, or something that weighs at most so much
abbrev pub LightIf : Weights → ℕ → Option TypedNode → Type 0
LightIf w n None = Unit {0}
LightIf w n (Some t) = weight w t ≤ n

pub light_if : (w : Weights) (n : ℕ) (b : Bool) (x y : Option TypedNode) → LightIf w n x
    → LightIf w n y → LightIf w n (if b then x else y)
light_if w n true x y h k = h
light_if w n false x y h k = k

light_only : (w : Weights) (n : ℕ) (b : Bool) (t : TypedNode) → weight w t ≤ n
    → LightIf w n (only_if b t)
light_only w n true t h = h
light_only w n false t h = tt

pub lighter : (w : Weights) (m n : ℕ) (o : Option TypedNode) → m ≤ n → LightIf w m o → LightIf w n o
lighter w m n None le h = tt
lighter w m n (Some t) le h = omega arith

-- ---- operands

pub kept_weight : (w : Weights) → NodesAdd w → (a : TypedNode) → w.expression (as_is a) ≤ weight w a
kept_weight w adds a = let e = adds.value a.node Kept in let c = adds.any_conversion Kept in
    omega arith

pub typed_weight : (w : Weights) → NodesAdd w → (t : CType) (a : TypedNode)
    → w.expression (as_type t a) ≤ weight w a
typed_weight w adds t a = let e = adds.value a.node (conversion a.type t) in
    let c = adds.any_conversion (conversion a.type t) in omega arith

index_weight : (w : Weights) → NodesAdd w → (t : CType) (a : TypedNode)
    → w.expression (as_index t a) ≤ weight w a
index_weight w adds t a = let e = adds.value a.node (scaled a.type (bytes_in (pointed t))) in
    let c = adds.any_conversion (scaled a.type (bytes_in (pointed t))) in omega arith

of_either : (w : Weights) (n : ℕ) (b : Bool) (x y : Expression) → w.expression x ≤ n
    → w.expression y ≤ n → w.expression (if b then x else y) ≤ n
of_either w n true x y h k = h
of_either w n false x y h k = k

right_weight : (w : Weights) → NodesAdd w → (o : Arithmetic) (t : CType) (b : TypedNode)
    → w.expression (right_operand o t b) ≤ weight w b
right_weight w adds o t b = of_either w (weight w b) (is_shift o) (as_is b) (as_type t b)
    (kept_weight w adds b) (typed_weight w adds t b)

branch_weight : (w : Weights) → NodesAdd w → (t : CType) (a : TypedNode)
    → w.expression (as_branch t a) ≤ weight w a
branch_weight w adds t a = of_either w (weight w a) (is_void t) (as_is a) (as_type t a)
    (kept_weight w adds a) (typed_weight w adds t a)

-- ---- operators with two operands

-- an operation on two operands, each of which weighs no more than what it is made of
operation_weight : (w : Weights) → NodesAdd w → (o : Operation) (e f : Expression) (a b : TypedNode)
    → w.expression e ≤ weight w a → w.expression f ≤ weight w b
    → w.converted + w.node (nodes.Binary o e f) ≤ w.each + (weight w a + weight w b)
operation_weight w adds o e f a b l r = let h = adds.binary o e f in omega arith

on_integers_light : (w : Weights) → NodesAdd w → (o : Arithmetic) (a b : TypedNode)
    → LightIf w (w.each + (weight w a + weight w b)) (on_integers o a b)
on_integers_light w adds o a b =
    let t = working_type o a.type b.type in
    light_only w _ (is_integer a.type && is_integer b.type) _
    (operation_weight w adds (operation_in o t) (as_type t a) (right_operand o t b) a b
    (typed_weight w adds t a) (right_weight w adds o t b))

moved_weight : (w : Weights) → NodesAdd w → (o : Arithmetic) (p i : TypedNode)
    → weight w (moved o p i) ≤ w.each + (weight w p + weight w i)
moved_weight w adds o p i = operation_weight w adds (long_operation o) (as_is p) (as_index p.type i)
    p i (kept_weight w adds p) (index_weight w adds p.type i)

sum_light : (w : Weights) → NodesAdd w → (a b : TypedNode)
    → LightIf w (w.each + (weight w a + weight w b)) (sum a b)
sum_light w adds a b =
    let n = w.each + (weight w a + weight w b) in
    light_if w n (is_pointer a.type) _ _ (light_only w n
    (is_sized_pointer a.type && is_integer b.type) _ (moved_weight w adds arithmetic.Add a b))
    (light_if w n (is_pointer b.type) _ _
    (light_only w n (is_sized_pointer b.type && is_integer a.type) _
    (operation_weight w adds (long_operation arithmetic.Add) (as_index b.type a) (as_is b) a b
    (index_weight w adds b.type a) (kept_weight w adds b)))
    (on_integers_light w adds arithmetic.Add a b))

apart_weight : (w : Weights) → NodesAdd w → (n : ℕ) (a b : TypedNode)
    → w.converted + w.node (nodes.PointerDifference n (as_is a) (as_is b))
    ≤ w.each + (weight w a + weight w b)
apart_weight w adds n a b = let h = adds.difference n (as_is a) (as_is b) in
    let k = kept_weight w adds a in let l = kept_weight w adds b in omega arith

difference_light : (w : Weights) → NodesAdd w → (a b : TypedNode)
    → LightIf w (w.each + (weight w a + weight w b)) (difference a b)
difference_light w adds a b =
    let n = w.each + (weight w a + weight w b) in
    light_if w n (is_pointer a.type && is_pointer b.type) _ _
    (light_only w n _ _ (apart_weight w adds (bytes_in (pointed a.type)) a b))
    (light_if w n (is_pointer a.type) _ _ (light_only w n
    (is_sized_pointer a.type && is_integer b.type) _
    (moved_weight w adds arithmetic.Subtract a b))
    (on_integers_light w adds arithmetic.Subtract a b))

arithmetic_light : (w : Weights) → NodesAdd w → (o : Arithmetic) (a b : TypedNode)
    → LightIf w (w.each + (weight w a + weight w b)) (arithmetic_of o a b)
arithmetic_light w adds arithmetic.Add a b = sum_light w adds a b
arithmetic_light w adds arithmetic.Subtract a b = difference_light w adds a b
arithmetic_light w adds o a b = on_integers_light w adds o a b

compared_weight : (w : Weights) → NodesAdd w → (c : Comparison) (t : CType) (a b : TypedNode)
    → weight w (compared c t a b) ≤ w.each + (weight w a + weight w b)
compared_weight w adds c t a b = operation_weight w adds _ (as_type t a) (as_type t b) a b
    (typed_weight w adds t a) (typed_weight w adds t b)

comparison_light : (w : Weights) → NodesAdd w → (c : Comparison) (a b : TypedNode)
    → LightIf w (w.each + (weight w a + weight w b)) (comparison_of c a b)
comparison_light w adds c a b =
    let n = w.each + (weight w a + weight w b) in
    light_if w n (is_pointer a.type || is_pointer b.type) _ _
    (light_only w n _ _ (compared_weight w adds c void_pointer a b))
    (light_only w n _ _ (compared_weight w adds c (common a.type b.type) a b))

and_weight : (w : Weights) → NodesAdd w → (a b : TypedNode)
    → w.converted + w.node (nodes.And (as_is a) (as_is b)) ≤ w.each + (weight w a + weight w b)
and_weight w adds a b = let h = adds.conjunction (as_is a) (as_is b) in
    let k = kept_weight w adds a in let l = kept_weight w adds b in omega arith

or_weight : (w : Weights) → NodesAdd w → (a b : TypedNode)
    → w.converted + w.node (nodes.Or (as_is a) (as_is b)) ≤ w.each + (weight w a + weight w b)
or_weight w adds a b = let h = adds.disjunction a.node b.node in omega arith

pub binary_light : (w : Weights) → NodesAdd w → (o : BinaryOperator) (a b : TypedNode)
    → LightIf w (w.each + (weight w a + weight w b)) (binary_of o a b)
binary_light w adds (binary.Arithmetic o) a b = arithmetic_light w adds o a b
binary_light w adds (binary.Comparison c) a b = comparison_light w adds c a b
binary_light w adds binary.LogicalAnd a b = light_only w _ _ _ (and_weight w adds a b)
binary_light w adds binary.LogicalOr a b = light_only w _ _ _ (or_weight w adds a b)

element_weight : (w : Weights) → NodesAdd w → (access : Access) (e i : Expression) (a b : TypedNode)
    → w.expression e ≤ weight w a → w.expression i ≤ weight w b
    → w.converted + w.node (nodes.Read (nodes.Element access e i))
    ≤ w.each + (weight w a + weight w b)
element_weight w adds access e i a b l r = let h = adds.element access e i in omega arith

pub element_light : (w : Weights) → NodesAdd w → (a i : TypedNode)
    → LightIf w (w.each + (weight w a + weight w i)) (element_of a i)
element_light w adds a i = light_only w _ _ _
    (element_weight w adds (access_of (pointed a.type)) (as_is a) (as_index a.type i) a i
    (kept_weight w adds a) (index_weight w adds a.type i))

-- ---- changes of a place that was read

place_light : (w : Weights) (n : Node) (go : Lvalue → TypedNode) (m : ℕ)
    → ((p : Lvalue) → n ≡ nodes.Read p → weight w (go p) ≤ m)
    → LightIf w m (with_lvalue (lvalue_of n) go)
place_light w (nodes.Read p) go m h = h p refl
place_light w other go m h = tt

increment_weight : (w : Weights) → NodesAdd w
    → (m : Fixity) (p : Lvalue) (o : Operation) (n : ℕ) (c : Conversion) (a : Node)
    → a ≡ nodes.Read p → w.conversion c ≤ w.retyped
    → w.converted + w.node (nodes.Increment m p Kept o n c) ≤ w.each + (w.converted + w.node a)
increment_weight w adds m p o n c a e le = let h = adds.increment m p o n c le in
    let g = ap w.node e in omega arith

pub incremented_light : (w : Weights) → NodesAdd w → (m : Fixity) (i : Increment) (a : TypedNode)
    → LightIf w (w.each + weight w a) (incremented m i a)
incremented_light w adds m i a =
    let n = w.each + weight w a in
    light_if w n (is_pointer a.type) _ _
    (light_if w n (is_sized_pointer a.type) _ _
    (place_light w a.node _ n (λ p e. increment_weight w adds m p
    (long_operation (increment_operator i)) (bytes_in (pointed a.type)) Kept a.node e
    adds.no_conversion)) tt)
    (light_if w n (is_integer a.type) _ _
    (place_light w a.node _ n (λ p e. increment_weight w adds m p
    (operation_in (increment_operator i) (promoted a.type)) 1
    (conversion (promoted a.type) a.type) a.node e (adds.of_types (promoted a.type) a.type))) tt)

assignment_weight : (w : Weights) → NodesAdd w
    → (p : Lvalue) (f : Expression) (a : Node) (b : TypedNode) → a ≡ nodes.Read p
    → w.expression f ≤ weight w b
    → w.converted + w.node (nodes.Assign p f) ≤ w.each + ((w.converted + w.node a) + weight w b)
assignment_weight w adds p f a b e le = let h = adds.assignment p f in let g = ap w.node e in
    omega arith

pub assigned_light : (w : Weights) → NodesAdd w → (a b : TypedNode)
    → LightIf w (w.each + (weight w a + weight w b)) (assigned a b)
assigned_light w adds a b =
    let n = w.each + (weight w a + weight w b) in
    light_if w n (can_become a.type b) _ _ (place_light w a.node _ n
    (λ p e. assignment_weight w adds p (as_type a.type b) a.node b e
    (typed_weight w adds a.type b))) tt

compound_weight : (w : Weights) → NodesAdd w → (p : Lvalue) (before : Conversion) (o : Operation)
    (f : Expression) (after : Conversion) (a : Node) (b : TypedNode) → a ≡ nodes.Read p
    → w.conversion before ≤ w.retyped → w.conversion after ≤ w.retyped → w.expression f ≤ weight w b
    → w.converted + w.node (nodes.CompoundAssign p before o f after)
    ≤ w.each + ((w.converted + w.node a) + weight w b)
compound_weight w adds p before o f after a b e small small' le = let h = adds.compound_assignment p
    before o f after small small' in let g = ap w.node e in omega arith

pub compound_light : (w : Weights) → NodesAdd w → (o : Arithmetic) (a b : TypedNode)
    → LightIf w (w.each + (weight w a + weight w b)) (compound_assigned o a b)
compound_light w adds o a b =
    let n = w.each + (weight w a + weight w b) in
    let t = working_type o a.type b.type in
    light_if w n (is_pointer a.type) _ _
    (light_if w n (is_additive o && is_sized_pointer a.type && is_integer b.type) _ _
    (place_light w a.node _ n (λ p e. compound_weight w adds p Kept (long_operation o)
    (as_index a.type b) Kept a.node b e adds.no_conversion adds.no_conversion
    (index_weight w adds a.type b))) tt)
    (light_if w n (is_integer a.type && is_integer b.type) _ _
    (place_light w a.node _ n (λ p e. compound_weight w adds p (conversion a.type t)
    (operation_in o t) (right_operand o t b) (conversion t a.type) a.node b e
    (adds.of_types a.type t) (adds.of_types t a.type) (right_weight w adds o t b))) tt)

-- ---- one operand

address_light : (w : Weights) → NodesAdd w → (t : CType) (n : Node)
    → LightIf w (w.each + (w.converted + w.node n)) (address t (lvalue_of n))
address_light w adds t (nodes.Read p) = let a = adds.address p in omega arith
address_light w adds t other = tt

unary_weight : (w : Weights) → NodesAdd w → (o : Pure) (e : Expression) (a : TypedNode)
    → w.expression e ≤ weight w a → w.converted + w.node (nodes.Unary o e) ≤ w.each + weight w a
unary_weight w adds o e a le = let h = adds.unary o e in omega arith

not_weight : (w : Weights) → NodesAdd w → (a : TypedNode)
    → w.converted + w.node (nodes.Not (as_is a)) ≤ w.each + weight w a
not_weight w adds a = let h = adds.negation (as_is a) in let k = kept_weight w adds a in omega arith

indirection_weight : (w : Weights) → NodesAdd w → (access : Access) (a : TypedNode)
    → w.converted + w.node (nodes.Read (nodes.Indirection access (as_is a))) ≤ w.each + weight w a
indirection_weight w adds access a = let h = adds.indirection access (as_is a) in
    let k = kept_weight w adds a in omega arith

pub unary_light : (w : Weights) → NodesAdd w → (o : UnaryOperator) (a : TypedNode)
    → LightIf w (w.each + weight w a) (unary_of o a)
unary_light w adds unary.Plus a = light_only w _ _ _
    (unary_weight w adds _ (as_is a) a (kept_weight w adds a))
unary_light w adds unary.Minus a = light_only w _ _ _
    (unary_weight w adds _ (as_is a) a (kept_weight w adds a))
unary_light w adds unary.Complement a = light_only w _ _ _
    (unary_weight w adds _ (as_is a) a (kept_weight w adds a))
unary_light w adds unary.LogicalNot a = light_only w _ _ _ (not_weight w adds a)
unary_light w adds unary.Indirection a = light_only w _ _ _
    (indirection_weight w adds (access_of (pointed a.type)) a)
unary_light w adds unary.AddressOf a = address_light w adds a.type a.node

pub cast_light : (w : Weights) → NodesAdd w → (t : CType) (a : TypedNode)
    → LightIf w (w.each + weight w a) (cast_of t a)
cast_light w adds t a = light_only w _ _ _ (unary_weight w adds _ (as_type t a) a
    (typed_weight w adds t a))

-- ---- conditional and comma

chosen_light : (w : Weights) → NodesAdd w → (c a b : TypedNode) (o : Option CType)
    → LightIf w (w.each + (weight w c + (weight w a + weight w b))) (chosen c a b o)
chosen_light w adds c a b None = tt
chosen_light w adds c a b (Some t) =
    let h = adds.conditional (as_is c) (as_branch t a) (as_branch t b) in
    let k = kept_weight w adds c in
    let p = branch_weight w adds t a in
    let q = branch_weight w adds t b in
    omega arith

pub conditional_light : (w : Weights) → NodesAdd w → (c a b : TypedNode)
    → LightIf w (w.each + (weight w c + (weight w a + weight w b))) (conditional_of c a b)
conditional_light w adds c a b = light_if w _ (is_scalar c.type) _ _
    (chosen_light w adds c a b (branch_type a b)) tt

pub comma_light : (w : Weights) → NodesAdd w → (a b : TypedNode)
    → LightIf w (w.each + (weight w a + weight w b)) (comma_of a b)
comma_light w adds a b = let h = adds.comma (as_is a) (as_is b) in let k = kept_weight w adds a in
    let l = kept_weight w adds b in omega arith
