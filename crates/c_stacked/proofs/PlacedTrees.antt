-- What each kind of node is with its parts placed.
use Rattle.std.proofs.Common.{◌≡◌, ℕ, refl, sym, ap, ◌∙◌}
use Rattle.std.proofs.lemmas.List.{with_items_is}
use Rattle.std.specs.Prelude.{List, [], ◌∷◌, length, map}
use Rattle.c_operations.specs.declared.built_in.BuiltIn.{BuiltIn}
use Rattle.c_operations.specs.declared.operation.Operation.{Operation}
use Rattle.c_operations.specs.declared.operation.Pure.{Pure}
use Rattle.c_checked.specs.declared.expression.Access.{Access}
use Rattle.c_checked.specs.declared.expression.Conversion.{Conversion}
use Rattle.c_checked.specs.declared.expression.Expr.{Expr}
use Rattle.c_checked.specs.declared.expression.Node.{Node}
use Rattle.c_checked.specs.declared.expression.Node.TheVariants as nodes
use Rattle.c_checked.specs.declared.expression.Lvalue.{Lvalue}
use Rattle.c_checked.specs.declared.expression.Lvalue.TheVariants as lvalues
use Rattle.c_checked.specs.declared.expression.Lvalue.TheOpen as opened
use Rattle.c_checked.specs.declared.expression.Lvalue.TheFolds.{fold-Expr, fold-roll-Node, fold_out-Expr}
use Rattle.c_checked.specs.Expression as trees
use Rattle.c_checked.specs.Expression.{lvalue, node, expression, arguments, lvalue_layer, node_layer, expression_layer}
use Rattle.c_checked.proofs.ExpressionTrees.{indirection_is, element_is, assign_is, compound_is, unary_is, binary_is, difference_is, and_is, or_is, conditional_is, comma_is}
use Rattle.c_resolved.specs.Layout.{Layout}
use Rattle.c_resolved.specs.Placed.{place_expression, place_lvalue, place_node, place_arguments}
use Rattle.std.specs.Box.{with_value}
use Rattle.std.specs.Vec.{with_items}

-- an expression in its place
abbrev pub IsPlaced : Layout → Expr → Expr → Type 0
IsPlaced l e e' = expression e' ≡ place_expression l (expression e)

pub placed_at : (l : Layout) (x y e' : Expr) → x ≡ y → IsPlaced l x e' → IsPlaced l y e'
placed_at l x y e' e h = h ∙ ap (λ k. place_expression l (expression k)) e

-- ---- lvalues

pub indirection_placed : (l : Layout) (access : Access) (e : _) (e' : Expr) (p : Lvalue)
    → p ≡ lvalues.Indirection access e → IsPlaced l e.value e'
    → lvalue (lvalues.Indirection access (with_value e e')) ≡ place_lvalue l (lvalue p)
indirection_placed l access e e' p is h =
    indirection_is access (with_value e e') ∙ ap (trees.Indirection access) h
    ∙ sym (ap (place_lvalue l) (ap lvalue is ∙ indirection_is access e))

pub element_placed : (l : Layout) (access : Access) (e f : _) (e' f' : Expr) (p : Lvalue)
    → p ≡ lvalues.Element access e f → IsPlaced l e.value e' → IsPlaced l f.value f'
    → lvalue (lvalues.Element access (with_value e e') (with_value f f'))
    ≡ place_lvalue l (lvalue p)
element_placed l access e f e' f' p is h k =
    element_is access (with_value e e') (with_value f f')
    ∙ (λ i. trees.Element access (h i) (k i))
    ∙ sym (ap (place_lvalue l) (ap lvalue is ∙ element_is access e f))

-- ---- nodes

expression_is : (e : Expr) → fold-Expr trees.Lvalue trees.Node trees.Expression lvalue_layer
    node_layer expression_layer e ≡ expression e
expression_is e =
    fold_out-Expr trees.Lvalue trees.Node trees.Expression lvalue_layer node_layer expression_layer
    e

expressions_are : (es : List Expr)
    → map (fold-Expr trees.Lvalue trees.Node trees.Expression lvalue_layer node_layer
    expression_layer) es ≡ map expression es
expressions_are [] = refl
expressions_are (e ∷ es) =
    (λ i. expression_is e i ∷ expressions_are es i)

call_is : (f : ℕ) (es : _)
    → node (nodes.Call f es) ≡ trees.Call f (arguments (map expression es.items))
call_is f es =
    ap node (sym (nodes.rolls-Call f es)) ∙ fold-roll-Node trees.Lvalue trees.Node trees.Expression
    lvalue_layer node_layer expression_layer (opened.Call f es)
    ∙ ap (λ k. trees.Call f (arguments k)) (expressions_are es.items)

call_built_in_is : (k : BuiltIn) (es : _)
    → node (nodes.CallBuiltIn k es) ≡ trees.CallBuiltIn k (arguments (map expression es.items))
call_built_in_is k es =
    ap node (sym (nodes.rolls-CallBuiltIn k es))
    ∙ fold-roll-Node trees.Lvalue trees.Node trees.Expression
    lvalue_layer node_layer expression_layer (opened.CallBuiltIn k es)
    ∙ ap (λ x. trees.CallBuiltIn k (arguments x)) (expressions_are es.items)

not_is : (e : _) → node (nodes.Not e) ≡ trees.Not (expression e.value)
not_is e =
    ap node (sym (nodes.rolls-Not e)) ∙ fold-roll-Node trees.Lvalue trees.Node trees.Expression
    lvalue_layer node_layer expression_layer (opened.Not e)
    ∙ ap trees.Not (expression_is e.value)

pub unary_placed : (l : Layout) (o : Pure) (e : _) (e' : Expr) (n : Node)
    → n ≡ nodes.Unary o e → IsPlaced l e.value e'
    → node (nodes.Unary o (with_value e e')) ≡ place_node l (node n)
unary_placed l o e e' n is h =
    unary_is o (with_value e e') ∙ ap (trees.Unary o) h
    ∙ sym (ap (place_node l) (ap node is ∙ unary_is o e))

pub not_placed : (l : Layout) (e : _) (e' : Expr) (n : Node)
    → n ≡ nodes.Not e → IsPlaced l e.value e'
    → node (nodes.Not (with_value e e')) ≡ place_node l (node n)
not_placed l e e' n is h =
    not_is (with_value e e') ∙ ap trees.Not h ∙ sym (ap (place_node l) (ap node is ∙ not_is e))

pub assign_placed : (l : Layout) (p p' : Lvalue) (e : _) (e' : Expr) (n : Node)
    → n ≡ nodes.Assign p e → lvalue p' ≡ place_lvalue l (lvalue p) → IsPlaced l e.value e'
    → node (nodes.Assign p' (with_value e e')) ≡ place_node l (node n)
assign_placed l p p' e e' n is q h =
    assign_is p' (with_value e e') ∙ (λ i. trees.Assign (q i) (h i))
    ∙ sym (ap (place_node l) (ap node is ∙ assign_is p e))

pub compound_placed : (l : Layout) (p p' : Lvalue) (before : Conversion) (o : Operation) (e : _)
    (e' : Expr) (after : Conversion) (n : Node)
    → n ≡ nodes.CompoundAssign p before o e after → lvalue p' ≡ place_lvalue l (lvalue p)
    → IsPlaced l e.value e'
    → node (nodes.CompoundAssign p' before o (with_value e e') after) ≡ place_node l (node n)
compound_placed l p p' before o e e' after n is q h =
    compound_is p' before o (with_value e e') after
    ∙ (λ i. trees.CompoundAssign (q i) before o (h i) after)
    ∙ sym (ap (place_node l) (ap node is ∙ compound_is p before o e after))

pub binary_placed : (l : Layout) (o : Operation) (e f : _) (e' f' : Expr) (n : Node)
    → n ≡ nodes.Binary o e f → IsPlaced l e.value e' → IsPlaced l f.value f'
    → node (nodes.Binary o (with_value e e') (with_value f f')) ≡ place_node l (node n)
binary_placed l o e f e' f' n is h k =
    binary_is o (with_value e e') (with_value f f') ∙ (λ i. trees.Binary o (h i) (k i))
    ∙ sym (ap (place_node l) (ap node is ∙ binary_is o e f))

pub difference_placed : (l : Layout) (m : ℕ) (e f : _) (e' f' : Expr) (n : Node)
    → n ≡ nodes.PointerDifference m e f → IsPlaced l e.value e' → IsPlaced l f.value f'
    → node (nodes.PointerDifference m (with_value e e') (with_value f f')) ≡ place_node l (node n)
difference_placed l m e f e' f' n is h k =
    difference_is m (with_value e e') (with_value f f')
    ∙ (λ i. trees.PointerDifference m (h i) (k i))
    ∙ sym (ap (place_node l) (ap node is ∙ difference_is m e f))

pub and_placed : (l : Layout) (e f : _) (e' f' : Expr) (n : Node)
    → n ≡ nodes.And e f → IsPlaced l e.value e' → IsPlaced l f.value f'
    → node (nodes.And (with_value e e') (with_value f f')) ≡ place_node l (node n)
and_placed l e f e' f' n is h k =
    and_is (with_value e e') (with_value f f') ∙ (λ i. trees.And (h i) (k i))
    ∙ sym (ap (place_node l) (ap node is ∙ and_is e f))

pub or_placed : (l : Layout) (e f : _) (e' f' : Expr) (n : Node)
    → n ≡ nodes.Or e f → IsPlaced l e.value e' → IsPlaced l f.value f'
    → node (nodes.Or (with_value e e') (with_value f f')) ≡ place_node l (node n)
or_placed l e f e' f' n is h k =
    or_is (with_value e e') (with_value f f') ∙ (λ i. trees.Or (h i) (k i))
    ∙ sym (ap (place_node l) (ap node is ∙ or_is e f))

pub comma_placed : (l : Layout) (e f : _) (e' f' : Expr) (n : Node)
    → n ≡ nodes.Comma e f → IsPlaced l e.value e' → IsPlaced l f.value f'
    → node (nodes.Comma (with_value e e') (with_value f f')) ≡ place_node l (node n)
comma_placed l e f e' f' n is h k =
    comma_is (with_value e e') (with_value f f') ∙ (λ i. trees.Comma (h i) (k i))
    ∙ sym (ap (place_node l) (ap node is ∙ comma_is e f))

pub conditional_placed : (l : Layout) (c e f : _) (c' e' f' : Expr) (n : Node)
    → n ≡ nodes.Conditional c e f → IsPlaced l c.value c' → IsPlaced l e.value e'
    → IsPlaced l f.value f'
    → node (nodes.Conditional (with_value c c') (with_value e e') (with_value f f'))
    ≡ place_node l (node n)
conditional_placed l c e f c' e' f' n is g h k =
    conditional_is (with_value c c') (with_value e e') (with_value f f')
    ∙ (λ i. trees.Conditional (g i) (h i) (k i))
    ∙ sym (ap (place_node l) (ap node is ∙ conditional_is c e f))

-- ---- calls

-- expressions in their places
abbrev pub ArePlaced : Layout → List Expr → List Expr → Type 0
ArePlaced l es es' = arguments (map expression es')
    ≡ place_arguments l (arguments (map expression es))

pub all_placed_at : (l : Layout) (xs ys es' : List Expr) → xs ≡ ys → ArePlaced l xs es'
    → ArePlaced l ys es'
all_placed_at l xs ys es' e h = h ∙ ap (λ k. place_arguments l (arguments (map expression k))) e

pub call_placed : (l : Layout) (f : ℕ) (es : _) (es' : List Expr) (n : Node)
    → n ≡ nodes.Call f es → length es' ≡ es.len → ArePlaced l es.items es'
    → node (nodes.Call f (with_items es es')) ≡ place_node l (node n)
call_placed l f es es' n is same h =
    call_is f (with_items es es')
    ∙ ap (λ k. trees.Call f (arguments (map expression k))) (with_items_is es es' same)
    ∙ ap (trees.Call f) h
    ∙ sym (ap (place_node l) (ap node is ∙ call_is f es))

pub call_built_in_placed : (l : Layout) (k : BuiltIn) (es : _) (es' : List Expr) (n : Node)
    → n ≡ nodes.CallBuiltIn k es → length es' ≡ es.len → ArePlaced l es.items es'
    → node (nodes.CallBuiltIn k (with_items es es')) ≡ place_node l (node n)
call_built_in_placed l k es es' n is same h =
    call_built_in_is k (with_items es es')
    ∙ ap (λ x. trees.CallBuiltIn k (arguments (map expression x))) (with_items_is es es' same)
    ∙ ap (trees.CallBuiltIn k) h
    ∙ sym (ap (place_node l) (ap node is ∙ call_built_in_is k es))
