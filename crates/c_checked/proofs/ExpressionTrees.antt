-- The code's trees as those of the meaning, one equation for each kind.
use Rattle.std.proofs.Common.{◌≡◌, ℕ, sym, ap, ◌∙◌}
use Rattle.c_operations.specs.declared.operation.Operation.{Operation}
use Rattle.c_operations.specs.declared.operation.Pure.{Pure}
use Rattle.c_checked.specs.declared.expression.Access.{Access}
use Rattle.c_checked.specs.declared.expression.Conversion.{Conversion}
use Rattle.c_checked.specs.declared.expression.Fixity.{Fixity}
use Rattle.c_checked.specs.declared.expression.Expr.{Expr}
use Rattle.c_checked.specs.declared.expression.Node.TheVariants as nodes
use Rattle.c_checked.specs.declared.expression.Lvalue.{Lvalue}
use Rattle.c_checked.specs.declared.expression.Lvalue.TheVariants as lvalues
use Rattle.c_checked.specs.declared.expression.Lvalue.TheOpen as opened
use Rattle.c_checked.specs.declared.expression.Lvalue.TheFolds.{fold-Expr, fold-roll-Lvalue}
use Rattle.c_checked.specs.declared.expression.Lvalue.TheFolds.{fold-roll-Node, fold_out-Expr}
use Rattle.c_checked.specs.Expression as trees
use Rattle.c_checked.specs.Expression.{lvalue, node, expression, lvalue_layer}
use Rattle.c_checked.specs.Expression.{node_layer, expression_layer}

expression_is : (e : Expr) → fold-Expr trees.Lvalue trees.Node trees.Expression lvalue_layer
    node_layer expression_layer e ≡ expression e
expression_is e =
    fold_out-Expr trees.Lvalue trees.Node trees.Expression lvalue_layer node_layer expression_layer
    e

-- ---- lvalues

pub local_is : (x : ℕ) → lvalue (lvalues.Local x) ≡ trees.Local x
local_is x =
    ap lvalue (sym (lvalues.rolls-Local x)) ∙ fold-roll-Lvalue trees.Lvalue trees.Node
    trees.Expression lvalue_layer node_layer expression_layer (opened.Local x)

pub global_is : (access : Access) (a : ℕ) → lvalue (lvalues.Global access a) ≡ trees.Global access a
global_is access a =
    ap lvalue (sym (lvalues.rolls-Global access a))
    ∙ fold-roll-Lvalue trees.Lvalue trees.Node trees.Expression lvalue_layer node_layer
    expression_layer (opened.Global access a)

pub indirection_is : (access : Access) (e : _)
    → lvalue (lvalues.Indirection access e) ≡ trees.Indirection access (expression e.value)
indirection_is access e =
    ap lvalue (sym (lvalues.rolls-Indirection access e))
    ∙ fold-roll-Lvalue trees.Lvalue trees.Node trees.Expression lvalue_layer node_layer
    expression_layer (opened.Indirection access e)
    ∙ ap (trees.Indirection access) (expression_is e.value)

pub element_is : (access : Access) (e : _) (f : _)
    → lvalue (lvalues.Element access e f) ≡ trees.Element access (expression e.value)
    (expression f.value)
element_is access e f =
    ap lvalue (sym (lvalues.rolls-Element access e f))
    ∙ fold-roll-Lvalue trees.Lvalue trees.Node trees.Expression lvalue_layer node_layer
    expression_layer (opened.Element access e f)
    ∙ (λ i. trees.Element access (expression_is e.value i) (expression_is f.value i))

-- ---- nodes

pub assign_is : (l : Lvalue) (e : _) → node (nodes.Assign l e)
    ≡ trees.Assign (lvalue l) (expression e.value)
assign_is l e =
    ap node (sym (nodes.rolls-Assign l e)) ∙ fold-roll-Node trees.Lvalue trees.Node trees.Expression
    lvalue_layer node_layer expression_layer (opened.Assign l e)
    ∙ ap (trees.Assign (lvalue l)) (expression_is e.value)

pub compound_is : (l : Lvalue) (before : Conversion) (o : Operation) (e : _) (after : Conversion)
    → node (nodes.CompoundAssign l before o e after)
    ≡ trees.CompoundAssign (lvalue l) before o (expression e.value) after
compound_is l before o e after =
    ap node (sym (nodes.rolls-CompoundAssign l before o e after))
    ∙ fold-roll-Node trees.Lvalue trees.Node trees.Expression lvalue_layer node_layer
    expression_layer (opened.CompoundAssign l before o e after)
    ∙ ap (λ v. trees.CompoundAssign (lvalue l) before o v after) (expression_is e.value)

pub increment_is : (m : Fixity) (l : Lvalue) (before : Conversion) (o : Operation) (n : ℕ)
    (after : Conversion) → node (nodes.Increment m l before o n after)
    ≡ trees.Increment m (lvalue l) before o n after
increment_is m l before o n after =
    ap node (sym (nodes.rolls-Increment m l before o n after))
    ∙ fold-roll-Node trees.Lvalue trees.Node trees.Expression lvalue_layer node_layer
    expression_layer (opened.Increment m l before o n after)

pub unary_is : (o : Pure) (e : _) → node (nodes.Unary o e) ≡ trees.Unary o (expression e.value)
unary_is o e =
    ap node (sym (nodes.rolls-Unary o e)) ∙ fold-roll-Node trees.Lvalue trees.Node trees.Expression
    lvalue_layer node_layer expression_layer (opened.Unary o e)
    ∙ ap (trees.Unary o) (expression_is e.value)

pub binary_is : (o : Operation) (e : _) (f : _)
    → node (nodes.Binary o e f) ≡ trees.Binary o (expression e.value) (expression f.value)
binary_is o e f =
    ap node (sym (nodes.rolls-Binary o e f)) ∙ fold-roll-Node trees.Lvalue trees.Node
    trees.Expression lvalue_layer node_layer expression_layer (opened.Binary o e f)
    ∙ (λ i. trees.Binary o (expression_is e.value i) (expression_is f.value i))

pub difference_is : (n : ℕ) (e : _) (f : _) → node (nodes.PointerDifference n e f)
    ≡ trees.PointerDifference n (expression e.value) (expression f.value)
difference_is n e f =
    ap node (sym (nodes.rolls-PointerDifference n e f))
    ∙ fold-roll-Node trees.Lvalue trees.Node trees.Expression lvalue_layer node_layer
    expression_layer (opened.PointerDifference n e f)
    ∙ (λ i. trees.PointerDifference n (expression_is e.value i) (expression_is f.value i))

pub and_is : (e : _) (f : _) → node (nodes.And e f)
    ≡ trees.And (expression e.value) (expression f.value)
and_is e f =
    ap node (sym (nodes.rolls-And e f)) ∙ fold-roll-Node trees.Lvalue trees.Node trees.Expression
    lvalue_layer node_layer expression_layer (opened.And e f)
    ∙ (λ i. trees.And (expression_is e.value i) (expression_is f.value i))

pub or_is : (e : _) (f : _) → node (nodes.Or e f)
    ≡ trees.Or (expression e.value) (expression f.value)
or_is e f =
    ap node (sym (nodes.rolls-Or e f)) ∙ fold-roll-Node trees.Lvalue trees.Node trees.Expression
    lvalue_layer node_layer expression_layer (opened.Or e f)
    ∙ (λ i. trees.Or (expression_is e.value i) (expression_is f.value i))

pub conditional_is : (c : _) (e : _) (f : _) → node (nodes.Conditional c e f)
    ≡ trees.Conditional (expression c.value) (expression e.value) (expression f.value)
conditional_is c e f =
    ap node (sym (nodes.rolls-Conditional c e f))
    ∙ fold-roll-Node trees.Lvalue trees.Node trees.Expression lvalue_layer node_layer
    expression_layer (opened.Conditional c e f)
    ∙ (λ i. trees.Conditional (expression_is c.value i) (expression_is e.value i)
    (expression_is f.value i))

pub comma_is : (e : _) (f : _) → node (nodes.Comma e f)
    ≡ trees.Comma (expression e.value) (expression f.value)
comma_is e f =
    ap node (sym (nodes.rolls-Comma e f)) ∙ fold-roll-Node trees.Lvalue trees.Node trees.Expression
    lvalue_layer node_layer expression_layer (opened.Comma e f)
    ∙ (λ i. trees.Comma (expression_is e.value i) (expression_is f.value i))
