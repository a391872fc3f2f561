-- Expressions, wherever they lie in memory.
use Rattle.std.specs.Prelude.{ℕ, List, [], ◌∷◌}
use Rattle.c_operations.specs.declared.field.Field.{Field}
use Rattle.c_operations.specs.declared.operation.Operation.{Operation}
use Rattle.c_operations.specs.declared.operation.Pure.{Pure}
use Rattle.c_operations.specs.declared.operation.Size.{Size}
use Rattle.c_checked.specs.declared.expression.Access.{Access}
use Rattle.c_checked.specs.declared.expression.Conversion.{Conversion}
use Rattle.c_operations.specs.declared.built_in.BuiltIn.{BuiltIn}
use Rattle.c_checked.specs.declared.expression.Fixity.{Fixity}
use Rattle.c_checked.specs.declared.expression.Expr.{Expr}
use Rattle.c_checked.specs.declared.expression.Lvalue.{Lvalue as Lvalue'}
use Rattle.c_checked.specs.declared.expression.Node.{Node as Node'}
use Rattle.c_checked.specs.declared.expression.Lvalue.TheOpen as opened
use Rattle.c_checked.specs.declared.expression.Lvalue.TheFolds.{fold-Lvalue, fold-Node}

mutual
  -- a node, and how its value is converted
  pub data Expression : Type 0 where
    On : Node → Conversion → Expression

  pub data Node : Type 0 where
    Constant : Size → ℕ → Node
    StackedArray : (base offset : ℕ) → Node
    Read : Lvalue → Node
    AddressOf : Lvalue → Node
    Assign : Lvalue → Expression → Node
    CompoundAssign : Lvalue → Conversion → Operation → Expression → Conversion → Node
    Increment : Fixity → Lvalue → Conversion → Operation → ℕ → Conversion → Node
    Unary : Pure → Expression → Node
    Binary : Operation → Expression → Expression → Node
    PointerDifference : ℕ → Expression → Expression → Node
    Not : Expression → Node
    And : Expression → Expression → Node
    Or : Expression → Expression → Node
    Conditional : Expression → Expression → Expression → Node
    Comma : Expression → Expression → Node
    Call : ℕ → Arguments → Node
    CallBuiltIn : BuiltIn → Arguments → Node
    ExceptionCode : Node
    Information : Field → Node
    AbnormalTermination : Node

  pub data Lvalue : Type 0 where
    Local : ℕ → Lvalue
    Global : Access → ℕ → Lvalue
    Stacked : Access → (base offset : ℕ) → Lvalue
    Indirection : Access → Expression → Lvalue
    Element : Access → Expression → Expression → Lvalue

  pub data Arguments : Type 0 where
    Done : Arguments
    Next : Expression → Arguments → Arguments

-- ---- the code's expressions

abbrev pub arguments : List Expression → Arguments
arguments [] = Done
arguments (e ∷ es) = Next e (arguments es)

abbrev pub node_layer : opened.Node-F Lvalue Node Expression → Node
node_layer (opened.Constant z n) = Constant z n
node_layer (opened.StackedArray base offset) = StackedArray base offset
node_layer (opened.Read p) = Read p
node_layer (opened.AddressOf p) = AddressOf p
node_layer (opened.Assign p e) = Assign p e.value
node_layer (opened.CompoundAssign p before o e after) = CompoundAssign p before o e.value after
node_layer (opened.Increment m p before o n after) = Increment m p before o n after
node_layer (opened.Unary o e) = Unary o e.value
node_layer (opened.Binary o a b) = Binary o a.value b.value
node_layer (opened.PointerDifference n a b) = PointerDifference n a.value b.value
node_layer (opened.Not e) = Not e.value
node_layer (opened.And a b) = And a.value b.value
node_layer (opened.Or a b) = Or a.value b.value
node_layer (opened.Conditional c a b) = Conditional c.value a.value b.value
node_layer (opened.Comma a b) = Comma a.value b.value
node_layer (opened.Call f es) = Call f (arguments es.items)
node_layer (opened.CallBuiltIn k es) = CallBuiltIn k (arguments es.items)
node_layer opened.ExceptionCode = ExceptionCode
node_layer (opened.Information f) = Information f
node_layer opened.AbnormalTermination = AbnormalTermination

abbrev pub lvalue_layer : opened.Lvalue-F Lvalue Node Expression → Lvalue
lvalue_layer (opened.Local x) = Local x
lvalue_layer (opened.Global access a) = Global access a
lvalue_layer (opened.Stacked access base offset) = Stacked access base offset
lvalue_layer (opened.Indirection access e) = Indirection access e.value
lvalue_layer (opened.Element access a i) = Element access a.value i.value

abbrev pub expression_layer : opened.Expr-F Lvalue Node Expression → Expression
expression_layer e = On e.node e.conversion

abbrev pub lvalue : Lvalue' → Lvalue
lvalue = fold-Lvalue Lvalue Node Expression lvalue_layer node_layer expression_layer

abbrev pub node : Node' → Node
node = fold-Node Lvalue Node Expression lvalue_layer node_layer expression_layer

abbrev pub expression : Expr → Expression
expression e = On (node e.node) e.conversion
