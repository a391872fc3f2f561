-- Expressions, wherever they lie in memory.
use Rattle.std.specs.Prelude.{ℕ, ◌+◌, max, List, [], ◌∷◌, Option}
use Rattle.c_syntax.specs.declared.operator.Arithmetic.{Arithmetic}
use Rattle.c_syntax.specs.declared.operator.BinaryOperator.{BinaryOperator}
use Rattle.c_syntax.specs.declared.operator.UnaryOperator.{UnaryOperator}
use Rattle.c_syntax.specs.declared.operator.Increment.{Increment}
use Rattle.c_syntax.specs.declared.expression.CType.{CType}
use Rattle.c_syntax.specs.declared.expression.Expr.{Expr}
use Rattle.c_syntax.specs.declared.expression.Expr.TheOpen as opened
use Rattle.c_syntax.specs.declared.expression.Expr.TheFolds.{fold-Expr}
use Rattle.c_syntax.specs.declared.expression.Field.{Field}
use Rattle.c_syntax.specs.declared.expression.Literal.{Literal}
use Rattle.c_syntax.specs.declared.expression.Identifier.{Identifier}

mutual
  pub data Expression : Type 0 where
    Constant : ℕ → Literal → Expression
    Variable : Identifier → Expression
    Information : ℕ → Field → Expression
    Call : Identifier → Arguments → Expression
    Parentheses : ℕ → Expression → Expression
    Index : Expression → ℕ → Expression → Expression
    Postfix : Expression → Increment → ℕ → Expression
    Prefix : ℕ → Increment → Expression → Expression
    Unary : ℕ → UnaryOperator → Expression → Expression
    Cast : ℕ → CType → Expression → Expression
    Binary : Expression → ℕ → BinaryOperator → Expression → Expression
    Conditional : Expression → ℕ → Expression → Expression → Expression
    Assign : Expression → ℕ → Option Arithmetic → Expression → Expression
    Comma : Expression → ℕ → Expression → Expression

  pub data Arguments : Type 0 where
    Done : Arguments
    Next : Expression → Arguments → Arguments

-- ---- the code's expressions

abbrev pub arguments : List Expression → Arguments
arguments [] = Done
arguments (e ∷ es) = Next e (arguments es)

abbrev pub node : opened.Expr-F Expression → Expression
node (opened.Literal at literal) = Constant at literal
node (opened.Variable name) = Variable name
node (opened.Information at field) = Information at field
node (opened.Call name es) = Call name (arguments es.items)
node (opened.Parentheses at e) = Parentheses at e.value
node (opened.Index a at i) = Index a.value at i.value
node (opened.Postfix e op at) = Postfix e.value op at
node (opened.Prefix at op e) = Prefix at op e.value
node (opened.Unary at op e) = Unary at op e.value
node (opened.Cast at to e) = Cast at to e.value
node (opened.Binary a at op b) = Binary a.value at op b.value
node (opened.Conditional c at a b) = Conditional c.value at a.value b.value
node (opened.Assign a at op b) = Assign a.value at op b.value
node (opened.Comma a at b) = Comma a.value at b.value

abbrev pub expression : Expr → Expression
expression = fold-Expr Expression node

-- ---- measures

-- how many expressions at most are around one of the parts; parentheses count, and a call is one
-- with its name
abbrev mutual
  pub height : Expression → ℕ
  height (Constant at literal) = 0
  height (Variable name) = 0
  height (Information at field) = 0
  height (Call name es) = heights es
  height (Parentheses at e) = 1 + height e
  height (Index a at i) = 1 + max (height a) (height i)
  height (Postfix e op at) = 1 + height e
  height (Prefix at op e) = 1 + height e
  height (Unary at op e) = 1 + height e
  height (Cast at to e) = 1 + height e
  height (Binary a at op b) = 1 + max (height a) (height b)
  height (Conditional c at a b) = 1 + max (height c) (max (height a) (height b))
  height (Assign a at op b) = 1 + max (height a) (height b)
  height (Comma a at b) = 1 + max (height a) (height b)

  pub heights : Arguments → ℕ
  heights Done = 0
  heights (Next e es) = max (1 + height e) (heights es)

-- the place of the first token
abbrev pub start : Expression → ℕ
start (Constant at literal) = at
start (Variable name) = name.start
start (Information at field) = at
start (Call name es) = name.start
start (Parentheses at e) = at
start (Index a at i) = start a
start (Postfix e op at) = start e
start (Prefix at op e) = at
start (Unary at op e) = at
start (Cast at to e) = at
start (Binary a at op b) = start a
start (Conditional c at a b) = start c
start (Assign a at op b) = start a
start (Comma a at b) = start a
