-- How many steps of the meaning an expression or a statement may begin without a turn of its linear
-- code.
--
-- `expression_weight`, `statement_weight`: how many steps of the meaning a part begins at most,
-- each of which may count before a turn is made. Of each function take the sum of what its body
-- begins so and of what its activation counts above 1. `steps_per_turn_of program` is twice the
-- greatest such sum, and 4 more.
use Rattle.std.specs.Prelude.{ℕ, ◌+◌, List, [], ◌∷◌, Option, None, Some}
use Rattle.c_checked.specs.Expression as nodes
use Rattle.c_checked.specs.Expression.{Expression, On, Node, Lvalue, Local, Global, Stacked, Indirection, Element, Arguments, Done, Next}
use Rattle.c_checked.specs.Statement.{Declared, Filter, Always, Funclet, Statement, Declare, Block, Evaluate, If, IfElse, For, DoWhile, Return, Break, Continue, Leave, TryExcept, TryFinally, Statements, Empty, Then}

abbrev mutual
  pub expression_weight : Expression → ℕ
  expression_weight (On n c) = 1 + node_weight n

  -- without the step of its own that a target has
  pub lvalue_weight : Lvalue → ℕ
  lvalue_weight (Local x) = 0
  lvalue_weight (Global access a) = 0
  lvalue_weight (Stacked access base offset) = 0
  lvalue_weight (Indirection access e) = expression_weight e
  lvalue_weight (Element access e i) = expression_weight e + expression_weight i

  pub arguments_weight : Arguments → ℕ
  arguments_weight Done = 0
  arguments_weight (Next e es) = expression_weight e + arguments_weight es

  pub node_weight : Node → ℕ
  node_weight (nodes.Constant z n) = 0
  node_weight (nodes.StackedArray base offset) = 0
  node_weight (nodes.Read p) = lvalue_weight p
  node_weight (nodes.AddressOf p) = 1 + lvalue_weight p
  node_weight (nodes.Assign p e) = 1 + lvalue_weight p + expression_weight e
  node_weight (nodes.CompoundAssign p before o e after) = 1 + lvalue_weight p + expression_weight e
  node_weight (nodes.Increment m p before o n after) = 1 + lvalue_weight p
  node_weight (nodes.Unary o e) = expression_weight e
  node_weight (nodes.Binary o e f) = expression_weight e + expression_weight f
  node_weight (nodes.PointerDifference n e f) = expression_weight e + expression_weight f
  node_weight (nodes.Not e) = expression_weight e
  node_weight (nodes.And e f) = expression_weight e + expression_weight f
  node_weight (nodes.Or e f) = expression_weight e + expression_weight f
  node_weight (nodes.Conditional c e f) =
      expression_weight c + expression_weight e + expression_weight f
  node_weight (nodes.Comma e f) = expression_weight e + expression_weight f
  node_weight (nodes.Call f es) = arguments_weight es
  node_weight (nodes.CallBuiltIn k es) = arguments_weight es
  node_weight nodes.ExceptionCode = 0
  node_weight (nodes.Information f) = 0
  node_weight nodes.AbnormalTermination = 0

-- ---- statements

abbrev pub optional_weight : Option Expression → ℕ
optional_weight None = 0
optional_weight (Some e) = expression_weight e

abbrev pub declared_weight : Declared → ℕ
declared_weight d = 1 + optional_weight d.value

abbrev pub all_declared_weight : List Declared → ℕ
all_declared_weight [] = 0
all_declared_weight (d ∷ ds) = declared_weight d + all_declared_weight ds

abbrev pub filter_weight : Filter → ℕ
filter_weight Always = 0
filter_weight (Funclet k e) = expression_weight e

abbrev mutual
  pub statement_weight : Statement → ℕ
  statement_weight (Declare d) = declared_weight d
  statement_weight (Block ss) = 1 + statements_weight ss
  statement_weight (Evaluate e) = 1 + optional_weight e
  statement_weight (If c s) = 1 + expression_weight c + statement_weight s
  statement_weight (IfElse c s t) =
      1 + expression_weight c + statement_weight s + statement_weight t
  statement_weight (For ds first c next s) =
      2 + all_declared_weight ds + optional_weight first + optional_weight c + statement_weight s
      + optional_weight next
  statement_weight (DoWhile s c) = 2 + statement_weight s + expression_weight c
  statement_weight (Return e) = 1 + optional_weight e
  statement_weight Break = 1
  statement_weight Continue = 1
  statement_weight Leave = 1
  statement_weight (TryExcept body filter block) =
      2 + statements_weight body + filter_weight filter + statements_weight block
  statement_weight (TryFinally body k last) = 3 + statements_weight body + statements_weight last

  pub statements_weight : Statements → ℕ
  statements_weight Empty = 0
  statements_weight (Then s ss) = statement_weight s + statements_weight ss
