-- A part of a checked program names a local.
--
-- `statements_name`, `statements_share`: statements name a local; a filter or a `__finally` block
-- in them names it. A declaration names what it declares, and the base of what stands on the data
-- stack.
use Rattle.std.specs.Prelude.{ℕ, Bool, false, ◌||◌, nat_eq, List, [], ◌∷◌, Option, Some, None}
use Rattle.c_checked.specs.declared.statement.StackedVariable.{StackedVariable}
use Rattle.c_checked.specs.Expression as nodes
use Rattle.c_checked.specs.Expression.{Expression, On, Node, Lvalue, Local, Global, Stacked, Indirection, Element, Arguments, Done, Next}
use Rattle.c_checked.specs.Statement.{Declared, Filter, Always, Funclet, Statement, Declare, Block, Evaluate, If, IfElse, For, DoWhile, Return, Break, Continue, Leave, TryExcept, TryFinally, Statements, Empty, Then}

-- ---- expressions

abbrev mutual
  pub expression_names : ℕ → Expression → Bool
  expression_names x (On n c) = node_names x n

  pub node_names : ℕ → Node → Bool
  node_names x (nodes.Constant z n) = false
  node_names x (nodes.StackedArray base offset) = nat_eq x base
  node_names x (nodes.Read p) = lvalue_names x p
  node_names x (nodes.AddressOf p) = lvalue_names x p
  node_names x (nodes.Assign p e) = lvalue_names x p || expression_names x e
  node_names x (nodes.CompoundAssign p before o e after) =
      lvalue_names x p || expression_names x e
  node_names x (nodes.Increment m p before o n after) = lvalue_names x p
  node_names x (nodes.Unary o e) = expression_names x e
  node_names x (nodes.Binary o e f) = expression_names x e || expression_names x f
  node_names x (nodes.PointerDifference n e f) = expression_names x e || expression_names x f
  node_names x (nodes.Not e) = expression_names x e
  node_names x (nodes.And e f) = expression_names x e || expression_names x f
  node_names x (nodes.Or e f) = expression_names x e || expression_names x f
  node_names x (nodes.Conditional c e f) =
      expression_names x c || (expression_names x e || expression_names x f)
  node_names x (nodes.Comma e f) = expression_names x e || expression_names x f
  node_names x (nodes.Call f es) = arguments_name x es
  node_names x (nodes.CallBuiltIn k es) = arguments_name x es
  node_names x nodes.ExceptionCode = false
  node_names x (nodes.Information f) = false
  node_names x nodes.AbnormalTermination = false

  pub lvalue_names : ℕ → Lvalue → Bool
  lvalue_names x (Local y) = nat_eq x y
  lvalue_names x (Global access a) = false
  lvalue_names x (Stacked access base offset) = nat_eq x base
  lvalue_names x (Indirection access e) = expression_names x e
  lvalue_names x (Element access e i) = expression_names x e || expression_names x i

  pub arguments_name : ℕ → Arguments → Bool
  arguments_name x Done = false
  arguments_name x (Next e es) = expression_names x e || arguments_name x es

abbrev pub optional_names : ℕ → Option Expression → Bool
optional_names x None = false
optional_names x (Some e) = expression_names x e

-- a declaration names what it declares, and the base of what stands on the data stack
abbrev pub stacked_names : ℕ → Option StackedVariable → Bool
stacked_names x None = false
stacked_names x (Some v) = nat_eq x v.base

abbrev pub declared_names : ℕ → Declared → Bool
declared_names x d = nat_eq x d.local || (stacked_names x d.stacked || optional_names x d.value)

abbrev pub all_declared_name : ℕ → List Declared → Bool
all_declared_name x [] = false
all_declared_name x (d ∷ ds) = declared_names x d || all_declared_name x ds

abbrev pub filter_names : ℕ → Filter → Bool
filter_names x Always = false
filter_names x (Funclet k e) = expression_names x e

-- ---- statements

abbrev mutual
  pub statement_names : ℕ → Statement → Bool
  statement_names x (Declare d) = declared_names x d
  statement_names x (Block ss) = statements_name x ss
  statement_names x (Evaluate e) = optional_names x e
  statement_names x (If c s) = expression_names x c || statement_names x s
  statement_names x (IfElse c s t) =
      expression_names x c || (statement_names x s || statement_names x t)
  statement_names x (For ds first c next s) =
      all_declared_name x ds || (optional_names x first || (optional_names x c
      || (optional_names x next || statement_names x s)))
  statement_names x (DoWhile s c) = statement_names x s || expression_names x c
  statement_names x (Return e) = optional_names x e
  statement_names x Break = false
  statement_names x Continue = false
  statement_names x Leave = false
  statement_names x (TryExcept body filter block) =
      statements_name x body || (filter_names x filter || statements_name x block)
  statement_names x (TryFinally body k finally_block) =
      statements_name x body || statements_name x finally_block

  pub statements_name : ℕ → Statements → Bool
  statements_name x Empty = false
  statements_name x (Then s ss) = statement_names x s || statements_name x ss
