-- How deep expressions are nested in a checked program, and how many parameters of an exception it
-- names.
--
-- `expression_nesting`, `most_of`, `IsShallow`: how many expressions are around the innermost one,
-- the largest such number in statements, and a function within the limits. These are 64 of
-- expressions, 65 blocks of `__except` and `__finally` inside one another and one declared array,
-- and no parameter of an exception after the fifteenth (Windows headers, `winnt.h`).
use Rattle.std.specs.Prelude.{ℕ, suc, ◌+◌, ◌≤◌, max, List, [], ◌∷◌, Option, Some, None}
use Rattle.seh_num.specs.declared.size.TheConstants.{EXCEPTION_MAXIMUM_PARAMETERS}
use Rattle.c_operations.specs.declared.field.Field.{Field}
use Rattle.c_operations.specs.declared.field.Field.TheVariants.{ExceptionInformation}
use Rattle.c_checked.specs.Expression as nodes
use Rattle.c_checked.specs.Expression.{Expression, On, Node, Lvalue, Local, Global, Stacked, Indirection, Element, Arguments, Done, Next}
use Rattle.c_checked.specs.Program.{Function}
use Rattle.c_checked.specs.Statement.{Declared, Filter, Always, Funclet, Statement, Declare, Block, Evaluate, If, IfElse, For, DoWhile, Return, Break, Continue, Leave, TryExcept, TryFinally, Statements, Empty, Then}
use Rattle.lowering_sizes.specs.Sizes.{statements_notes}

-- ---- how many expressions are around one of the parts

abbrev mutual
  pub expression_nesting : Expression → ℕ
  expression_nesting (On n c) = node_nesting n

  -- of a place that is read
  pub lvalue_nesting : Lvalue → ℕ
  lvalue_nesting (Local x) = 0
  lvalue_nesting (Global access a) = 0
  lvalue_nesting (Stacked access base offset) = 0
  lvalue_nesting (Indirection access e) = 1 + expression_nesting e
  lvalue_nesting (Element access e i) = 1 + max (expression_nesting e) (expression_nesting i)

  pub arguments_nesting : Arguments → ℕ
  arguments_nesting Done = 0
  arguments_nesting (Next e es) = max (1 + expression_nesting e) (arguments_nesting es)

  pub node_nesting : Node → ℕ
  node_nesting (nodes.Constant z n) = 0
  node_nesting (nodes.StackedArray base offset) = 0
  node_nesting (nodes.Read p) = lvalue_nesting p
  node_nesting (nodes.AddressOf p) = 1 + lvalue_nesting p
  node_nesting (nodes.Assign p e) = 1 + max (lvalue_nesting p) (expression_nesting e)
  node_nesting (nodes.CompoundAssign p before o e after) =
      1 + max (lvalue_nesting p) (expression_nesting e)
  node_nesting (nodes.Increment m p before o n after) = 1 + lvalue_nesting p
  node_nesting (nodes.Unary o e) = 1 + expression_nesting e
  node_nesting (nodes.Binary o e f) = 1 + max (expression_nesting e) (expression_nesting f)
  node_nesting (nodes.PointerDifference n e f) =
      1 + max (expression_nesting e) (expression_nesting f)
  node_nesting (nodes.Not e) = 1 + expression_nesting e
  node_nesting (nodes.And e f) = 1 + max (expression_nesting e) (expression_nesting f)
  node_nesting (nodes.Or e f) = 1 + max (expression_nesting e) (expression_nesting f)
  node_nesting (nodes.Conditional c e f) =
      1 + max (expression_nesting c) (max (expression_nesting e) (expression_nesting f))
  node_nesting (nodes.Comma e f) = 1 + max (expression_nesting e) (expression_nesting f)
  node_nesting (nodes.Call f es) = arguments_nesting es
  node_nesting (nodes.CallBuiltIn k es) = arguments_nesting es
  node_nesting nodes.ExceptionCode = 0
  node_nesting (nodes.Information f) = 0
  node_nesting nodes.AbnormalTermination = 0

-- ---- how many parameters an exception has at least, where those that are read are there

abbrev pub parameters_for : Field → ℕ
parameters_for (ExceptionInformation k) = suc k
parameters_for f = 0

abbrev mutual
  pub expression_reads : Expression → ℕ
  expression_reads (On n c) = node_reads n

  pub lvalue_reads : Lvalue → ℕ
  lvalue_reads (Local x) = 0
  lvalue_reads (Global access a) = 0
  lvalue_reads (Stacked access base offset) = 0
  lvalue_reads (Indirection access e) = expression_reads e
  lvalue_reads (Element access e i) = max (expression_reads e) (expression_reads i)

  pub arguments_read : Arguments → ℕ
  arguments_read Done = 0
  arguments_read (Next e es) = max (expression_reads e) (arguments_read es)

  pub node_reads : Node → ℕ
  node_reads (nodes.Constant z n) = 0
  node_reads (nodes.StackedArray base offset) = 0
  node_reads (nodes.Read p) = lvalue_reads p
  node_reads (nodes.AddressOf p) = lvalue_reads p
  node_reads (nodes.Assign p e) = max (lvalue_reads p) (expression_reads e)
  node_reads (nodes.CompoundAssign p before o e after) = max (lvalue_reads p) (expression_reads e)
  node_reads (nodes.Increment m p before o n after) = lvalue_reads p
  node_reads (nodes.Unary o e) = expression_reads e
  node_reads (nodes.Binary o e f) = max (expression_reads e) (expression_reads f)
  node_reads (nodes.PointerDifference n e f) = max (expression_reads e) (expression_reads f)
  node_reads (nodes.Not e) = expression_reads e
  node_reads (nodes.And e f) = max (expression_reads e) (expression_reads f)
  node_reads (nodes.Or e f) = max (expression_reads e) (expression_reads f)
  node_reads (nodes.Conditional c e f) =
      max (expression_reads c) (max (expression_reads e) (expression_reads f))
  node_reads (nodes.Comma e f) = max (expression_reads e) (expression_reads f)
  node_reads (nodes.Call f es) = arguments_read es
  node_reads (nodes.CallBuiltIn k es) = arguments_read es
  node_reads nodes.ExceptionCode = 0
  node_reads (nodes.Information f) = parameters_for f
  node_reads nodes.AbnormalTermination = 0

-- ---- the largest such number of the expressions in statements

abbrev pub most_of_optional : (Expression → ℕ) → Option Expression → ℕ
most_of_optional f None = 0
most_of_optional f (Some e) = f e

abbrev pub most_of_declared : (Expression → ℕ) → List Declared → ℕ
most_of_declared f [] = 0
most_of_declared f (d ∷ ds) = max (most_of_optional f d.value) (most_of_declared f ds)

abbrev pub most_of_filter : (Expression → ℕ) → Filter → ℕ
most_of_filter f Always = 0
most_of_filter f (Funclet k e) = f e

abbrev mutual
  pub most_of_statement : (Expression → ℕ) → Statement → ℕ
  most_of_statement f (Declare d) = most_of_optional f d.value
  most_of_statement f (Block ss) = most_of f ss
  most_of_statement f (Evaluate e) = most_of_optional f e
  most_of_statement f (If c s) = max (f c) (most_of_statement f s)
  most_of_statement f (IfElse c s t) =
      max (f c) (max (most_of_statement f s) (most_of_statement f t))
  most_of_statement f (For ds first c next s) =
      max (most_of_declared f ds) (max (most_of_optional f first)
      (max (most_of_optional f c) (max (most_of_optional f next) (most_of_statement f s))))
  most_of_statement f (DoWhile s c) = max (most_of_statement f s) (f c)
  most_of_statement f (Return e) = most_of_optional f e
  most_of_statement f Break = 0
  most_of_statement f Continue = 0
  most_of_statement f Leave = 0
  most_of_statement f (TryExcept body filter block) =
      max (most_of f body) (max (most_of_filter f filter) (most_of f block))
  most_of_statement f (TryFinally body k last) = max (most_of f body) (most_of f last)

  pub most_of : (Expression → ℕ) → Statements → ℕ
  most_of f Empty = 0
  most_of f (Then s ss) = max (most_of_statement f s) (most_of f ss)

-- ---- programs

-- within the limits of nesting, and of the parameters of an exception; 65 blocks are around what is
-- in the innermost, and an array has a note where it is declared
pub record IsShallow (fn : Function) : Type 0 where
  pub expressions : most_of expression_nesting fn.body ≤ 64
  pub parameters : most_of expression_reads fn.body ≤ EXCEPTION_MAXIMUM_PARAMETERS
  pub blocks : statements_notes fn.body ≤ 66

abbrev pub AreShallow : List Function → Type 0
AreShallow [] = Unit {0}
AreShallow (f ∷ fs) = IsShallow f × AreShallow fs
