-- Whether a program names `walk`: in an expression of a statement, of a filter, or of a `__finally`
-- block of one of its functions.
--
-- The main definition: `names_walk`.
use Rattle.std.specs.Prelude.{ℕ, Bool, true, false, ◌||◌, List, [], ◌∷◌, Option, Some, None}
use Rattle.c_operations.specs.declared.built_in.BuiltIn.{BuiltIn}
use Rattle.c_operations.specs.declared.built_in.BuiltIn.TheVariants.{Put, Protect, RaiseException, Walk, AddVectored, RemoveVectored}
use Rattle.c_checked.specs.declared.statement.StackedVariable.{StackedVariable}
use Rattle.c_checked.specs.Expression as nodes
use Rattle.c_checked.specs.Expression.{Expression, On, Node, Lvalue, Local, Global, Stacked, Indirection, Element, Arguments, Done, Next}
use Rattle.c_checked.specs.Statement.{Declared, Filter, Always, Funclet, Statement, Declare, Block, Evaluate, If, IfElse, For, DoWhile, Return, Break, Continue, Leave, TryExcept, TryFinally, Statements, Empty, Then}
use Rattle.c_checked.specs.Program.{Program, Function}

abbrev pub is_walk : BuiltIn → Bool
is_walk Put = false
is_walk Protect = false
is_walk RaiseException = false
is_walk Walk = true
is_walk (AddVectored f) = false
is_walk (RemoveVectored f) = false

-- ---- expressions

abbrev mutual
  pub expression_walks : Expression → Bool
  expression_walks (On n c) = node_walks n

  pub place_walks : Lvalue → Bool
  place_walks (Local x) = false
  place_walks (Global access a) = false
  place_walks (Stacked access base offset) = false
  place_walks (Indirection access e) = expression_walks e
  place_walks (Element access e i) = expression_walks e || expression_walks i

  pub arguments_walk : Arguments → Bool
  arguments_walk Done = false
  arguments_walk (Next e es) = expression_walks e || arguments_walk es

  pub node_walks : Node → Bool
  node_walks (nodes.CallBuiltIn k es) = arguments_walk es || is_walk k
  node_walks (nodes.Call f es) = arguments_walk es
  node_walks (nodes.Read p) = place_walks p
  node_walks (nodes.AddressOf p) = place_walks p
  node_walks (nodes.Assign p e) = place_walks p || expression_walks e
  node_walks (nodes.CompoundAssign p before o e after) = place_walks p || expression_walks e
  node_walks (nodes.Increment m p before o n after) = place_walks p
  node_walks (nodes.Unary o e) = expression_walks e
  node_walks (nodes.Binary o e f) = expression_walks e || expression_walks f
  node_walks (nodes.PointerDifference n e f) = expression_walks e || expression_walks f
  node_walks (nodes.Not e) = expression_walks e
  node_walks (nodes.And e f) = expression_walks e || expression_walks f
  node_walks (nodes.Or e f) = expression_walks e || expression_walks f
  node_walks (nodes.Conditional c e f) =
      expression_walks c || (expression_walks e || expression_walks f)
  node_walks (nodes.Comma e f) = expression_walks e || expression_walks f
  node_walks (nodes.Constant z n) = false
  node_walks (nodes.StackedArray base offset) = false
  node_walks nodes.ExceptionCode = false
  node_walks (nodes.Information f) = false
  node_walks nodes.AbnormalTermination = false

abbrev pub optional_walks : Option Expression → Bool
optional_walks None = false
optional_walks (Some e) = expression_walks e

-- ---- declarations

-- an array has no initialiser
abbrev pub elements_walk : Option ℕ → Option Expression → Bool
elements_walk None e = optional_walks e
elements_walk (Some n) e = false

abbrev pub declared_at_walks : Option StackedVariable → Option Expression → Bool
declared_at_walks None e = optional_walks e
declared_at_walks (Some v) e = elements_walk v.elements e

abbrev pub declared_walks : List Declared → Bool
declared_walks [] = false
declared_walks (d ∷ ds) = declared_at_walks d.stacked d.value || declared_walks ds

-- ---- statements

abbrev pub filter_walks : Filter → Bool
filter_walks Always = false
filter_walks (Funclet k e) = expression_walks e

abbrev mutual
  pub statement_walks : Statement → Bool
  statement_walks (Declare d) = declared_at_walks d.stacked d.value
  statement_walks (Block ss) = statements_walk ss
  statement_walks (Evaluate e) = optional_walks e
  statement_walks (If c s) = expression_walks c || statement_walks s
  statement_walks (IfElse c s t) = expression_walks c || (statement_walks s || statement_walks t)
  statement_walks (For ds first c next s) =
      declared_walks ds || (optional_walks first || (optional_walks c || (statement_walks s
      || optional_walks next)))
  statement_walks (DoWhile s c) = statement_walks s || expression_walks c
  statement_walks (Return e) = optional_walks e
  statement_walks Break = false
  statement_walks Continue = false
  statement_walks Leave = false
  statement_walks (TryExcept body filter block) =
      statements_walk body || (filter_walks filter || statements_walk block)
  statement_walks (TryFinally body k finally_block) =
      statements_walk body || statements_walk finally_block

  pub statements_walk : Statements → Bool
  statements_walk Empty = false
  statements_walk (Then s ss) = statement_walks s || statements_walk ss

-- ---- programs

abbrev pub functions_walk : List Function → Bool
functions_walk [] = false
functions_walk (f ∷ fs) = statements_walk f.body || functions_walk fs

-- a function of the program names `walk`
abbrev pub names_walk : Program → Bool
names_walk p = functions_walk p.functions
