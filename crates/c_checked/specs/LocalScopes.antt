-- Each local that a part of a program names is a parameter, or was declared before, in a block
-- around the part.
--
-- The main definition: `IsScoped`.
use Rattle.std.specs.Prelude.{◌≡◌, ℕ, Bool, true, false, ◌&&◌, ◌||◌, nat_eq, nat_lt, List, [], ◌∷◌, length, Option, Some, None}
use Rattle.c_checked.specs.Expression as nodes
use Rattle.c_checked.specs.Expression.{Expression, On, Node, Lvalue, Local, Global, Stacked, Indirection, Element, Arguments, Done, Next}
use Rattle.c_checked.specs.Statement.{Declared, Filter, Always, Funclet, Statement, Declare, Block, Evaluate, If, IfElse, For, DoWhile, Return, Break, Continue, Leave, TryExcept, TryFinally, Statements, Empty, Then}
use Rattle.c_checked.specs.Program.{DataFrame, Program, Function}
use Rattle.c_checked.specs.declared.statement.StackedVariable.{StackedVariable}

-- the locals that are declared so far
abbrev pub SeenNames : Type 0
SeenNames = ℕ → Bool

abbrev pub with_local : ℕ → SeenNames → SeenNames
with_local x seen y = nat_eq y x || seen y

-- each local of the one is in the other
abbrev pub IsPart : SeenNames → SeenNames → Type 0
IsPart a b = (x : ℕ) → a x ≡ true → b x ≡ true

-- a function's parameters are its first locals; its base is there from its beginning on
abbrev pub is_base : Option DataFrame → SeenNames
is_base None x = false
is_base (Some d) x = nat_eq x d.base

abbrev pub first_seen : ℕ → Option DataFrame → SeenNames
first_seen parameters frame x = nat_lt x parameters || is_base frame x

-- ---- expressions

abbrev mutual
  pub expression_within : SeenNames → Expression → Bool
  expression_within seen (On n c) = node_within seen n

  pub node_within : SeenNames → Node → Bool
  node_within seen (nodes.Constant z n) = true
  node_within seen (nodes.StackedArray base offset) = seen base
  node_within seen (nodes.Read p) = lvalue_within seen p
  node_within seen (nodes.AddressOf p) = lvalue_within seen p
  node_within seen (nodes.Assign p e) = lvalue_within seen p && expression_within seen e
  node_within seen (nodes.CompoundAssign p before o e after) =
      lvalue_within seen p && expression_within seen e
  node_within seen (nodes.Increment m p before o n after) = lvalue_within seen p
  node_within seen (nodes.Unary o e) = expression_within seen e
  node_within seen (nodes.Binary o e f) = expression_within seen e && expression_within seen f
  node_within seen (nodes.PointerDifference n e f) =
      expression_within seen e && expression_within seen f
  node_within seen (nodes.Not e) = expression_within seen e
  node_within seen (nodes.And e f) = expression_within seen e && expression_within seen f
  node_within seen (nodes.Or e f) = expression_within seen e && expression_within seen f
  node_within seen (nodes.Conditional c e f) =
      expression_within seen c && expression_within seen e && expression_within seen f
  node_within seen (nodes.Comma e f) = expression_within seen e && expression_within seen f
  node_within seen (nodes.Call f es) = arguments_within seen es
  node_within seen (nodes.CallBuiltIn k es) = arguments_within seen es
  node_within seen nodes.ExceptionCode = true
  node_within seen (nodes.Information f) = true
  node_within seen nodes.AbnormalTermination = true

  pub lvalue_within : SeenNames → Lvalue → Bool
  lvalue_within seen (Local x) = seen x
  lvalue_within seen (Global access a) = true
  lvalue_within seen (Stacked access base offset) = seen base
  lvalue_within seen (Indirection access e) = expression_within seen e
  lvalue_within seen (Element access e i) = expression_within seen e && expression_within seen i

  pub arguments_within : SeenNames → Arguments → Bool
  arguments_within seen Done = true
  arguments_within seen (Next e es) = expression_within seen e && arguments_within seen es

abbrev pub optional_within : SeenNames → Option Expression → Bool
optional_within seen None = true
optional_within seen (Some e) = expression_within seen e

-- ---- declarations: a name is seen in its own initialiser; the local of a variable on the data
-- stack isn't used

abbrev pub with_declared : Option StackedVariable → ℕ → SeenNames → SeenNames
with_declared None x seen = with_local x seen
with_declared (Some v) x seen = seen

abbrev pub after_declared : SeenNames → Declared → SeenNames
after_declared seen d = with_declared d.stacked d.local seen

-- a variable on the data stack stands above the base
abbrev pub stacked_within : SeenNames → Option StackedVariable → Bool
stacked_within seen None = true
stacked_within seen (Some v) = seen v.base

abbrev pub declared_within : SeenNames → Declared → Bool
declared_within seen d =
    stacked_within seen d.stacked && optional_within (after_declared seen d) d.value

abbrev pub after_all_declared : SeenNames → List Declared → SeenNames
after_all_declared seen [] = seen
after_all_declared seen (d ∷ ds) = after_all_declared (after_declared seen d) ds

abbrev pub all_declared_within : SeenNames → List Declared → Bool
all_declared_within seen [] = true
all_declared_within seen (d ∷ ds) =
    declared_within seen d && all_declared_within (after_declared seen d) ds

-- ---- statements: what one declares, those after it in its block see

abbrev pub after_statement : SeenNames → Statement → SeenNames
after_statement seen (Declare d) = after_declared seen d
after_statement seen other = seen

abbrev pub filter_within : SeenNames → Filter → Bool
filter_within seen Always = true
filter_within seen (Funclet k e) = expression_within seen e

abbrev mutual
  pub statement_within : SeenNames → Statement → Bool
  statement_within seen (Declare d) = declared_within seen d
  statement_within seen (Block ss) = statements_within seen ss
  statement_within seen (Evaluate e) = optional_within seen e
  statement_within seen (If c s) = expression_within seen c && statement_within seen s
  statement_within seen (IfElse c s t) =
      expression_within seen c && statement_within seen s && statement_within seen t
  statement_within seen (For ds first c next s) =
      let inner = after_all_declared seen ds in
      all_declared_within seen ds && optional_within inner first && optional_within inner c &&
      optional_within inner next && statement_within inner s
  statement_within seen (DoWhile s c) = expression_within seen c && statement_within seen s
  statement_within seen (Return e) = optional_within seen e
  statement_within seen Break = true
  statement_within seen Continue = true
  statement_within seen Leave = true
  statement_within seen (TryExcept body filter block) =
      statements_within seen body && filter_within seen filter && statements_within seen block
  statement_within seen (TryFinally body k finally_block) =
      statements_within seen body && statements_within seen finally_block

  pub statements_within : SeenNames → Statements → Bool
  statements_within seen Empty = true
  statements_within seen (Then s ss) =
      statement_within seen s && statements_within (after_statement seen s) ss

-- ---- programs

abbrev pub function_within : Function → Bool
function_within f = statements_within (first_seen (length f.parameters) f.data_frame) f.body

abbrev pub functions_within : List Function → Bool
functions_within [] = true
functions_within (f ∷ fs) = function_within f && functions_within fs

abbrev pub is_scoped : Program → Bool
is_scoped p = functions_within p.functions

-- each local that a part names is a parameter, or was declared before, in a block around the part
abbrev pub IsScoped : Program → Type 0
IsScoped p = is_scoped p ≡ true
