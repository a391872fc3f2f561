-- The variables whose addresses a function takes.
use Rattle.std.specs.Prelude.{ℕ, Bool, true, false, ◌||◌, List, [], ◌∷◌, slice_set, Option, Some, None}
use Rattle.c_checked.specs.Expression as nodes
use Rattle.c_checked.specs.Expression.{Expression, On, Node, Lvalue, Local, Global, Stacked, Indirection, Element, Arguments, Done, Next}
use Rattle.c_checked.specs.Statement.{Declared, Filter, Always, Funclet, Statement, Declare, Block, Evaluate, If, IfElse, For, DoWhile, Return, Break, Continue, Leave, TryExcept, TryFinally, Statements, Empty, Then}

-- whether each variable, by its number, is the operand of an `&`: this one is
abbrev pub with_address : ℕ → List Bool → List Bool
with_address x marks = slice_set marks x true

-- ---- expressions: the marks after those of the variables whose addresses they take

abbrev mutual
  pub mark_expression : Expression → List Bool → List Bool
  mark_expression (On n c) marks = mark_node n marks

  pub mark_node : Node → List Bool → List Bool
  mark_node (nodes.Constant z n) marks = marks
  mark_node (nodes.StackedArray base offset) marks = marks
  mark_node (nodes.Read p) marks = mark_lvalue p marks
  mark_node (nodes.AddressOf p) marks = mark_address p marks
  mark_node (nodes.Assign p e) marks = mark_expression e (mark_lvalue p marks)
  mark_node (nodes.CompoundAssign p before o e after) marks =
      mark_expression e (mark_lvalue p marks)
  mark_node (nodes.Increment m p before o n after) marks = mark_lvalue p marks
  mark_node (nodes.Unary o e) marks = mark_expression e marks
  mark_node (nodes.Binary o e f) marks = mark_expression f (mark_expression e marks)
  mark_node (nodes.PointerDifference n e f) marks = mark_expression f (mark_expression e marks)
  mark_node (nodes.Not e) marks = mark_expression e marks
  mark_node (nodes.And e f) marks = mark_expression f (mark_expression e marks)
  mark_node (nodes.Or e f) marks = mark_expression f (mark_expression e marks)
  mark_node (nodes.Conditional c e f) marks =
      mark_expression f (mark_expression e (mark_expression c marks))
  mark_node (nodes.Comma e f) marks = mark_expression f (mark_expression e marks)
  mark_node (nodes.Call f es) marks = mark_arguments es marks
  mark_node (nodes.CallBuiltIn k es) marks = mark_arguments es marks
  mark_node nodes.ExceptionCode marks = marks
  mark_node (nodes.Information f) marks = marks
  mark_node nodes.AbnormalTermination marks = marks

  pub mark_lvalue : Lvalue → List Bool → List Bool
  mark_lvalue (Local x) marks = marks
  mark_lvalue (Global access a) marks = marks
  mark_lvalue (Stacked access base offset) marks = marks
  mark_lvalue (Indirection access e) marks = mark_expression e marks
  mark_lvalue (Element access e i) marks = mark_expression i (mark_expression e marks)

  -- the operand of an `&`
  pub mark_address : Lvalue → List Bool → List Bool
  mark_address (Local x) marks = with_address x marks
  mark_address (Global access a) marks = marks
  mark_address (Stacked access base offset) marks = marks
  mark_address (Indirection access e) marks = mark_expression e marks
  mark_address (Element access e i) marks = mark_expression i (mark_expression e marks)

  pub mark_arguments : Arguments → List Bool → List Bool
  mark_arguments Done marks = marks
  mark_arguments (Next e es) marks = mark_arguments es (mark_expression e marks)

-- ---- statements

abbrev pub mark_optional : Option Expression → List Bool → List Bool
mark_optional None marks = marks
mark_optional (Some e) marks = mark_expression e marks

abbrev pub mark_all_declared : List Declared → List Bool → List Bool
mark_all_declared [] marks = marks
mark_all_declared (d ∷ ds) marks = mark_all_declared ds (mark_optional d.value marks)

abbrev pub mark_filter : Filter → List Bool → List Bool
mark_filter Always marks = marks
mark_filter (Funclet k e) marks = mark_expression e marks

abbrev mutual
  pub mark_statement : Statement → List Bool → List Bool
  mark_statement (Declare d) marks = mark_optional d.value marks
  mark_statement (Block ss) marks = mark_statements ss marks
  mark_statement (Evaluate e) marks = mark_optional e marks
  mark_statement (If c s) marks = mark_statement s (mark_expression c marks)
  mark_statement (IfElse c s t) marks =
      mark_statement t (mark_statement s (mark_expression c marks))
  mark_statement (For ds first c next s) marks =
      mark_statement s
      (mark_optional next (mark_optional c (mark_optional first (mark_all_declared ds marks))))
  mark_statement (DoWhile s c) marks = mark_expression c (mark_statement s marks)
  mark_statement (Return e) marks = mark_optional e marks
  mark_statement Break marks = marks
  mark_statement Continue marks = marks
  mark_statement Leave marks = marks
  mark_statement (TryExcept body filter block) marks =
      mark_statements block (mark_filter filter (mark_statements body marks))
  mark_statement (TryFinally body k finally_block) marks =
      mark_statements finally_block (mark_statements body marks)

  pub mark_statements : Statements → List Bool → List Bool
  mark_statements Empty marks = marks
  mark_statements (Then s ss) marks = mark_statements ss (mark_statement s marks)

-- ---- a `__try` statement among others

abbrev mutual
  pub holds_try : Statement → Bool
  holds_try (Block ss) = hold_try ss
  holds_try (If c s) = holds_try s
  holds_try (IfElse c s t) = holds_try s || holds_try t
  holds_try (For ds first c next s) = holds_try s
  holds_try (DoWhile s c) = holds_try s
  holds_try (TryExcept body filter block) = true
  holds_try (TryFinally body k finally_block) = true
  holds_try other = false

  pub hold_try : Statements → Bool
  hold_try Empty = false
  hold_try (Then s ss) = holds_try s || hold_try ss
