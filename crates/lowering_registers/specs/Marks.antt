-- Marks of locals, one for each, and a part that marks those that it names, or that its filters and
-- `__finally` blocks name, or those of variables on the data stack.
use Rattle.std.specs.Prelude.{ℕ, ◌+◌, Bool, true, List, [], ◌∷◌, Option, Some, None, slice_set}
use Rattle.c_checked.specs.declared.statement.StackedVariable.{StackedVariable}
use Rattle.c_checked.specs.declared.function.StackedParameter.{StackedParameter}
use Rattle.c_checked.specs.Program.{DataFrame}
use Rattle.c_checked.specs.Expression as nodes
use Rattle.c_checked.specs.Expression.{Expression, On, Node, Lvalue, Local, Global, Stacked, Indirection, Element, Arguments, Done, Next}
use Rattle.c_checked.specs.Statement.{Declared, Filter, Always, Funclet, Statement, Declare, Block, Evaluate, If, IfElse, For, DoWhile, Return, Break, Continue, Leave, TryExcept, TryFinally, Statements, Empty, Then}
use Rattle.lowering_registers.specs.Shared.{unshared_if}

-- ---- what an expression names

abbrev pub with_mark : ℕ → List Bool → List Bool
with_mark x marks = slice_set marks x true

abbrev mutual
  pub with_expression : Expression → List Bool → List Bool
  with_expression (On n c) marks = with_node n marks

  pub with_node : Node → List Bool → List Bool
  with_node (nodes.Constant z n) marks = marks
  with_node (nodes.StackedArray base offset) marks = with_mark base marks
  with_node (nodes.Read p) marks = with_lvalue p marks
  with_node (nodes.AddressOf p) marks = with_lvalue p marks
  with_node (nodes.Assign p e) marks = with_expression e (with_lvalue p marks)
  with_node (nodes.CompoundAssign p before o e after) marks =
      with_expression e (with_lvalue p marks)
  with_node (nodes.Increment m p before o n after) marks = with_lvalue p marks
  with_node (nodes.Unary o e) marks = with_expression e marks
  with_node (nodes.Binary o e f) marks = with_expression f (with_expression e marks)
  with_node (nodes.PointerDifference n e f) marks = with_expression f (with_expression e marks)
  with_node (nodes.Not e) marks = with_expression e marks
  with_node (nodes.And e f) marks = with_expression f (with_expression e marks)
  with_node (nodes.Or e f) marks = with_expression f (with_expression e marks)
  with_node (nodes.Conditional c e f) marks =
      with_expression f (with_expression e (with_expression c marks))
  with_node (nodes.Comma e f) marks = with_expression f (with_expression e marks)
  with_node (nodes.Call f es) marks = with_arguments es marks
  with_node (nodes.CallBuiltIn k es) marks = with_arguments es marks
  with_node nodes.ExceptionCode marks = marks
  with_node (nodes.Information f) marks = marks
  with_node nodes.AbnormalTermination marks = marks

  pub with_lvalue : Lvalue → List Bool → List Bool
  with_lvalue (Local y) marks = with_mark y marks
  with_lvalue (Global access a) marks = marks
  with_lvalue (Stacked access base offset) marks = with_mark base marks
  with_lvalue (Indirection access e) marks = with_expression e marks
  with_lvalue (Element access e i) marks = with_expression i (with_expression e marks)

  pub with_arguments : Arguments → List Bool → List Bool
  with_arguments Done marks = marks
  with_arguments (Next e es) marks = with_arguments es (with_expression e marks)

-- ---- what a statement names

abbrev pub with_optional : Option Expression → List Bool → List Bool
with_optional None marks = marks
with_optional (Some e) marks = with_expression e marks

abbrev pub with_base : Option StackedVariable → List Bool → List Bool
with_base None marks = marks
with_base (Some v) marks = with_mark v.base marks

abbrev pub with_declared : Declared → List Bool → List Bool
with_declared d marks = with_optional d.value (with_base d.stacked (with_mark d.local marks))

abbrev pub with_all_declared : List Declared → List Bool → List Bool
with_all_declared [] marks = marks
with_all_declared (d ∷ ds) marks = with_all_declared ds (with_declared d marks)

abbrev pub with_filter : Filter → List Bool → List Bool
with_filter Always marks = marks
with_filter (Funclet k e) marks = with_expression e marks

abbrev mutual
  pub with_statement : Statement → List Bool → List Bool
  with_statement (Declare d) marks = with_declared d marks
  with_statement (Block ss) marks = with_statements ss marks
  with_statement (Evaluate e) marks = with_optional e marks
  with_statement (If c s) marks = with_statement s (with_expression c marks)
  with_statement (IfElse c s t) marks =
      with_statement t (with_statement s (with_expression c marks))
  with_statement (For ds first c next s) marks =
      with_statement s (with_optional next (with_optional c
      (with_optional first (with_all_declared ds marks))))
  with_statement (DoWhile s c) marks = with_expression c (with_statement s marks)
  with_statement (Return e) marks = with_optional e marks
  with_statement Break marks = marks
  with_statement Continue marks = marks
  with_statement Leave marks = marks
  with_statement (TryExcept body filter block) marks =
      with_statements block (with_filter filter (with_statements body marks))
  with_statement (TryFinally body k finally_block) marks =
      with_statements finally_block (with_statements body marks)

  pub with_statements : Statements → List Bool → List Bool
  with_statements Empty marks = marks
  with_statements (Then s ss) marks = with_statements ss (with_statement s marks)

-- ---- what filters and `__finally` blocks name, and what is declared on the data stack

abbrev pub with_mark_at : Option StackedVariable → ℕ → List Bool → List Bool
with_mark_at None x marks = marks
with_mark_at (Some v) x marks = with_mark x marks

abbrev pub with_stacked : Declared → List Bool → List Bool
with_stacked d marks = with_mark_at d.stacked d.local marks

abbrev pub with_all_stacked : List Declared → List Bool → List Bool
with_all_stacked [] marks = marks
with_all_stacked (d ∷ ds) marks = with_all_stacked ds (with_stacked d marks)

abbrev mutual
  pub with_shared : Statement → List Bool → List Bool
  with_shared (Declare d) marks = with_stacked d marks
  with_shared (Block ss) marks = with_all_shared ss marks
  with_shared (Evaluate e) marks = marks
  with_shared (If c s) marks = with_shared s marks
  with_shared (IfElse c s t) marks = with_shared t (with_shared s marks)
  with_shared (For ds first c next s) marks = with_shared s (with_all_stacked ds marks)
  with_shared (DoWhile s c) marks = with_shared s marks
  with_shared (Return e) marks = marks
  with_shared Break marks = marks
  with_shared Continue marks = marks
  with_shared Leave marks = marks
  with_shared (TryExcept body filter block) marks =
      with_all_shared block (with_filter filter (with_all_shared body marks))
  with_shared (TryFinally body k finally_block) marks =
      with_statements finally_block (with_all_shared body marks)

  pub with_all_shared : Statements → List Bool → List Bool
  with_all_shared Empty marks = marks
  with_all_shared (Then s ss) marks = with_all_shared ss (with_shared s marks)

-- ---- the base of a function's part of the data stack, and its parameters there

abbrev pub with_brought : List StackedParameter → List Bool → List Bool
with_brought [] marks = marks
with_brought (p ∷ ps) marks = with_brought ps (with_mark p.parameter marks)

abbrev pub with_kept : Option DataFrame → List Bool → List Bool
with_kept None marks = marks
with_kept (Some d) marks = with_brought d.parameters (with_mark d.base marks)

-- ---- the locals from a number on that aren't marked

abbrev pub unmarked : List Bool → ℕ → List ℕ
unmarked [] x = []
unmarked (b ∷ bs) x = unshared_if b x (unmarked bs (x + 1))
