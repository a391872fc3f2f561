-- How many instructions a part of a program is lowered to.
--
-- `expression_size`, `statement_size`: how many instructions a part is lowered to; no size depends
-- on what is around the part.
use Rattle.std.specs.Prelude.{ℕ, ◌+◌, max, List, [], ◌∷◌, Option, None, Some}
use Rattle.c_operations.specs.declared.operation.Pure.{Pure}
use Rattle.c_operations.specs.declared.operation.Pure.TheVariants.{First}
use Rattle.c_checked.specs.declared.expression.Conversion.{Conversion}
use Rattle.c_checked.specs.declared.expression.Conversion.TheVariants.{Kept, Extend, Scale}
use Rattle.c_checked.specs.declared.statement.StackedVariable.{StackedVariable}
use Rattle.c_checked.specs.Expression as nodes
use Rattle.c_checked.specs.Expression.{Expression, On, Node, Lvalue, Local, Global, Stacked, Indirection, Element, Arguments, Done, Next}
use Rattle.c_checked.specs.Statement.{Declared, Statement, Declare, Block, Evaluate, If, IfElse, For, DoWhile, Return, Break, Continue, Leave, TryExcept, TryFinally, Statements, Empty, Then}

abbrev pub conversion_size : Conversion → ℕ
conversion_size Kept = 0
conversion_size (Extend s from size) = 1
conversion_size (Scale s from by) = 2

abbrev pub unary_size : Pure → ℕ
unary_size First = 0
unary_size o = 2

-- ---- places

-- a place that was located has its address in one temporary, and a local in none
abbrev pub address_count : Lvalue → ℕ
address_count (Local x) = 0
address_count (Global access a) = 1
address_count (Stacked access base offset) = 1
address_count (Indirection access e) = 1
address_count (Element access e i) = 1

abbrev pub read_size : Lvalue → ℕ
read_size (Local x) = 1
read_size (Global access a) = 2
read_size (Stacked access base offset) = 2
read_size (Indirection access e) = 2
read_size (Element access e i) = 2

abbrev pub address_size : Lvalue → ℕ → ℕ
address_size (Local x) located = 1
address_size (Global access a) located = located
address_size (Stacked access base offset) located = located
address_size (Indirection access e) located = located
address_size (Element access e i) located = located

-- ---- expressions

abbrev mutual
  pub expression_size : Expression → ℕ
  expression_size (On n c) = node_size n + conversion_size c

  pub locate_size : Lvalue → ℕ
  locate_size (Local x) = 0
  locate_size (Global access a) = 1
  locate_size (Stacked access base offset) = 2
  locate_size (Indirection access e) = expression_size e
  locate_size (Element access e i) = expression_size e + (expression_size i + 1)

  pub arguments_size : Arguments → ℕ
  arguments_size Done = 0
  arguments_size (Next e es) = expression_size e + arguments_size es

  pub node_size : Node → ℕ
  node_size (nodes.Constant z n) = 1
  node_size (nodes.StackedArray base offset) = 2
  node_size (nodes.Read p) = locate_size p + read_size p
  node_size (nodes.AddressOf p) = address_size p (locate_size p)
  node_size (nodes.Assign p e) = locate_size p + (expression_size e + 1)
  node_size (nodes.CompoundAssign p before o e after) =
      locate_size p + (read_size p + (conversion_size before
      + (expression_size e + (1 + (conversion_size after + 1)))))
  node_size (nodes.Increment m p before o n after) =
      locate_size p + (read_size p + (1 + (conversion_size before
      + (2 + (conversion_size after + 2)))))
  node_size (nodes.Unary o e) = expression_size e + unary_size o
  node_size (nodes.Binary o e f) = expression_size e + (expression_size f + 1)
  node_size (nodes.PointerDifference n e f) = expression_size e + (expression_size f + 3)
  node_size (nodes.Not e) = expression_size e + 4
  node_size (nodes.And e f) = expression_size e + (1 + (expression_size f + 4))
  node_size (nodes.Or e f) = expression_size e + (3 + (expression_size f + 4))
  node_size (nodes.Conditional c e f) =
      expression_size c + (1 + (expression_size e + (1 + expression_size f)))
  node_size (nodes.Comma e f) = expression_size e + (expression_size f + 1)
  node_size (nodes.Call f es) = arguments_size es + 1
  node_size (nodes.CallBuiltIn k es) = arguments_size es + 1
  node_size nodes.ExceptionCode = 1
  node_size (nodes.Information f) = 1
  node_size nodes.AbnormalTermination = 1

-- ---- statements

-- an expression whose value isn't used
abbrev pub discarded_size : Option Expression → ℕ
discarded_size None = 0
discarded_size (Some e) = expression_size e + 1

-- a condition, after which a jump leaves the loop; one that is missing holds
abbrev pub condition_size : Option Expression → ℕ
condition_size None = 0
condition_size (Some e) = expression_size e + 1

abbrev pub initialiser_size : Option Expression → ℕ
initialiser_size None = 0
initialiser_size (Some e) = expression_size e + 2

-- a variable on the data stack takes a number by three instructions, an array is cleared by a loop
-- of five
abbrev pub stacked_size : Option ℕ → Option Expression → ℕ
stacked_size None value = 3 + initialiser_size value
stacked_size (Some n) value = 5

abbrev pub declared_at_size : Option StackedVariable → Option Expression → ℕ
declared_at_size None value = 1 + initialiser_size value
declared_at_size (Some v) value = stacked_size v.elements value

abbrev pub declared_size : Declared → ℕ
declared_size d = declared_at_size d.stacked d.value

abbrev pub all_declared_size : List Declared → ℕ
all_declared_size [] = 0
all_declared_size (d ∷ ds) = declared_size d + all_declared_size ds

abbrev pub returned_size : Option Expression → ℕ
returned_size None = 1
returned_size (Some e) = expression_size e

abbrev mutual
  pub statement_size : Statement → ℕ
  statement_size (Declare d) = declared_size d
  statement_size (Block ss) = statements_size ss
  statement_size (Evaluate e) = discarded_size e
  statement_size (If c s) = expression_size c + (1 + statement_size s)
  statement_size (IfElse c s t) =
      expression_size c + (1 + (statement_size s + (1 + (statement_size t + 1))))
  statement_size (For ds first c next s) =
      all_declared_size ds + (discarded_size first + (condition_size c
      + (statement_size s + (1 + (discarded_size next + 2)))))
  statement_size (DoWhile s c) = statement_size s + (1 + (expression_size c + 3))
  statement_size (Return e) = returned_size e + 2
  statement_size Break = 2
  statement_size Continue = 2
  statement_size Leave = 1
  statement_size (TryExcept body filter block) = statements_size body + (3 + statements_size block)
  statement_size (TryFinally body k finally_block) = statements_size body + 3

  pub statements_size : Statements → ℕ
  statements_size Empty = 0
  statements_size (Then s ss) = statement_size s + statements_size ss

-- ---- locals for codes and flags, which blocks inside one another can't share, and for how many
-- bytes of an array are left to clear

abbrev pub elements_notes : Option ℕ → ℕ
elements_notes None = 0
elements_notes (Some n) = 1

abbrev pub stacked_notes : Option StackedVariable → ℕ
stacked_notes None = 0
stacked_notes (Some v) = elements_notes v.elements

abbrev pub declared_notes : List Declared → ℕ
declared_notes [] = 0
declared_notes (d ∷ ds) = max (stacked_notes d.stacked) (declared_notes ds)

abbrev mutual
  pub statement_notes : Statement → ℕ
  statement_notes (Declare d) = stacked_notes d.stacked
  statement_notes (Block ss) = statements_notes ss
  statement_notes (Evaluate e) = 0
  statement_notes (If c s) = statement_notes s
  statement_notes (IfElse c s t) = max (statement_notes s) (statement_notes t)
  statement_notes (For ds first c next s) = max (declared_notes ds) (statement_notes s)
  statement_notes (DoWhile s c) = statement_notes s
  statement_notes (Return e) = 0
  statement_notes Break = 0
  statement_notes Continue = 0
  statement_notes Leave = 0
  statement_notes (TryExcept body filter block) =
      max (statements_notes body) (1 + statements_notes block)
  statement_notes (TryFinally body k finally_block) =
      max (statements_notes body) (1 + statements_notes finally_block)

  pub statements_notes : Statements → ℕ
  statements_notes Empty = 0
  statements_notes (Then s ss) = max (statement_notes s) (statements_notes ss)
