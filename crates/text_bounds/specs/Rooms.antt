-- How many bytes the code of a part of a checked program takes at most.
--
-- The main definitions: `expression_room`, `statement_room`, `functions_room`.
use Rattle.std.specs.Prelude.{ℕ, ◌+◌, List, [], ◌∷◌, Option, None, Some}
use Rattle.c_checked.specs.declared.expression.Conversion.{Conversion}
use Rattle.c_checked.specs.declared.expression.Conversion.TheVariants.{Kept, Extend, Scale}
use Rattle.c_checked.specs.Expression as nodes
use Rattle.c_checked.specs.Expression.{Expression, On, Node, Lvalue, Local, Global, Stacked, Indirection, Element, Arguments, Done, Next}
use Rattle.c_checked.specs.declared.statement.StackedVariable.{StackedVariable}
use Rattle.c_checked.specs.Statement.{Declared, Filter, Always, Funclet, Statement, Declare, Block, Evaluate, If, IfElse, For, DoWhile, Return, Break, Continue, Leave, TryExcept, TryFinally, Statements, Empty, Then}
use Rattle.c_checked.specs.Program.{Function, frame_surplus}

-- an operation on temporaries takes 35 bytes at most, and one on two or three locals 51 or 59; one
-- with a number of 64 bits, or of a variable on the data stack, takes 18 more at most

abbrev pub conversion_room : Conversion → ℕ
conversion_room Kept = 0
conversion_room (Extend s from size) = 35
conversion_room (Scale s from by) = 73

-- ---- places

abbrev pub read_room : Lvalue → ℕ
read_room (Local x) = 51
read_room (Global access a) = 70
read_room (Stacked access base offset) = 70
read_room (Indirection access e) = 70
read_room (Element access e i) = 70

abbrev pub write_room : Lvalue → ℕ
write_room (Local x) = 43
write_room (Global access a) = 35
write_room (Stacked access base offset) = 35
write_room (Indirection access e) = 35
write_room (Element access e i) = 35

abbrev pub address_room : Lvalue → ℕ → ℕ
address_room (Local x) located = 35
address_room (Global access a) located = located
address_room (Stacked access base offset) located = located
address_room (Indirection access e) located = located
address_room (Element access e i) located = located

-- ---- expressions

abbrev mutual
  pub expression_room : Expression → ℕ
  expression_room (On n c) = node_room n + conversion_room c

  pub locate_room : Lvalue → ℕ
  locate_room (Local x) = 0
  locate_room (Global access a) = 35
  locate_room (Stacked access base offset) = 78
  locate_room (Indirection access e) = expression_room e
  locate_room (Element access e i) = expression_room e + (expression_room i + 35)

  pub arguments_room : Arguments → ℕ
  arguments_room Done = 0
  arguments_room (Next e es) = expression_room e + arguments_room es

  pub node_room : Node → ℕ
  node_room (nodes.Constant z n) = 35
  node_room (nodes.StackedArray base offset) = 78
  node_room (nodes.Read p) = locate_room p + read_room p
  node_room (nodes.AddressOf p) = address_room p (locate_room p)
  node_room (nodes.Assign p e) = locate_room p + (expression_room e + write_room p)
  node_room (nodes.CompoundAssign p before o e after) =
      locate_room p + (read_room p + (conversion_room before
      + (expression_room e + (53 + (conversion_room after + write_room p)))))
  node_room (nodes.Increment m p before o n after) =
      locate_room p + (read_room p + (35 + (conversion_room before
      + (88 + (conversion_room after + (write_room p + 35))))))
  node_room (nodes.Unary o e) = expression_room e + 73
  node_room (nodes.Binary o e f) = expression_room e + (expression_room f + 53)
  node_room (nodes.PointerDifference n e f) = expression_room e + (expression_room f + 105)
  node_room (nodes.Not e) = expression_room e + 93
  node_room (nodes.And e f) = expression_room e + (18 + (expression_room f + 93))
  node_room (nodes.Or e f) = expression_room e + (58 + (expression_room f + 93))
  node_room (nodes.Conditional c e f) =
      expression_room c + (18 + (expression_room e + (5 + expression_room f)))
  node_room (nodes.Comma e f) = expression_room e + (expression_room f + 35)
  node_room (nodes.Call f es) = arguments_room es + 109
  node_room (nodes.CallBuiltIn k es) = arguments_room es + 50
  node_room nodes.ExceptionCode = 51
  node_room (nodes.Information f) = 32
  node_room nodes.AbnormalTermination = 51

-- ---- statements

-- an expression whose value isn't used
abbrev pub discarded_room : Option Expression → ℕ
discarded_room None = 0
discarded_room (Some e) = expression_room e + 1

-- a condition, after which a jump leaves the loop
abbrev pub condition_room : Option Expression → ℕ
condition_room None = 0
condition_room (Some e) = expression_room e + 18

abbrev pub initialiser_room : Option Expression → ℕ
initialiser_room None = 0
initialiser_room (Some e) = expression_room e + 44

-- a variable on the data stack takes 0 from a temporary first, and so does it take the number of
-- its initialiser; an array is cleared by a loop
abbrev pub put_initialiser_room : Option Expression → ℕ
put_initialiser_room None = 0
put_initialiser_room (Some e) = expression_room e + 51

abbrev pub stacked_room : Option ℕ → Option Expression → ℕ
stacked_room None value = 86 + put_initialiser_room value
stacked_room (Some n) value = 168

abbrev pub declared_at_room : Option StackedVariable → Option Expression → ℕ
declared_at_room None value = 59 + initialiser_room value
declared_at_room (Some v) value = stacked_room v.elements value

abbrev pub declared_room : Declared → ℕ
declared_room d = declared_at_room d.stacked d.value

abbrev pub all_declared_room : List Declared → ℕ
all_declared_room [] = 0
all_declared_room (d ∷ ds) = declared_room d + all_declared_room ds

abbrev pub returned_room : Option Expression → ℕ
returned_room None = 35
returned_room (Some e) = expression_room e

-- a filter is a funclet, unless it always accepts
abbrev pub filter_room : Filter → ℕ
filter_room Always = 0
filter_room (Funclet k e) = expression_room e + 52

-- a cold part has an unwind info, an entry in the function table and a row in the table of names
abbrev pub cold_room : ℕ
cold_room = 16 + 12 + 17

-- of a statement and of the filters and `__finally` blocks in it, with 16 bytes for the scope
-- record of each `__try`; each `else` branch may be a cold part
abbrev mutual
  pub statement_room : Statement → ℕ
  statement_room (Declare d) = declared_room d
  statement_room (Block ss) = statements_room ss
  statement_room (Evaluate e) = discarded_room e
  statement_room (If c s) = expression_room c + (18 + statement_room s)
  statement_room (IfElse c s t) =
      expression_room c + (18 + (statement_room s + (5 + (statement_room t + (5 + cold_room)))))
  statement_room (For ds first c next s) =
      all_declared_room ds + (discarded_room first + (condition_room c
      + (statement_room s + (1 + (discarded_room next + 6)))))
  statement_room (DoWhile s c) = statement_room s + (1 + (expression_room c + 24))
  statement_room (Return e) = returned_room e + 16
  statement_room Break = 16
  statement_room Continue = 16
  statement_room Leave = 5
  statement_room (TryExcept body filter block) =
      statements_room body + (90 + (statements_room block + (filter_room filter + 16)))
  statement_room (TryFinally body k last) =
      statements_room body + (15 + (statements_room last + (156 + 16)))

  pub statements_room : Statements → ℕ
  statements_room Empty = 0
  statements_room (Then s ss) = statement_room s + statements_room ss

-- ---- functions

-- each begins with a separator, and with one for each 1 of its frame's surplus, and returns 0 at
-- its end; what is for its part of the data stack isn't among this, nor the separator that one has
-- more that can be a vectored handler
abbrev pub functions_room : List Function → ℕ
functions_room [] = 0
functions_room (f ∷ fs) =
    statements_room f.body + (88 + frame_surplus f) + functions_room fs
