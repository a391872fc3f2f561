-- The cold parts of a function: `else` branches that stand apart from it in the image (own). One is
-- cold where it holds a call and no `__try`, and stands in no `__try` statement and in no other
-- cold part.
--
-- `is_cold`, `statement_cold`: an `else` branch is a cold part where it holds a call and no
-- `__try`, and stands in no `__try` statement and no other cold part (own). The second has the
-- labels of a part's cold parts. `HasColdParts` of a body: they rise and are apart, and inside the
-- code. Nothing falls into one or out of it, each holds a call, no region holds an instruction of
-- one, and no local unwind leads there. A function has an instruction before its first one.
use Rattle.std.specs.Prelude.{ℕ, ◌+◌, Bool, true, false, not, ◌&&◌, ◌||◌, if◌then◌else◌, List, [], ◌∷◌, ◌++◌, Option, Some, None}
use Rattle.c_checked.specs.declared.statement.StackedVariable.{StackedVariable}
use Rattle.c_checked.specs.Expression as nodes
use Rattle.c_checked.specs.Expression.{Expression, On, Node, Lvalue, Local, Global, Stacked, Indirection, Element, Arguments, Done, Next}
use Rattle.c_checked.specs.Statement.{Declared, Statement, Declare, Block, Evaluate, If, IfElse, For, DoWhile, Return, Break, Continue, Leave, TryExcept, TryFinally, Statements, Empty, Then}
use Rattle.linear_code.specs.declared.program.LabelRange.{LabelRange}
use Rattle.lowering_sizes.specs.Sizes.{expression_size, discarded_size, condition_size, all_declared_size, statement_size}

-- ---- whether a part holds a call

abbrev mutual
  pub calls : Expression → Bool
  calls (On n c) = node_calls n

  pub place_calls : Lvalue → Bool
  place_calls (Local x) = false
  place_calls (Global access a) = false
  place_calls (Stacked access base offset) = false
  place_calls (Indirection access e) = calls e
  place_calls (Element access e i) = calls e || calls i

  pub node_calls : Node → Bool
  node_calls (nodes.Read p) = place_calls p
  node_calls (nodes.AddressOf p) = place_calls p
  node_calls (nodes.Assign p e) = place_calls p || calls e
  node_calls (nodes.CompoundAssign p before o e after) = place_calls p || calls e
  node_calls (nodes.Increment m p before o n after) = place_calls p
  node_calls (nodes.Unary o e) = calls e
  node_calls (nodes.Binary o e f) = calls e || calls f
  node_calls (nodes.PointerDifference n e f) = calls e || calls f
  node_calls (nodes.Not e) = calls e
  node_calls (nodes.And e f) = calls e || calls f
  node_calls (nodes.Or e f) = calls e || calls f
  node_calls (nodes.Conditional c e f) = calls c || (calls e || calls f)
  node_calls (nodes.Comma e f) = calls e || calls f
  node_calls (nodes.Call f es) = true
  node_calls (nodes.CallBuiltIn k es) = true
  node_calls (nodes.Constant z n) = false
  node_calls (nodes.StackedArray base offset) = false
  node_calls nodes.ExceptionCode = false
  node_calls (nodes.Information f) = false
  node_calls nodes.AbnormalTermination = false

abbrev pub optional_calls : Option Expression → Bool
optional_calls None = false
optional_calls (Some e) = calls e

-- an array has no initialiser
abbrev pub elements_call : Option ℕ → Option Expression → Bool
elements_call None e = optional_calls e
elements_call (Some n) e = false

abbrev pub declared_at_calls : Option StackedVariable → Option Expression → Bool
declared_at_calls None e = optional_calls e
declared_at_calls (Some v) e = elements_call v.elements e

abbrev pub declared_calls : List Declared → Bool
declared_calls [] = false
declared_calls (d ∷ ds) = declared_at_calls d.stacked d.value || declared_calls ds

abbrev mutual
  pub statement_calls : Statement → Bool
  statement_calls (Declare d) = declared_at_calls d.stacked d.value
  statement_calls (Block ss) = statements_call ss
  statement_calls (Evaluate e) = optional_calls e
  statement_calls (If c s) = calls c || statement_calls s
  statement_calls (IfElse c s t) = calls c || (statement_calls s || statement_calls t)
  statement_calls (For ds first c next s) =
      declared_calls ds || (optional_calls first || (optional_calls c || (optional_calls next
      || statement_calls s)))
  statement_calls (DoWhile s c) = statement_calls s || calls c
  statement_calls (Return e) = optional_calls e
  statement_calls Break = false
  statement_calls Continue = false
  statement_calls Leave = false
  -- a `__try` statement isn't asked, since no cold part holds one
  statement_calls (TryExcept body filter block) = false
  statement_calls (TryFinally body k finally_block) = false

  pub statements_call : Statements → Bool
  statements_call Empty = false
  statements_call (Then s ss) = statement_calls s || statements_call ss

-- ---- whether it holds a `__try`

abbrev mutual
  pub statement_tries : Statement → Bool
  statement_tries (Block ss) = statements_try ss
  statement_tries (If c s) = statement_tries s
  statement_tries (IfElse c s t) = statement_tries s || statement_tries t
  statement_tries (For ds first c next s) = statement_tries s
  statement_tries (DoWhile s c) = statement_tries s
  statement_tries (TryExcept body filter block) = true
  statement_tries (TryFinally body k finally_block) = true
  statement_tries (Declare d) = false
  statement_tries (Evaluate e) = false
  statement_tries (Return e) = false
  statement_tries Break = false
  statement_tries Continue = false
  statement_tries Leave = false

  pub statements_try : Statements → Bool
  statements_try Empty = false
  statements_try (Then s ss) = statement_tries s || statements_try ss

abbrev pub is_cold : Statement → Bool
is_cold s = statement_calls s && not (statement_tries s)

-- ---- the cold parts, each with the jump that ends it

abbrev pub cold_range : ℕ → ℕ → LabelRange
cold_range begin end = record { begin = begin; end = end }

abbrev mutual
  pub statement_cold : Statement → ℕ → List LabelRange
  statement_cold (Block ss) at = statements_cold ss at
  statement_cold (If c s) at = statement_cold s (at + expression_size c + 1)
  statement_cold (IfElse c s t) at =
      let yes = at + expression_size c + 1 in
      let no = yes + statement_size s + 1 in
      statement_cold s yes
      ++ (if is_cold t then cold_range no (no + statement_size t + 1) ∷ [] else statement_cold t no)
  statement_cold (For ds first c next s) at =
      statement_cold s (at + all_declared_size ds + discarded_size first + condition_size c)
  statement_cold (DoWhile s c) at = statement_cold s at
  statement_cold (Declare d) at = []
  statement_cold (Evaluate e) at = []
  statement_cold (Return e) at = []
  statement_cold Break at = []
  statement_cold Continue at = []
  statement_cold Leave at = []
  statement_cold (TryExcept body filter block) at = []
  statement_cold (TryFinally body k finally_block) at = []

  pub statements_cold : Statements → ℕ → List LabelRange
  statements_cold Empty at = []
  statements_cold (Then s ss) at = statement_cold s at ++ statements_cold ss (at + statement_size s)

-- those of an `else` branch at an instruction: the whole of it where it is cold
abbrev pub branch_cold : Statement → ℕ → List LabelRange
branch_cold t at =
    if is_cold t then cold_range at (at + statement_size t + 1) ∷ [] else statement_cold t at
