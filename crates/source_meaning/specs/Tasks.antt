-- What counts a step, and where a part of a program is.
--
-- The main definition: `Task`.
use Rattle.std.specs.Prelude.{ℕ, zero, suc, Bool, List, Option, None}
use Rattle.c_operations.specs.declared.operation.Operation.{Operation}
use Rattle.c_checked.specs.Expression.{Expression, Lvalue}
use Rattle.c_checked.specs.Statement.{Filter, Statement, Statements}
pub use Rattle.c_checked.specs.declared.function.DataPart.{DataPart}
pub use Rattle.c_checked.specs.Program.{part_of}
use Rattle.source_meaning.specs.State.{Exception, State, End, Outcome, Gives}

-- a handler: its filter, its activation, and what AbnormalTermination answers there
pub record Handler : Type 0 where
  pub filter : Filter
  pub activation : ℕ
  pub abnormal : Bool

-- the handlers around a place, innermost first; its activation, and what that has of the data
-- stack, which isn't asked for in a filter; the exception that the innermost filter or `__except`
-- block around it is about, and what AbnormalTermination answers there
pub record Context : Type 0 where
  pub handlers : List Handler
  pub activation : ℕ
  pub data_part : Option DataPart
  pub exception : Exception
  pub abnormal : Bool

-- what counts one step where it begins: an expression, the place of an assignment, a statement or
-- declared name, an iteration, or the body of a `__try`. So does a raise, a vectored handler that
-- is asked, a filter, a `__finally` block, and an operation that is made again. An activation
-- counts its function's surplus in steps, all at once, where it begins: after it was asked whether
-- the depth has room for its weight (own).
pub data Task : Type 0 where
  -- an expression
  Eval : Expression → Task
  -- an expression as a place: its address, and for a local nothing
  Locate : Lvalue → Task
  -- a statement, or a declared name
  Run : Statement → Task
  -- an iteration of a loop: of `for` and `while`, and of `do`
  ForIteration : Option Expression → Option Expression → Statement → Task
  DoIteration : Statement → Expression → Task
  -- the body of a `__try`
  TryBody : Statements → Task
  Raise : Exception → Task
  -- a vectored handler, by the number of its function, at a place of their list
  AskVectored : (handler place : ℕ) → Exception → Task
  -- a filter, by its number
  RunFilter : ℕ → Expression → Handler → Exception → Task
  -- a `__finally` block, by its number
  RunFinally : ℕ → Statements → Bool → Task
  -- an operation again, on the same operands
  Retry : Operation → ℕ → ℕ → Task

-- what is done for a task
abbrev pub Does : Type 0
Does = Task → Context → State → Outcome

-- a task counts one step where it begins
unfoldable pub counted : State → (State → Outcome) → Outcome
counted st go =
    elim st.steps_left [ zero ↦ Gives (End None) st | suc n ↦ go (record st { steps_left = n }) ]
