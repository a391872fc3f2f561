-- What the machine does next, and what waits for the result of that.
--
-- `ContinuationFrame`, `Next`: what waits for a result (an operand's value, a place, a normal end,
-- the end of a call, of a `__try`), and what is done next. A frame has its place: the activation,
-- the exception and what AbnormalTermination answers there; the handlers around the place are the
-- machine's.
use Rattle.std.specs.Prelude.{ℕ, Bool, List, Option, reverse}
use Rattle.c_operations.specs.declared.built_in.BuiltIn.{BuiltIn}
use Rattle.c_operations.specs.declared.operation.Operation.{Operation}
use Rattle.c_operations.specs.declared.operation.Pure.{Pure}
use Rattle.c_checked.specs.declared.expression.Access.{Access}
use Rattle.c_checked.specs.declared.expression.Conversion.{Conversion}
use Rattle.c_checked.specs.declared.expression.Fixity.{Fixity}
use Rattle.c_checked.specs.Expression.{Expression, Node, Lvalue, Arguments}
use Rattle.c_checked.specs.Statement.{Declared, Filter, Statement, Statements}
use Rattle.source_meaning.specs.State.{Exception, Result}
use Rattle.c_checked.specs.declared.statement.StackedVariable.{StackedVariable}
use Rattle.source_meaning.specs.Tasks.{Handler, DataPart, Context, Task}

-- a context without its handlers, which the machine has
pub record Place : Type 0 where
  pub activation : ℕ
  pub data_part : Option DataPart
  pub exception : Exception
  pub abnormal : Bool

-- the machine's handlers are outermost first
abbrev pub context_at : List Handler → Place → Context
context_at hs p =
    record {
      handlers = reverse hs;
      activation = p.activation;
      data_part = p.data_part;
      exception = p.exception;
      abnormal = p.abnormal;
    }

-- what is called
pub data Callee : Type 0 where
  Defined : ℕ → Callee
  BuiltInOf : BuiltIn → Callee

-- `for` and `while`, after their declarations and first expressions
pub record ForLoop : Type 0 where
  pub condition : Option Expression
  pub next : Option Expression
  pub body : Statement

-- `target operation= value`
pub record Compound : Type 0 where
  pub target : Lvalue
  pub before : Conversion
  pub operation : Operation
  pub value : Expression
  pub after : Conversion

-- `++` and `--`
pub record Stepped : Type 0 where
  pub fixity : Fixity
  pub target : Lvalue
  pub before : Conversion
  pub operation : Operation
  pub amount : ℕ
  pub after : Conversion

-- what waits for an operand's value
pub data OperandFrame : Type 0 where
  Converts : Conversion → OperandFrame
  EvaluatesIndex : Expression → Place → OperandFrame
  AddsIndex : ℕ → OperandFrame
  Applies : Pure → OperandFrame
  EvaluatesRight : Operation → Expression → Place → OperandFrame
  Operates : Operation → ℕ → Place → OperandFrame
  EvaluatesSubtrahend : ℕ → Expression → Place → OperandFrame
  Measures : ℕ → ℕ → OperandFrame
  Inverts : OperandFrame
  EvaluatesIfTrue : Expression → Place → OperandFrame
  EvaluatesIfFalse : Expression → Place → OperandFrame
  Tests : OperandFrame
  Chooses : Expression → Expression → Place → OperandFrame
  Discards : Expression → Place → OperandFrame
  PassesArgument : Callee → List ℕ → Arguments → Place → OperandFrame

-- what waits for a place's address, or for a value on its way from or to a place
pub data AssignmentFrame : Type 0 where
  ReadsPlace : Lvalue → Place → AssignmentFrame
  Extends : Access → AssignmentFrame
  EvaluatesAssigned : Lvalue → Expression → Place → AssignmentFrame
  Assigns : Lvalue → ℕ → Place → AssignmentFrame
  ReadsCompound : Compound → Place → AssignmentFrame
  EvaluatesCompound : Compound → ℕ → Place → AssignmentFrame
  OperatesCompound : Compound → ℕ → ℕ → Place → AssignmentFrame
  AssignsCompound : Compound → ℕ → Place → AssignmentFrame
  ReadsStepped : Stepped → Place → AssignmentFrame
  OperatesStepped : Stepped → ℕ → Place → AssignmentFrame
  AssignsStepped : Stepped → ℕ → ℕ → Place → AssignmentFrame
  GivesStepped : Fixity → ℕ → AssignmentFrame

-- what waits for a value in a statement, or for an answer of a filter or a vectored handler
pub data StatementFrame : Type 0 where
  Initialises : ℕ → Place → StatementFrame
  InitialisesStacked : StackedVariable → Place → StatementFrame
  EndsEvaluation : StatementFrame
  Branches : Statement → Option Statement → Place → StatementFrame
  Iterates : ForLoop → Place → StatementFrame
  TestsFor : ForLoop → Place → StatementFrame
  TestsDo : Statement → Expression → Place → StatementFrame
  Returns : StatementFrame
  EndsFilter : StatementFrame
  -- a handler's number among the machine's
  IsAnswered : ℕ → Exception → Place → StatementFrame
  -- a vectored handler's answer, by its place in their list
  EndsVectored : (place : ℕ) → Exception → Place → StatementFrame

-- what waits for a normal end
pub data SequelFrame : Type 0 where
  Continues : Statements → Place → SequelFrame
  DeclaresRest : List Declared → Place → SequelFrame
  EvaluatesFirst : Option Expression → ForLoop → Place → SequelFrame
  Retries : Operation → ℕ → ℕ → Place → SequelFrame
  GivesZero : SequelFrame
  GivesResult : Result → SequelFrame
  EndsFinally : SequelFrame

-- what waits for the end of a loop's body
pub data BodyFrame : Type 0 where
  EndsForBody : ForLoop → Place → BodyFrame
  EndsDoBody : Statement → Expression → Place → BodyFrame

pub data ContinuationFrame : Type 0 where
  Operand : OperandFrame → ContinuationFrame
  Assignment : AssignmentFrame → ContinuationFrame
  InStatement : StatementFrame → ContinuationFrame
  Sequel : SequelFrame → ContinuationFrame
  Body : BodyFrame → ContinuationFrame
  -- a call's end: how many activations there were before it, its function's surplus, and what its
  -- activation has of the data stack
  EndsCall : ℕ → ℕ → Option DataPart → ContinuationFrame
  -- the end of a `__try` with an `__except`, whose handler is the machine's last: what was held
  -- where it was entered, and the block
  Lands : ℕ → Statements → Place → ContinuationFrame
  -- the end of a `__try` with a `__finally`
  Finishes : ℕ → Statements → Place → ContinuationFrame

-- what is to be done next
pub data Next : Type 0 where
  -- the run is over
  Over : Result → Next
  Give : Result → Next
  -- a task, with its step, and after its step
  Start : Task → Place → Next
  Begin : Task → Place → Next
  Evaluate : Node → Place → Next
  Find : Lvalue → Place → Next
  -- the address of what stands so many bytes above the base that a local keeps
  FindStacked : (base offset : ℕ) → Place → Next
  Fetch : Lvalue → ℕ → Place → Next
  Put : Lvalue → ℕ → ℕ → Place → Next
  Operate : Operation → ℕ → ℕ → Place → Next
  -- arguments, after those that were evaluated
  Pass : Callee → List ℕ → Arguments → Place → Next
  Call : Callee → List ℕ → Place → Next
  Proceed : Statements → Place → Next
  DeclareEach : List Declared → Place → Next
  DeclareName : Declared → Place → Next
  SetLocal : ℕ → ℕ → Place → Next
  -- a variable on the data stack takes a number, and so many elements of an array become 0, the
  -- last one first
  PutStacked : StackedVariable → ℕ → Place → Next
  ClearElements : StackedVariable → ℕ → Place → Next
  -- a `__try` with an `__except` is entered
  Guard : Statements → Filter → Statements → Place → Next
  -- a filter's answer, and the end of a `__finally` block
  Answer : ℕ → Next
  LetGo : Next
  -- the vectored handlers from a place of their list on are asked, and what one has answered
  AskFrom : (place : ℕ) → Exception → Place → Next
  VectoredAnswer : ℕ → (place : ℕ) → Exception → Place → Next
  -- the handlers below this number are asked, the highest first
  Search : ℕ → Exception → Place → Next

-- what is done next, maybe with one more frame on the stack
pub data Plan : Type 0 where
  Then : Next → Plan
  Push : ContinuationFrame → Next → Plan
