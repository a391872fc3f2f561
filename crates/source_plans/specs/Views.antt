-- What the code's frames and tasks represent.
use Rattle.std.specs.Prelude.{ℕ, List, map, drop, slice_get, Option, Some, None, option_map}
use Rattle.c_checked.specs.declared.expression.Expr.{Expr}
use Rattle.c_checked.specs.declared.statement.Declared.{Declared}
use Rattle.c_checked.specs.declared.statement.Stmt.{Stmt}
use Rattle.c_checked.specs.Expression.{Arguments, node, expression, lvalue, arguments}
use Rattle.c_checked.specs.Statement as statements
use Rattle.c_checked.specs.Statement.{statement, filter}
use Rattle.source_meaning.specs.State.{Exception, Result, Value, Normal, Returned, Broke, Continued}
use Rattle.source_meaning.specs.State.{LeftTry, Target, End}
use Rattle.source_meaning.specs.Tasks as tasks
use Rattle.source_machine.specs.Frames as frames
use Rattle.source_plans.specs.declared.place.Exception.{Exception as Exception'}
use Rattle.source_plans.specs.declared.place.Place.{Place}
use Rattle.source_plans.specs.declared.place.Handler.{Handler}
use Rattle.source_plans.specs.declared.task.ForLoop.{ForLoop}
use Rattle.source_plans.specs.declared.task.Task.{Task}
use Rattle.source_plans.specs.declared.task.Task.TheVariants as task_kinds
use Rattle.source_plans.specs.declared.frame.Callee.{Callee}
use Rattle.source_plans.specs.declared.frame.Callee.TheVariants as callees
use Rattle.source_plans.specs.declared.frame.Compound.{Compound}
use Rattle.source_plans.specs.declared.frame.Stepped.{Stepped}
use Rattle.source_plans.specs.declared.frame.OperandFrame.{OperandFrame}
use Rattle.source_plans.specs.declared.frame.OperandFrame.TheVariants as operands
use Rattle.source_plans.specs.declared.frame.AssignmentFrame.{AssignmentFrame}
use Rattle.source_plans.specs.declared.frame.AssignmentFrame.TheVariants as assignments
use Rattle.source_plans.specs.declared.frame.ForPart.{ForPart}
use Rattle.source_plans.specs.declared.frame.ForPart.TheVariants as for_parts
use Rattle.source_plans.specs.declared.frame.Phase.{Phase}
use Rattle.source_plans.specs.declared.frame.Phase.TheVariants as phases
use Rattle.source_plans.specs.declared.frame.StatementFrame.{StatementFrame}
use Rattle.source_plans.specs.declared.frame.StatementFrame.TheVariants as in_statements
use Rattle.source_plans.specs.declared.frame.Completion.{Completion}
use Rattle.source_plans.specs.declared.frame.Completion.TheVariants as outcomes
use Rattle.source_plans.specs.declared.frame.SequelFrame.{SequelFrame}
use Rattle.source_plans.specs.declared.frame.SequelFrame.TheVariants as sequels
use Rattle.source_plans.specs.declared.frame.BodyFrame.{BodyFrame}
use Rattle.source_plans.specs.declared.frame.BodyFrame.TheVariants as bodies
use Rattle.source_plans.specs.declared.frame.Waiting.{Waiting}
use Rattle.source_plans.specs.declared.frame.Waiting.TheVariants as waiting
use Rattle.source_plans.specs.declared.frame.ContinuationFrame.{ContinuationFrame}
use Rattle.source_plans.specs.declared.frame.ContinuationFrame.TheVariants as frame_kinds
use Rattle.source_plans.specs.declared.frame.Finish.{Finish}
use Rattle.source_plans.specs.declared.frame.Finish.TheVariants as finishes
use Rattle.source_plans.specs.declared.frame.StackAction.{StackAction}
use Rattle.source_plans.specs.declared.frame.StackAction.TheVariants as stack_actions
use Rattle.source_plans.specs.declared.frame.VectoredAction.{VectoredAction}
use Rattle.source_plans.specs.declared.frame.VectoredAction.TheVariants as vectored_actions
use Rattle.source_plans.specs.declared.frame.Action.{Action}
use Rattle.source_plans.specs.declared.frame.Action.TheVariants as actions
use Rattle.source_plans.specs.declared.frame.Next.{Next}
use Rattle.source_plans.specs.declared.frame.Next.TheVariants as nexts
use Rattle.source_plans.specs.declared.frame.Plan.{Plan}

abbrev pub exception_of : Exception' → Exception
exception_of e = record { code = e.code; flag = e.flag; access = e.access }

abbrev pub place_of : Place → frames.Place
place_of p =
    record {
      activation = p.activation;
      data_part = p.data_part;
      exception = exception_of p.exception;
      abnormal = p.abnormal;
    }

abbrev pub handler_of : Handler → tasks.Handler
handler_of h =
    record { filter = filter h.filter.now; activation = h.activation; abnormal = h.abnormal }

abbrev pub for_loop_of : ForLoop → frames.ForLoop
for_loop_of k =
    record {
      condition = option_map expression k.condition.now;
      next = option_map expression k.next.now;
      body = statement k.body.now.value;
    }

abbrev pub callee_of : Callee → frames.Callee
callee_of (callees.Defined f) = frames.Defined f
callee_of (callees.BuiltIn k) = frames.BuiltInOf k

abbrev pub compound_of : Compound → frames.Compound
compound_of k =
    record {
      target = lvalue k.target.now;
      before = k.before;
      operation = k.operation;
      value = expression k.value.now.value;
      after = k.after;
    }

abbrev pub stepped_of : Stepped → frames.Stepped
stepped_of k =
    record {
      fixity = k.fixity;
      target = lvalue k.target.now;
      before = k.before;
      operation = k.operation;
      amount = k.amount;
      after = k.after;
    }

abbrev pub result_of : Completion → Result
result_of (outcomes.Value v) = Value v
result_of outcomes.Normal = Normal
result_of (outcomes.Returned v) = Returned v
result_of outcomes.Broke = Broke
result_of outcomes.Continued = Continued
result_of outcomes.LeftTry = LeftTry
result_of (outcomes.Target level exc) = Target level (exception_of exc)

-- a statement of a list; where there is none, one that does nothing
abbrev pub some_statement : Option statements.Statement → statements.Statement
some_statement None = statements.Block statements.Empty
some_statement (Some s) = s

abbrev pub statement_at : List Stmt → ℕ → statements.Statement
statement_at ss i = some_statement (option_map statement (slice_get ss i))

-- statements, declared names and arguments from an index on
abbrev pub statements_from : List Stmt → ℕ → statements.Statements
statements_from ss i = statements.statements (map statement (drop i ss))

abbrev pub all_statements : List Stmt → statements.Statements
all_statements ss = statements.statements (map statement ss)

abbrev pub declared_from : List Declared → ℕ → List statements.Declared
declared_from ds i = map statements.declared (drop i ds)

abbrev pub arguments_from : List Expr → ℕ → Arguments
arguments_from es i = arguments (map expression (drop i es))

abbrev pub task_of : Task → tasks.Task
task_of (task_kinds.Eval e) = tasks.Eval (expression e.now)
task_of (task_kinds.Locate l) = tasks.Locate (lvalue l.now)
task_of (task_kinds.RunListed ss i) = tasks.Run (statement_at ss.now.items i)
task_of (task_kinds.RunBoxed s) = tasks.Run (statement s.now.value)
task_of (task_kinds.Declare d) = tasks.Run (statements.Declare (statements.declared d.now))
task_of (task_kinds.ForIteration k) =
    tasks.ForIteration (option_map expression k.condition.now) (option_map expression k.next.now)
    (statement k.body.now.value)
task_of (task_kinds.DoIteration s c) = tasks.DoIteration (statement s.now.value) (expression c.now)
task_of (task_kinds.TryBody ss) = tasks.TryBody (all_statements ss.now.items)
task_of (task_kinds.Raise exc) = tasks.Raise (exception_of exc)
task_of (task_kinds.AskVectored f asked exc) =
    tasks.AskVectored f asked.value (exception_of exc)
task_of (task_kinds.RunFilter k e h exc) =
    tasks.RunFilter k (expression e.now) (handler_of h) (exception_of exc)
task_of (task_kinds.RunFinally k finally_block flag) =
    tasks.RunFinally k (all_statements finally_block.now.items) flag
task_of (task_kinds.Retry o a b) = tasks.Retry o a b

abbrev pub operand_frame_of : OperandFrame → frames.OperandFrame
operand_frame_of (operands.Converts c) = frames.Converts c
operand_frame_of (operands.EvaluatesIndex i p) =
    frames.EvaluatesIndex (expression i.now.value) (place_of p)
operand_frame_of (operands.AddsIndex a) = frames.AddsIndex a
operand_frame_of (operands.Applies o) = frames.Applies o
operand_frame_of (operands.EvaluatesRight o f p) =
    frames.EvaluatesRight o (expression f.now.value) (place_of p)
operand_frame_of (operands.Operates o x p) = frames.Operates o x (place_of p)
operand_frame_of (operands.EvaluatesSubtrahend size f p) =
    frames.EvaluatesSubtrahend size (expression f.now.value) (place_of p)
operand_frame_of (operands.Measures size x) = frames.Measures size x
operand_frame_of operands.Inverts = frames.Inverts
operand_frame_of (operands.EvaluatesIfTrue f p) =
    frames.EvaluatesIfTrue (expression f.now.value) (place_of p)
operand_frame_of (operands.EvaluatesIfFalse f p) =
    frames.EvaluatesIfFalse (expression f.now.value) (place_of p)
operand_frame_of operands.Tests = frames.Tests
operand_frame_of (operands.Chooses e f p) =
    frames.Chooses (expression e.now.value) (expression f.now.value) (place_of p)
operand_frame_of (operands.Discards f p) = frames.Discards (expression f.now.value) (place_of p)

abbrev pub assignment_frame_of : AssignmentFrame → frames.AssignmentFrame
assignment_frame_of (assignments.ReadsPlace l p) = frames.ReadsPlace (lvalue l.now) (place_of p)
assignment_frame_of (assignments.Extends access) = frames.Extends access
assignment_frame_of (assignments.EvaluatesAssigned l e p) =
    frames.EvaluatesAssigned (lvalue l.now) (expression e.now.value) (place_of p)
assignment_frame_of (assignments.Assigns l a p) = frames.Assigns (lvalue l.now) a (place_of p)
assignment_frame_of (assignments.ReadsCompound k p) =
    frames.ReadsCompound (compound_of k) (place_of p)
assignment_frame_of (assignments.EvaluatesCompound k a p) =
    frames.EvaluatesCompound (compound_of k) a (place_of p)
assignment_frame_of (assignments.OperatesCompound k a x p) =
    frames.OperatesCompound (compound_of k) a x (place_of p)
assignment_frame_of (assignments.AssignsCompound k a p) =
    frames.AssignsCompound (compound_of k) a (place_of p)
assignment_frame_of (assignments.ReadsStepped k p) = frames.ReadsStepped (stepped_of k) (place_of p)
assignment_frame_of (assignments.OperatesStepped k a p) =
    frames.OperatesStepped (stepped_of k) a (place_of p)
assignment_frame_of (assignments.AssignsStepped k a x p) =
    frames.AssignsStepped (stepped_of k) a x (place_of p)
assignment_frame_of (assignments.GivesStepped m x) = frames.GivesStepped m x

abbrev pub for_frame_of : ForPart → frames.ForLoop → frames.Place → frames.StatementFrame
for_frame_of for_parts.Begins k p = frames.Iterates k p
for_frame_of for_parts.Tests k p = frames.TestsFor k p

abbrev pub statement_frame_of : StatementFrame → frames.StatementFrame
statement_frame_of (in_statements.Initialises x p) = frames.Initialises x (place_of p)
statement_frame_of (in_statements.InitialisesStacked v p) =
    frames.InitialisesStacked v.now (place_of p)
statement_frame_of in_statements.EndsEvaluation = frames.EndsEvaluation
statement_frame_of (in_statements.Branches s t p) =
    frames.Branches (statement s.now.value) (option_map (λ t. statement t.now.value) t) (place_of p)
statement_frame_of (in_statements.For part k p) = for_frame_of part (for_loop_of k) (place_of p)
statement_frame_of (in_statements.TestsDo s c p) =
    frames.TestsDo (statement s.now.value) (expression c.now) (place_of p)
statement_frame_of in_statements.Returns = frames.Returns
statement_frame_of in_statements.EndsFilter = frames.EndsFilter
statement_frame_of (in_statements.IsAnswered level exc p) =
    frames.IsAnswered level (exception_of exc) (place_of p)
statement_frame_of (in_statements.EndsVectored asked exc p) =
    frames.EndsVectored asked.value (exception_of exc) (place_of p)

abbrev pub sequel_frame_of : SequelFrame → frames.SequelFrame
sequel_frame_of (sequels.Continues ss i p) =
    frames.Continues (statements_from ss.now.items i) (place_of p)
sequel_frame_of (sequels.DeclaresRest ds i p) =
    frames.DeclaresRest (declared_from ds.now.items i) (place_of p)
sequel_frame_of (sequels.EvaluatesFirst first k p) =
    frames.EvaluatesFirst (option_map expression first.now) (for_loop_of k) (place_of p)
sequel_frame_of (sequels.Retries o a b p) = frames.Retries o a b (place_of p)
sequel_frame_of sequels.GivesZero = frames.GivesZero
sequel_frame_of (sequels.GivesResult how) = frames.GivesResult (result_of how)
sequel_frame_of sequels.EndsFinally = frames.EndsFinally

abbrev pub body_frame_of : BodyFrame → frames.BodyFrame
body_frame_of (bodies.EndsForBody k p) = frames.EndsForBody (for_loop_of k) (place_of p)
body_frame_of (bodies.EndsDoBody s c p) =
    frames.EndsDoBody (statement s.now.value) (expression c.now) (place_of p)

abbrev pub waiting_of : Waiting → frames.ContinuationFrame
waiting_of (waiting.Operand f) = frames.Operand (operand_frame_of f)
waiting_of (waiting.Assignment f) = frames.Assignment (assignment_frame_of f)
waiting_of (waiting.Statement f) = frames.InStatement (statement_frame_of f)
waiting_of (waiting.Sequel f) = frames.Sequel (sequel_frame_of f)
waiting_of (waiting.Body f) = frames.Body (body_frame_of f)
waiting_of (waiting.EndsCall n s part) = frames.EndsCall n s part
waiting_of (waiting.Lands held block p) =
    frames.Lands held (all_statements block.now.items) (place_of p)
waiting_of (waiting.Finishes k finally_block p) =
    frames.Finishes k (all_statements finally_block.now.items) (place_of p)

abbrev pub frame_of : ContinuationFrame → frames.ContinuationFrame
frame_of (frame_kinds.Waits w) = waiting_of w
frame_of (frame_kinds.PassesArgument callee vs es i p) =
    frames.Operand (frames.PassesArgument (callee_of callee) vs.items
    (arguments_from es.now.items i) (place_of p))

abbrev pub finish_of : Finish → Result
finish_of (finishes.Gave how) = result_of how
finish_of (finishes.Ended e) = End (Some e)
finish_of finishes.OutOfSteps = End None

abbrev pub phased : Phase → tasks.Task → frames.Place → frames.Next
phased phases.Before task p = frames.Start task p
phased phases.After task p = frames.Begin task p

abbrev pub stack_action_of : StackAction → frames.Place → frames.Next
stack_action_of (stack_actions.Find base offset) p = frames.FindStacked base offset p
stack_action_of (stack_actions.Put v x) p = frames.PutStacked v.now x p
stack_action_of (stack_actions.Clear v n) p = frames.ClearElements v.now n p

abbrev pub vectored_action_of : VectoredAction → Exception → frames.Place → frames.Next
vectored_action_of (vectored_actions.AskFrom place) exc p = frames.AskFrom place exc p
vectored_action_of (vectored_actions.Answered answer asked) exc p =
    frames.VectoredAnswer answer asked.value exc p

abbrev pub action_of : Action → frames.Next
action_of (actions.Over how) = frames.Over (finish_of how)
action_of (actions.Give how) = frames.Give (result_of how)
action_of (actions.Do phase task p) = phased phase (task_of task) (place_of p)
action_of (actions.Evaluate n p) = frames.Evaluate (node n.now) (place_of p)
action_of (actions.Find l p) = frames.Find (lvalue l.now) (place_of p)
action_of (actions.Fetch l a p) = frames.Fetch (lvalue l.now) a (place_of p)
action_of (actions.Put l a v p) = frames.Put (lvalue l.now) a v (place_of p)
action_of (actions.Operate o a b p) = frames.Operate o a b (place_of p)
action_of (actions.Proceed ss i p) = frames.Proceed (statements_from ss.now.items i) (place_of p)
action_of (actions.DeclareEach ds i p) =
    frames.DeclareEach (declared_from ds.now.items i) (place_of p)
action_of (actions.DeclareName d p) = frames.DeclareName (statements.declared d.now) (place_of p)
action_of (actions.SetLocal x v p) = frames.SetLocal x v (place_of p)
action_of (actions.OnStack a p) = stack_action_of a (place_of p)
action_of (actions.Guard body f block p) =
    frames.Guard (all_statements body.now.items) (filter f.now) (all_statements block.now.items)
    (place_of p)
action_of (actions.Answer v) = frames.Answer v
action_of actions.LetGo = frames.LetGo
action_of (actions.OfVectored action exc p) =
    vectored_action_of action (exception_of exc) (place_of p)
action_of (actions.Search level exc p) = frames.Search level (exception_of exc) (place_of p)

abbrev pub next_of : Next → frames.Next
next_of (nexts.Does action) = action_of action
next_of (nexts.Pass callee vs es i p) =
    frames.Pass (callee_of callee) vs.items (arguments_from es.now.items i) (place_of p)
next_of (nexts.Call callee vs p) = frames.Call (callee_of callee) vs.items (place_of p)

abbrev pub after_push : Option ContinuationFrame → frames.Next → frames.Plan
after_push None next = frames.Then next
after_push (Some f) next = frames.Push (frame_of f) next

abbrev pub plan_of : Plan → frames.Plan
plan_of p = after_push p.pushed (next_of p.next)
