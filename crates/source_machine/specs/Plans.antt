-- What is done next where nothing but the program's text and a value decides it.
use Rattle.std.specs.Prelude.{ℕ, ◌+◌, ◌++◌, Bool, true, false, not, nat_eq, nat_lt, ◌^◌, List, []}
use Rattle.std.specs.Prelude.{◌∷◌}
use Rattle.std.specs.Prelude.{Option, Some, None}
use Rattle.seh_num.specs.declared.width.Width.TheVariants.{W32}
use Rattle.seh_num.specs.Widths.{low}
use Rattle.c_operations.specs.declared.operation.Operation.TheVariants.{Load, Store}
use Rattle.c_operations.specs.declared.operation.Pure.TheVariants.{Add}
use Rattle.c_operations.specs.declared.operation.Size.TheVariants.{Long}
use Rattle.c_operations.specs.Numbers.{result_of}
use Rattle.c_checked.specs.declared.expression.Access.{Access}
use Rattle.c_checked.specs.Expression as nodes
use Rattle.c_checked.specs.Expression.{Expression, On, Node, Lvalue, Local, Global, Stacked}
use Rattle.c_checked.specs.Expression.{Indirection}
use Rattle.c_checked.specs.Expression.{Element, Arguments, Done, Next as Another}
use Rattle.c_checked.specs.Statement as statements
use Rattle.c_checked.specs.Statement.{Statement, Statements, Empty, Then as Followed, Declared}
use Rattle.source_meaning.specs.State.{Exception, Value, Normal, Returned, Broke, Continued, LeftTry}
use Rattle.source_meaning.specs.State.{Target}
use Rattle.source_meaning.specs.Tasks as tasks
use Rattle.source_meaning.specs.Tasks.{Task}
use Rattle.source_meaning.specs.Expressions.{of_test, converted, value_of, apart, incremented_value}
use Rattle.source_meaning.specs.Expressions.{field_of}
use Rattle.source_meaning.specs.Raises.{noncontinuable}
use Rattle.source_machine.specs.Frames as frames
use Rattle.source_machine.specs.Frames.{Place, Callee, ForLoop, OperandFrame, AssignmentFrame}
use Rattle.source_machine.specs.Frames.{StatementFrame, SequelFrame, BodyFrame, Operand, Assignment}
use Rattle.source_machine.specs.Frames.{InStatement, Sequel, Body, Next, Give, Start, Plan, Then}
use Rattle.source_machine.specs.Frames.{Push}

-- ---- short forms

abbrev pub gives : ℕ → Plan
gives v = Then (Give (Value v))

abbrev pub ends : Plan
ends = Then (Give Normal)

abbrev pub evaluates : Expression → Place → Next
evaluates e p = Start (tasks.Eval e) p

-- an operand is evaluated, and then a frame continues
abbrev pub operand : OperandFrame → Expression → Place → Plan
operand f e p = Push (Operand f) (evaluates e p)

abbrev pub assignment : AssignmentFrame → Next → Plan
assignment f next = Push (Assignment f) next

abbrev pub locates : Lvalue → Place → Next
locates l p = Start (tasks.Locate l) p

-- an expression in a statement is evaluated, and without one a value takes its place
abbrev pub chosen : Bool → Plan → Plan → Plan
chosen true one other = one
chosen false one other = other

-- ---- expressions

abbrev pub node_plan : Node → Place → Plan
node_plan (nodes.Constant z n) p = gives n
node_plan (nodes.StackedArray base offset) p = Then (frames.FindStacked base offset p)
node_plan (nodes.Read l) p = assignment (frames.ReadsPlace l p) (frames.Find l p)
node_plan (nodes.AddressOf l) p = Then (locates l p)
node_plan (nodes.Assign l e) p = assignment (frames.EvaluatesAssigned l e p) (locates l p)
node_plan (nodes.CompoundAssign l before o e after) p =
    assignment (frames.ReadsCompound (record {
      target = l;
      before = before;
      operation = o;
      value = e;
      after = after;
    }) p) (locates l p)
node_plan (nodes.Increment m l before o n after) p =
    assignment (frames.ReadsStepped (record {
      fixity = m;
      target = l;
      before = before;
      operation = o;
      amount = n;
      after = after;
    }) p) (locates l p)
node_plan (nodes.Unary o e) p = operand (frames.Applies o) e p
node_plan (nodes.Binary o e f) p = operand (frames.EvaluatesRight o f p) e p
node_plan (nodes.PointerDifference size e f) p = operand (frames.EvaluatesSubtrahend size f p) e p
node_plan (nodes.Not e) p = operand frames.Inverts e p
node_plan (nodes.And e f) p = operand (frames.EvaluatesIfTrue f p) e p
node_plan (nodes.Or e f) p = operand (frames.EvaluatesIfFalse f p) e p
node_plan (nodes.Conditional c e f) p = operand (frames.Chooses e f p) c p
node_plan (nodes.Comma e f) p = operand (frames.Discards f p) e p
node_plan (nodes.Call f es) p = Then (frames.Pass (frames.Defined f) [] es p)
node_plan (nodes.CallBuiltIn k es) p = Then (frames.Pass (frames.BuiltInOf k) [] es p)
node_plan nodes.ExceptionCode p = gives p.exception.code
node_plan (nodes.Information f) p = gives (field_of f p.exception)
node_plan nodes.AbnormalTermination p = gives (of_test p.abnormal)

abbrev pub expression_plan : Expression → Place → Plan
expression_plan (On n c) p = Push (Operand (frames.Converts c)) (frames.Evaluate n p)

abbrev pub find_plan : Lvalue → Place → Plan
find_plan (Local x) p = gives 0
find_plan (Global access a) p = gives a
find_plan (Stacked access base offset) p = Then (frames.FindStacked base offset p)
find_plan (Indirection access e) p = Then (evaluates e p)
find_plan (Element access e i) p = operand (frames.EvaluatesIndex i p) e p

-- arguments, from left to right
abbrev pub pass_plan : Callee → List ℕ → Arguments → Place → Plan
pass_plan callee vs Done p = Then (frames.Call callee vs p)
pass_plan callee vs (Another e es) p = operand (frames.PassesArgument callee vs es p) e p

abbrev pub operand_plan : OperandFrame → ℕ → Plan
operand_plan (frames.Converts c) v = gives (converted c v)
operand_plan (frames.EvaluatesIndex i p) a = operand (frames.AddsIndex a) i p
operand_plan (frames.AddsIndex a) n = gives (result_of (Add Long) a n)
operand_plan (frames.Applies o) v = gives (result_of o v 0)
operand_plan (frames.EvaluatesRight o f p) x = operand (frames.Operates o x p) f p
operand_plan (frames.Operates o x p) y = Then (frames.Operate o x y p)
operand_plan (frames.EvaluatesSubtrahend size f p) x = operand (frames.Measures size x) f p
operand_plan (frames.Measures size x) y = gives (apart size x y)
operand_plan frames.Inverts v = gives (of_test (nat_eq v 0))
operand_plan (frames.EvaluatesIfTrue f p) x =
    chosen (nat_eq x 0) (gives 0) (operand frames.Tests f p)
operand_plan (frames.EvaluatesIfFalse f p) x =
    chosen (nat_eq x 0) (operand frames.Tests f p) (gives 1)
operand_plan frames.Tests y = gives (of_test (not (nat_eq y 0)))
operand_plan (frames.Chooses e f p) x =
    chosen (nat_eq x 0) (Then (evaluates f p)) (Then (evaluates e p))
operand_plan (frames.Discards f p) x = Then (evaluates f p)
operand_plan (frames.PassesArgument callee vs es p) v =
    Then (frames.Pass callee (vs ++ v ∷ []) es p)

abbrev pub assignment_plan : AssignmentFrame → ℕ → Plan
assignment_plan (frames.ReadsPlace l p) a = Then (frames.Fetch l a p)
assignment_plan (frames.Extends access) v = gives (value_of access v)
assignment_plan (frames.EvaluatesAssigned l e p) a =
    assignment (frames.Assigns l a p) (evaluates e p)
assignment_plan (frames.Assigns l a p) v = Then (frames.Put l a v p)
assignment_plan (frames.ReadsCompound k p) a =
    assignment (frames.EvaluatesCompound k a p) (frames.Fetch k.target a p)
assignment_plan (frames.EvaluatesCompound k a p) x =
    assignment (frames.OperatesCompound k a x p) (evaluates k.value p)
assignment_plan (frames.OperatesCompound k a x p) y =
    assignment (frames.AssignsCompound k a p)
    (frames.Operate k.operation (converted k.before x) y p)
assignment_plan (frames.AssignsCompound k a p) z =
    Then (frames.Put k.target a (converted k.after z) p)
assignment_plan (frames.ReadsStepped k p) a =
    assignment (frames.OperatesStepped k a p) (frames.Fetch k.target a p)
assignment_plan (frames.OperatesStepped k a p) x =
    assignment (frames.AssignsStepped k a x p)
    (frames.Operate k.operation (converted k.before x) k.amount p)
assignment_plan (frames.AssignsStepped k a x p) z =
    assignment (frames.GivesStepped k.fixity x) (frames.Put k.target a (converted k.after z) p)
assignment_plan (frames.GivesStepped m x) new = gives (incremented_value m x new)

-- an access to memory by which a place is read, and one by which it is written
abbrev pub load_plan : Access → ℕ → Place → Plan
load_plan access a p = assignment (frames.Extends access) (frames.Operate (Load access.width) a 0 p)

abbrev pub store_plan : Access → ℕ → ℕ → Place → Plan
store_plan access a v p = Then (frames.Operate (Store access.width) a v p)

-- ---- statements

abbrev pub proceed_plan : Statements → Place → Plan
proceed_plan Empty p = ends
proceed_plan (Followed s ss) p = Push (Sequel (frames.Continues ss p)) (Start (tasks.Run s) p)

abbrev pub declare_plan : List Declared → Place → Plan
declare_plan [] p = ends
declare_plan (d ∷ ds) p =
    Push (Sequel (frames.DeclaresRest ds p)) (Start (tasks.Run (statements.Declare d)) p)

-- an expression's value goes to a frame, and without an expression the rest is done at once
abbrev pub evaluated : StatementFrame → Option Expression → Place → Plan → Plan
evaluated f None p plan = plan
evaluated f (Some e) p plan = Push (InStatement f) (evaluates e p)

abbrev pub for_task : ForLoop → Task
for_task k = tasks.ForIteration k.condition k.next k.body

abbrev pub iterate : ForLoop → Place → Next
iterate k p = Start (for_task k) p

abbrev pub for_body : ForLoop → Place → Plan
for_body k p = Push (Body (frames.EndsForBody k p)) (Start (tasks.Run k.body) p)

abbrev pub statement_plan : Statement → Place → Plan
statement_plan (statements.Declare d) p = Then (frames.DeclareName d p)
statement_plan (statements.Block ss) p = Then (frames.Proceed ss p)
statement_plan (statements.Evaluate e) p = evaluated frames.EndsEvaluation e p ends
statement_plan (statements.If c s) p = Push (InStatement (frames.Branches s None p)) (evaluates c p)
statement_plan (statements.IfElse c s t) p =
    Push (InStatement (frames.Branches s (Some t) p)) (evaluates c p)
statement_plan (statements.For ds first c next s) p =
    Push (Sequel (frames.EvaluatesFirst first (record { condition = c; next = next; body = s }) p))
    (frames.DeclareEach ds p)
statement_plan (statements.DoWhile s c) p = Then (Start (tasks.DoIteration s c) p)
statement_plan (statements.Return e) p = evaluated frames.Returns e p (Then (Give (Returned 0)))
statement_plan statements.Break p = Then (Give Broke)
statement_plan statements.Continue p = Then (Give Continued)
statement_plan statements.Leave p = Then (Give LeftTry)
statement_plan (statements.TryExcept body filter block) p = Then (frames.Guard body filter block p)
statement_plan (statements.TryFinally body k last) p =
    Push (frames.Finishes k last p) (Start (tasks.TryBody body) p)

abbrev pub branch : Bool → Statement → Option Statement → Place → Plan
branch true s None p = ends
branch true s (Some t) p = Then (Start (tasks.Run t) p)
branch false s t p = Then (Start (tasks.Run s) p)

-- a filter's answer: above 0 takes over, 0 asks the next, and below 0 continues
abbrev pub answer_plan : Bool → Bool → Bool → ℕ → Exception → Place → Plan
answer_plan true positive flag level exc p = Then (frames.Search level exc p)
answer_plan false true flag level exc p = Then (Give (Target level exc))
answer_plan false false true level exc p = Then (Start (tasks.Raise noncontinuable) p)
answer_plan false false false level exc p = ends

-- a vectored handler's answer below 0 continues, and after any other the next one is asked
abbrev pub vectored_plan : Bool → Bool → (place : ℕ) → Exception → Place → Plan
vectored_plan true flag place exc p = Then (frames.AskFrom (place + 1) exc p)
vectored_plan false true place exc p = Then (Start (tasks.Raise noncontinuable) p)
vectored_plan false false place exc p = ends

abbrev pub in_statement_plan : StatementFrame → ℕ → Plan
in_statement_plan (frames.Initialises x p) v = Then (frames.SetLocal x v p)
in_statement_plan (frames.InitialisesStacked x p) v = Then (frames.PutStacked x v p)
in_statement_plan frames.EndsEvaluation v = ends
in_statement_plan (frames.Branches s t p) v = branch (nat_eq v 0) s t p
in_statement_plan (frames.Iterates k p) v = Then (iterate k p)
in_statement_plan (frames.TestsFor k p) v = chosen (nat_eq v 0) ends (for_body k p)
in_statement_plan (frames.TestsDo s c p) v =
    chosen (nat_eq v 0) ends (Then (Start (tasks.DoIteration s c) p))
in_statement_plan frames.Returns v = Then (Give (Returned v))
in_statement_plan frames.EndsFilter v = Then (frames.Answer v)
in_statement_plan (frames.IsAnswered level exc p) v =
    answer_plan (nat_eq (low W32 v) 0) (nat_lt (low W32 v) (2 ^ 31)) exc.flag level exc p
in_statement_plan (frames.EndsVectored place exc p) v = Then (frames.VectoredAnswer v place exc p)

abbrev pub sequel_plan : SequelFrame → Plan
sequel_plan (frames.Continues ss p) = Then (frames.Proceed ss p)
sequel_plan (frames.DeclaresRest ds p) = Then (frames.DeclareEach ds p)
sequel_plan (frames.EvaluatesFirst first k p) =
    evaluated (frames.Iterates k p) first p (Then (iterate k p))
sequel_plan (frames.Retries o a b p) = Then (Start (tasks.Retry o a b) p)
sequel_plan frames.GivesZero = gives 0
sequel_plan (frames.GivesResult how) = Then (Give how)
sequel_plan frames.EndsFinally = Then frames.LetGo

-- after a loop's body that didn't break
abbrev pub body_plan : BodyFrame → Plan
body_plan (frames.EndsForBody k p) = evaluated (frames.Iterates k p) k.next p (Then (iterate k p))
body_plan (frames.EndsDoBody s c p) = Push (InStatement (frames.TestsDo s c p)) (evaluates c p)
