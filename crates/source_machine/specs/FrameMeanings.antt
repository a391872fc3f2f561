-- What the machine comes to: what its next item means, through the frames that wait.
--
-- The main definition: `comes_to`.
use Rattle.std.specs.Prelude.{ℕ, zero, suc, ◌++◌, not, nat_eq, List, [], ◌∷◌, length, slice_get}
use Rattle.std.specs.Prelude.{Option, Some, None}
use Rattle.seh_num.specs.declared.width.Width.TheVariants.{W32}
use Rattle.seh_num.specs.declared.event.Event.TheVariants as events
use Rattle.seh_num.specs.Widths.{signed}
use Rattle.c_operations.specs.declared.operation.Pure.TheVariants.{Add}
use Rattle.c_operations.specs.declared.operation.Size.TheVariants.{Long}
use Rattle.c_operations.specs.Numbers.{result_of}
use Rattle.c_checked.specs.Program.{Program}
use Rattle.c_checked.specs.Statement as statements
use Rattle.c_checked.specs.Statement.{Statement}
use Rattle.c_checked.specs.Expression.{Expression}
use Rattle.source_meaning.specs.State.{State, Value, Normal, Returned, Outcome, Gives, choose, set_local}
use Rattle.source_meaning.specs.State.{emit, let_go, with_value, and_then}
use Rattle.source_meaning.specs.Tasks as tasks
use Rattle.source_meaning.specs.Tasks.{Handler, Does}
use Rattle.source_meaning.specs.Expressions.{of_test, converted, value_of, apart, incremented_value}
use Rattle.source_meaning.specs.Expressions.{locate, read, write, operate, each, all, ended_call, enter}
use Rattle.source_meaning.specs.Expressions.{call_built_in, node, stacked_address}
use Rattle.source_meaning.specs.DataStack.{close_part, reset_pointer, put, clear}
use Rattle.source_meaning.specs.Statements.{optional, declare, declare_each, in_loop, landing}
use Rattle.source_meaning.specs.Statements.{finally_after, statement}
use Rattle.source_meaning.specs.Raises.{answered, search, ask_from, vectored_answered}
use Rattle.source_meaning.specs.Meaning.{perform}
use Rattle.source_machine.specs.Frames as frames
use Rattle.source_machine.specs.Frames.{Place, context_at, Callee, ForLoop, OperandFrame}
use Rattle.source_machine.specs.Frames.{AssignmentFrame, StatementFrame, SequelFrame, BodyFrame}
use Rattle.source_machine.specs.Frames.{ContinuationFrame, Operand, Assignment, InStatement, Sequel, Body}
use Rattle.source_machine.specs.Frames.{EndsCall, Lands, Finishes, Next, Over, Give, Start, Begin}
use Rattle.source_machine.specs.Plans.{for_task}
use Rattle.source_machine.specs.Machine.{Machine, outside}

-- the handlers below a number, the highest first
abbrev pub found : Option Handler → List Handler → List Handler
found None hs = []
found (Some h) hs = h ∷ hs

abbrev pub below : ℕ → List Handler → List Handler
below zero hs = []
below (suc k) hs = found (slice_get hs k) (below k hs)

module _ (program : Program) (d : Does) where
  abbrev pub call : Callee → List ℕ → List Handler → Place → State → Outcome
  call (frames.Defined f) vs hs p st =
      enter program d f (slice_get program.functions f) vs (context_at hs p) st
  call (frames.BuiltInOf k) vs hs p st = call_built_in d k vs (context_at hs p) st

  abbrev pub iterate_for : ForLoop → List Handler → Place → State → Outcome
  iterate_for k hs p st = d (for_task k) (context_at hs p) st

  -- ---- what waits for a value, when the value is there

  abbrev pub operand_meaning : List Handler → OperandFrame → ℕ → State → Outcome
  operand_meaning hs (frames.Converts c) v st = Gives (Value (converted c v)) st
  operand_meaning hs (frames.EvaluatesIndex i p) a st =
      with_value (d (tasks.Eval i) (context_at hs p) st)
      (λ n st. Gives (Value (result_of (Add Long) a n)) st)
  operand_meaning hs (frames.AddsIndex a) n st = Gives (Value (result_of (Add Long) a n)) st
  operand_meaning hs (frames.Applies o) v st = Gives (Value (result_of o v 0)) st
  operand_meaning hs (frames.EvaluatesRight o f p) x st =
      with_value (d (tasks.Eval f) (context_at hs p) st)
      (λ y st. operate program d o x y (context_at hs p) st)
  operand_meaning hs (frames.Operates o x p) y st = operate program d o x y (context_at hs p) st
  operand_meaning hs (frames.EvaluatesSubtrahend size f p) x st =
      with_value (d (tasks.Eval f) (context_at hs p) st) (λ y st. Gives (Value (apart size x y)) st)
  operand_meaning hs (frames.Measures size x) y st = Gives (Value (apart size x y)) st
  operand_meaning hs frames.Inverts v st = Gives (Value (of_test (nat_eq v 0))) st
  operand_meaning hs (frames.EvaluatesIfTrue f p) x st =
      choose (nat_eq x 0) (λ st. Gives (Value 0) st)
      (λ st. with_value (d (tasks.Eval f) (context_at hs p) st)
      (λ y st. Gives (Value (of_test (not (nat_eq y 0)))) st)) st
  operand_meaning hs (frames.EvaluatesIfFalse f p) x st =
      choose (nat_eq x 0) (λ st. with_value (d (tasks.Eval f) (context_at hs p) st)
      (λ y st. Gives (Value (of_test (not (nat_eq y 0)))) st)) (λ st. Gives (Value 1) st) st
  operand_meaning hs frames.Tests y st = Gives (Value (of_test (not (nat_eq y 0)))) st
  operand_meaning hs (frames.Chooses e f p) x st =
      choose (nat_eq x 0) (λ st. d (tasks.Eval f) (context_at hs p) st)
      (λ st. d (tasks.Eval e) (context_at hs p) st) st
  operand_meaning hs (frames.Discards f p) x st = d (tasks.Eval f) (context_at hs p) st
  operand_meaning hs (frames.PassesArgument callee vs es p) v st =
      each d es (context_at hs p) st (λ ws st. call callee ((vs ++ v ∷ []) ++ ws) hs p st)

  abbrev pub assignment_meaning : List Handler → AssignmentFrame → ℕ → State → Outcome
  assignment_meaning hs (frames.ReadsPlace l p) a st = read program d l a (context_at hs p) st
  assignment_meaning hs (frames.Extends access) v st = Gives (Value (value_of access v)) st
  assignment_meaning hs (frames.EvaluatesAssigned l e p) a st =
      with_value (d (tasks.Eval e) (context_at hs p) st)
      (λ v st. write program d l a v (context_at hs p) st)
  assignment_meaning hs (frames.Assigns l a p) v st = write program d l a v (context_at hs p) st
  assignment_meaning hs (frames.ReadsCompound k p) a st =
      with_value (read program d k.target a (context_at hs p) st) (λ x st.
      with_value (d (tasks.Eval k.value) (context_at hs p) st) (λ y st.
      with_value (operate program d k.operation (converted k.before x) y (context_at hs p) st)
      (λ z st.
      write program d k.target a (converted k.after z) (context_at hs p) st)))
  assignment_meaning hs (frames.EvaluatesCompound k a p) x st =
      with_value (d (tasks.Eval k.value) (context_at hs p) st) (λ y st.
      with_value (operate program d k.operation (converted k.before x) y (context_at hs p) st)
      (λ z st.
      write program d k.target a (converted k.after z) (context_at hs p) st))
  assignment_meaning hs (frames.OperatesCompound k a x p) y st =
      with_value (operate program d k.operation (converted k.before x) y (context_at hs p) st)
      (λ z st.
      write program d k.target a (converted k.after z) (context_at hs p) st)
  assignment_meaning hs (frames.AssignsCompound k a p) z st =
      write program d k.target a (converted k.after z) (context_at hs p) st
  assignment_meaning hs (frames.ReadsStepped k p) a st =
      with_value (read program d k.target a (context_at hs p) st) (λ x st.
      with_value (operate program d k.operation (converted k.before x) k.amount
      (context_at hs p) st) (λ z st.
      with_value (write program d k.target a (converted k.after z) (context_at hs p) st) (λ new st.
      Gives (Value (incremented_value k.fixity x new)) st)))
  assignment_meaning hs (frames.OperatesStepped k a p) x st =
      with_value (operate program d k.operation (converted k.before x) k.amount
      (context_at hs p) st) (λ z st.
      with_value (write program d k.target a (converted k.after z) (context_at hs p) st) (λ new st.
      Gives (Value (incremented_value k.fixity x new)) st))
  assignment_meaning hs (frames.AssignsStepped k a x p) z st =
      with_value (write program d k.target a (converted k.after z) (context_at hs p) st)
      (λ new st. Gives (Value (incremented_value k.fixity x new)) st)
  assignment_meaning hs (frames.GivesStepped m x) new st =
      Gives (Value (incremented_value m x new)) st

  abbrev pub branch_meaning : Statement → Option Statement → List Handler → Place → State → Outcome
  branch_meaning s None hs p st = Gives Normal st
  branch_meaning s (Some t) hs p st = d (tasks.Run t) (context_at hs p) st

  abbrev pub for_body_meaning : ForLoop → List Handler → Place → State → Outcome
  for_body_meaning k hs p st =
      in_loop (d (tasks.Run k.body) (context_at hs p) st)
      (λ st. optional d 0 k.next (context_at hs p) st (λ w st. iterate_for k hs p st))

  abbrev pub in_statement_meaning : List Handler → StatementFrame → ℕ → State → Outcome
  in_statement_meaning hs (frames.Initialises x p) v st =
      Gives Normal (set_local st p.activation x v)
  in_statement_meaning hs (frames.InitialisesStacked x p) v st =
      put program x p.activation v st (λ st. Gives Normal st)
  in_statement_meaning hs frames.EndsEvaluation v st = Gives Normal st
  in_statement_meaning hs (frames.Branches s t p) v st =
      choose (nat_eq v 0) (branch_meaning s t hs p) (λ st. d (tasks.Run s) (context_at hs p) st) st
  in_statement_meaning hs (frames.Iterates k p) v st = iterate_for k hs p st
  in_statement_meaning hs (frames.TestsFor k p) v st =
      choose (nat_eq v 0) (λ st. Gives Normal st) (for_body_meaning k hs p) st
  in_statement_meaning hs (frames.TestsDo s c p) v st =
      choose (nat_eq v 0) (λ st. Gives Normal st)
      (λ st. d (tasks.DoIteration s c) (context_at hs p) st) st
  in_statement_meaning hs frames.Returns v st = Gives (Returned v) st
  in_statement_meaning hs frames.EndsFilter v st =
      Gives (Value v) (emit (events.Answer (signed W32 v)) (let_go st))
  in_statement_meaning hs (frames.IsAnswered level exc p) v st =
      answered d v level exc (context_at hs p) st
      (λ st. search d (below level hs) exc (context_at hs p) st)
  in_statement_meaning hs (frames.EndsVectored place exc p) v st =
      vectored_answered d v place exc (context_at hs p) (let_go st)

  -- ---- what waits for a normal end, when it is there

  abbrev pub first_meaning : Option Expression → ForLoop → List Handler → Place → State → Outcome
  first_meaning first k hs p st =
      optional d 0 first (context_at hs p) st (λ v st. iterate_for k hs p st)

  abbrev pub sequel_meaning : List Handler → SequelFrame → State → Outcome
  sequel_meaning hs (frames.Continues ss p) st = all d ss (context_at hs p) st
  sequel_meaning hs (frames.DeclaresRest ds p) st = declare_each d ds (context_at hs p) st
  sequel_meaning hs (frames.EvaluatesFirst first k p) st = first_meaning first k hs p st
  sequel_meaning hs (frames.Retries o a b p) st = d (tasks.Retry o a b) (context_at hs p) st
  sequel_meaning hs frames.GivesZero st = Gives (Value 0) st
  sequel_meaning hs (frames.GivesResult how) st = Gives how st
  sequel_meaning hs frames.EndsFinally st = Gives Normal (let_go st)

  abbrev pub body_meaning : List Handler → BodyFrame → State → Outcome
  body_meaning hs (frames.EndsForBody k p) st = first_meaning k.next k hs p st
  body_meaning hs (frames.EndsDoBody s c p) st =
      with_value (d (tasks.Eval c) (context_at hs p) st)
      (λ v st. choose (nat_eq v 0) (λ st. Gives Normal st)
      (λ st. d (tasks.DoIteration s c) (context_at hs p) st) st)

  -- ---- frames, with the handlers outside them

  abbrev pub through : List Handler → ContinuationFrame → Outcome → Outcome
  through hs (Operand f) o = with_value o (operand_meaning hs f)
  through hs (Assignment f) o = with_value o (assignment_meaning hs f)
  through hs (InStatement f) o = with_value o (in_statement_meaning hs f)
  through hs (Sequel f) o = and_then o (sequel_meaning hs f)
  through hs (Body f) o = in_loop o (body_meaning hs f)
  through hs (EndsCall n s part) o = ended_call n s (close_part part n o)
  through hs (Lands held block p) o =
      landing (length (context_at hs p).handlers) held o
      (λ exc st. all d block (record (context_at hs p) { exception = exc })
      (reset_pointer p.data_part p.activation st))
  through hs (Finishes k last p) o =
      finally_after o (λ flag st. d (tasks.RunFinally k last flag) (context_at hs p) st)

  abbrev pub through_all : List Handler → List ContinuationFrame → Outcome → Outcome
  through_all hs [] o = o
  through_all hs (f ∷ fs) o = through_all (outside f hs) fs (through (outside f hs) f o)

  -- ---- what is done next

  abbrev pub next_meaning : List Handler → Next → State → Outcome
  next_meaning hs (Over how) st = Gives how st
  next_meaning hs (Give how) st = Gives how st
  next_meaning hs (Start task p) st = d task (context_at hs p) st
  next_meaning hs (Begin task p) st = perform program d task (context_at hs p) st
  next_meaning hs (frames.Evaluate n p) st = node program d n (context_at hs p) st
  next_meaning hs (frames.Find l p) st = locate d l (context_at hs p) st
  next_meaning hs (frames.FindStacked base offset p) st =
      Gives (Value (stacked_address base offset (context_at hs p) st)) st
  next_meaning hs (frames.Fetch l a p) st = read program d l a (context_at hs p) st
  next_meaning hs (frames.Put l a v p) st = write program d l a v (context_at hs p) st
  next_meaning hs (frames.Operate o a b p) st = operate program d o a b (context_at hs p) st
  next_meaning hs (frames.Pass callee vs es p) st =
      each d es (context_at hs p) st (λ ws st. call callee (vs ++ ws) hs p st)
  next_meaning hs (frames.Call callee vs p) st = call callee vs hs p st
  next_meaning hs (frames.Proceed ss p) st = all d ss (context_at hs p) st
  next_meaning hs (frames.DeclareEach ds p) st = declare_each d ds (context_at hs p) st
  next_meaning hs (frames.DeclareName e p) st = declare program d e (context_at hs p) st
  next_meaning hs (frames.SetLocal x v p) st = Gives Normal (set_local st p.activation x v)
  next_meaning hs (frames.PutStacked v x p) st =
      put program v p.activation x st (λ st. Gives Normal st)
  next_meaning hs (frames.ClearElements v n p) st =
      clear program v p.activation n st (λ st. Gives Normal st)
  next_meaning hs (frames.Guard body filter block p) st =
      statement program d (statements.TryExcept body filter block) (context_at hs p) st
  next_meaning hs (frames.Answer v) st =
      Gives (Value v) (emit (events.Answer (signed W32 v)) (let_go st))
  next_meaning hs frames.LetGo st = Gives Normal (let_go st)
  next_meaning hs (frames.AskFrom place exc p) st = ask_from d place exc (context_at hs p) st
  next_meaning hs (frames.VectoredAnswer v place exc p) st =
      vectored_answered d v place exc (context_at hs p) (let_go st)
  next_meaning hs (frames.Search level exc p) st =
      search d (below level hs) exc (context_at hs p) st

  -- what the machine comes to; where the run is over nothing waits any more
  abbrev pub reaches : List Handler → List ContinuationFrame → State → Next → Outcome
  reaches hs fs st (Over how) = Gives how st
  reaches hs fs st next = through_all hs fs (next_meaning hs next st)

  -- what the next item means, through all frames that wait: each frame's part is a part of the
  -- meaning, in its words
  abbrev pub comes_to : Machine → Outcome
  comes_to m = reaches m.handlers m.stack m.state m.next
