-- What frames do with results keeps what the machine comes to.
use Rattle.std.proofs.Common.{◌≡◌, ℕ, ◌+◌, List, [], ◌∷◌, length, refl, sym, ap, ◌∙◌, Option, Some, None}
use Rattle.std.specs.Prelude.{Bool, true, false, nat_eq, nat_lt, ◌^◌, reverse}
use Rattle.std.proofs.lemmas.List.{length-reverse}
use Rattle.source_machine.specs.Words.{Program, DataPart, close_part, close, reset_pointer, Expression, Statement, Statements, Ended, Deep, Exception, State, Result, Value, Normal, Continued, Target, End, Outcome, Gives, choose, with_value, and_then, emit, Handler, Does, ended_call, all, optional, in_loop, landing, finally_after, noncontinuable, ask_from, search, W32, low, Place, context_at, OperandFrame, AssignmentFrame, StatementFrame, SequelFrame, BodyFrame, ContinuationFrame, Operand, Assignment, InStatement, Sequel, Body, EndsCall, Lands, Finishes, Plan, chosen, operand_plan, assignment_plan, evaluated, branch, answer_plan, vectored_plan, in_statement_plan, sequel_plan, body_plan, Machine, follow, over, after_value, after_normal, after_body, left_call, target_landed, landed, finished, resumed, outside, given, unless_deep, unless_few, below, operand_meaning, assignment_meaning, branch_meaning, in_statement_meaning, sequel_meaning, body_meaning, through, through_all, comes_to}
use Rattle.source_meaning.specs.Tasks as tasks
use Rattle.seh_num.specs.declared.event.Event.TheVariants as events
use Rattle.source_machine.specs.Frames as frames

module _ (program : Program) (d : Does) where
  abbrev pub comes : Machine → Outcome
  comes m = comes_to program d m

  -- an outcome through all that waits
  abbrev pub from : Machine → Outcome → Outcome
  from m o = through_all program d m.handlers m.stack o

  -- ---- an end passes all frames

  ended_frame : (hs : List Handler) (f : ContinuationFrame) (e : Option Ended) (st : State)
      → through program d hs f (Gives (End e) st) ≡ Gives (End e) st
  unfolding with_value and_then in_loop ended_call landing finally_after close
  ended_frame hs (Operand f) e st = refl
  ended_frame hs (EndsCall n s None) e st = refl
  ended_frame hs (EndsCall n s (Some part)) e st = refl
  ended_frame hs x e st = refl

  ended_all : (hs : List Handler) (fs : List ContinuationFrame) (e : Option Ended) (st : State)
      → through_all program d hs fs (Gives (End e) st) ≡ Gives (End e) st
  ended_all hs [] e st = refl
  ended_all hs (f ∷ fs) e st =
      ap (through_all program d (outside f hs) fs) (ended_frame (outside f hs) f e st)
      ∙ ended_all (outside f hs) fs e st

  pub over_keeps : (m : Machine) (e : Option Ended)
      → comes (over m (End e)) ≡ from m (Gives (End e) m.state)
  over_keeps m e = sym (ended_all m.handlers m.stack e m.state)

  pub deep_keeps : (b : Bool) (m other : Machine) (go : State → Outcome)
      → comes other ≡ from m (go m.state)
      → comes (unless_deep b m other) ≡ from m
      (choose b (λ st. Gives (End (Some (Deep 1001))) st) go m.state)
  unfolding choose
  deep_keeps true m other go e = over_keeps m (Some (Deep 1001))
  deep_keeps false m other go e = e

  pub few_keeps : (b : Bool) (m other : Machine) (go : State → Outcome)
      → comes other ≡ from m (go m.state)
      → comes (unless_few b m other) ≡ from m (choose b (λ st. Gives (End None) st) go m.state)
  unfolding choose
  few_keeps true m other go e = over_keeps m None
  few_keeps false m other go e = e

  -- ---- a plan that is chosen

  pub chosen_keeps : (b : Bool) (m : Machine) (one other : Plan) (f g : State → Outcome)
      → comes (follow m one) ≡ from m (f m.state) → comes (follow m other) ≡ from m (g m.state)
      → comes (follow m (chosen b one other)) ≡ from m (choose b f g m.state)
  unfolding choose
  chosen_keeps true m one other f g p q = p
  chosen_keeps false m one other f g p q = q

  pub evaluated_keeps : (m : Machine) (f : StatementFrame) (e : Option Expression) (p : Place)
      (plan : Plan) (default : ℕ)
      → comes (follow m plan) ≡ from m (in_statement_meaning program d m.handlers f default m.state)
      → comes (follow m (evaluated f e p plan))
      ≡ from m (optional d default e (context_at m.handlers p) m.state
      (in_statement_meaning program d m.handlers f))
  evaluated_keeps m f None p plan default h = h
  evaluated_keeps m f (Some e) p plan default h = refl

  -- ---- a value

  pub operand_keeps : (m : Machine) (f : OperandFrame) (v : ℕ)
      → comes (follow m (operand_plan f v)) ≡ from m
      (operand_meaning program d m.handlers f v m.state)
  unfolding with_value
  operand_keeps m (frames.Converts c) v = refl
  operand_keeps m (frames.EvaluatesIfTrue f p) v = chosen_keeps (nat_eq v 0) m _ _ _ _ refl refl
  operand_keeps m (frames.EvaluatesIfFalse f p) v = chosen_keeps (nat_eq v 0) m _ _ _ _ refl refl
  operand_keeps m frames.Tests v = refl
  operand_keeps m (frames.Chooses e f p) v = chosen_keeps (nat_eq v 0) m _ _ _ _ refl refl
  operand_keeps m (frames.Discards f p) v = refl
  operand_keeps m (frames.PassesArgument callee vs es p) v = refl
  operand_keeps m x v = refl

  pub assignment_keeps : (m : Machine) (f : AssignmentFrame) (v : ℕ)
      → comes (follow m (assignment_plan f v))
      ≡ from m (assignment_meaning program d m.handlers f v m.state)
  unfolding with_value
  assignment_keeps m (frames.ReadsPlace l p) v = refl
  assignment_keeps m x v = refl

  branch_keeps : (b : Bool) (m : Machine) (s : Statement) (t : Option Statement) (p : Place)
      → comes (follow m (branch b s t p)) ≡ from m
      (choose b (branch_meaning program d s t m.handlers p)
      (λ st. d (tasks.Run s) (context_at m.handlers p) st) m.state)
  unfolding choose
  branch_keeps true m s None p = refl
  branch_keeps true m s (Some t) p = refl
  branch_keeps false m s t p = refl

  answer_keeps : (a b c : Bool) (m : Machine) (level : ℕ) (exc : Exception) (p : Place)
      → comes (follow m (answer_plan a b c level exc p))
      ≡ from m (choose a (λ st. search d (below level m.handlers) exc (context_at m.handlers p) st)
      (choose b (λ st. Gives (Target level exc) st)
      (λ st. choose c (λ st. d (tasks.Raise noncontinuable) (context_at m.handlers p) st)
      (λ st. Gives Normal st) st)) m.state)
  unfolding choose
  answer_keeps true b c m level exc p = refl
  answer_keeps false true c m level exc p = refl
  answer_keeps false false true m level exc p = refl
  answer_keeps false false false m level exc p = refl

  pub vectored_keeps : (b c : Bool) (m : Machine) (place : ℕ) (exc : Exception) (p : Place)
      → comes (follow m (vectored_plan b c place exc p))
      ≡ from m
      (choose b (λ st. ask_from d (place + 1) exc (context_at m.handlers p) st)
      (λ st. choose c (λ st. d (tasks.Raise noncontinuable) (context_at m.handlers p) st)
      (λ st. Gives Normal st) st) m.state)
  unfolding choose
  vectored_keeps true c m place exc p = refl
  vectored_keeps false true m place exc p = refl
  vectored_keeps false false m place exc p = refl

  statement_keeps : (m : Machine) (f : StatementFrame) (v : ℕ)
      → comes (follow m (in_statement_plan f v))
      ≡ from m (in_statement_meaning program d m.handlers f v m.state)
  unfolding with_value
  statement_keeps m (frames.Initialises x p) v = refl
  statement_keeps m (frames.InitialisesStacked x p) v = refl
  statement_keeps m frames.EndsEvaluation v = refl
  statement_keeps m (frames.Branches s t p) v = branch_keeps (nat_eq v 0) m s t p
  statement_keeps m (frames.Iterates k p) v = refl
  statement_keeps m (frames.TestsFor k p) v = chosen_keeps (nat_eq v 0) m _ _ _ _ refl refl
  statement_keeps m (frames.TestsDo s c p) v = chosen_keeps (nat_eq v 0) m _ _ _ _ refl refl
  statement_keeps m frames.Returns v = refl
  statement_keeps m frames.EndsFilter v = refl
  statement_keeps m (frames.IsAnswered level exc p) v =
      answer_keeps (nat_eq (low W32 v) 0) (nat_lt (low W32 v) (2 ^ 31)) exc.flag m level exc p
  statement_keeps m (frames.EndsVectored place exc p) v = refl

  -- ---- a normal end

  sequel_keeps : (m : Machine) (f : SequelFrame)
      → comes (follow m (sequel_plan f)) ≡ from m (sequel_meaning program d m.handlers f m.state)
  sequel_keeps m (frames.Continues ss p) = refl
  sequel_keeps m (frames.DeclaresRest ds p) = refl
  sequel_keeps m (frames.EvaluatesFirst first k p) =
      evaluated_keeps m (frames.Iterates k p) first p _ 0 refl
  sequel_keeps m (frames.Retries o a b p) = refl
  sequel_keeps m x = refl

  body_keeps : (m : Machine) (f : BodyFrame) → comes (follow m (body_plan f))
      ≡ from m (body_meaning program d m.handlers f m.state)
  unfolding with_value
  body_keeps m (frames.EndsForBody k p) = evaluated_keeps m (frames.Iterates k p) k.next p _ 0 refl
  body_keeps m (frames.EndsDoBody s c p) = refl

  -- ---- any result

  value_keeps : (m : Machine) (plan : ℕ → Plan) (go : ℕ → State → Outcome)
      → ((v : ℕ) → comes (follow m (plan v)) ≡ from m (go v m.state))
      → (how : Result) → comes (after_value m plan how) ≡ from m (with_value (Gives how m.state) go)
  unfolding with_value
  value_keeps m plan go h (Value v) = h v
  value_keeps m plan go h other = refl

  normal_keeps : (m : Machine) (plan : Plan) (go : State → Outcome)
      → comes (follow m plan) ≡ from m (go m.state)
      → (how : Result) → comes (after_normal m plan how) ≡ from m (and_then (Gives how m.state) go)
  unfolding and_then
  normal_keeps m plan go h Normal = h
  normal_keeps m plan go h other = refl

  loop_keeps : (m : Machine) (plan : Plan) (go : State → Outcome)
      → comes (follow m plan) ≡ from m (go m.state)
      → (how : Result) → comes (after_body m plan how) ≡ from m (in_loop (Gives how m.state) go)
  unfolding in_loop
  loop_keeps m plan go h Normal = h
  loop_keeps m plan go h Continued = h
  loop_keeps m plan go h other = refl

  call_keeps : (m : Machine) (n s : ℕ) (part : Option DataPart) (how : Result)
      → comes (left_call m n s part how)
      ≡ from m (ended_call n s (close_part part n (Gives how m.state)))
  unfolding ended_call close
  call_keeps m n s None (Value v) = refl
  call_keeps m n s None other = refl
  call_keeps m n s (Some part) (Value v) = refl
  call_keeps m n s (Some part) other = refl

  target_keeps : (b : Bool) (m : Machine) (held : ℕ) (block : Statements) (p : Place) (to : ℕ)
      (exc : Exception)
      → comes (target_landed m b held block p to exc)
      ≡ from m
      (choose b (λ st. all d block (record (context_at m.handlers p) { exception = exc })
      (reset_pointer p.data_part p.activation
      (emit (events.Except (record { 0 = exc.code })) (record st { held = held }))))
      (λ st. Gives (Target to exc) st) m.state)
  unfolding choose
  target_keeps true m held block p to exc = refl
  target_keeps false m held block p to exc = refl

  land_keeps : (m : Machine) (held : ℕ) (block : Statements) (p : Place) (how : Result)
      → comes (landed m held block p how) ≡ from m
      (through program d m.handlers (Lands held block p) (Gives how m.state))
  unfolding landing
  land_keeps m held block p (Target to exc) =
      ap (λ n. comes (target_landed m (nat_eq to n) held block p to exc))
      (sym (length-reverse m.handlers))
      ∙ target_keeps (nat_eq to (length (reverse m.handlers))) m held block p to exc
  land_keeps m held block p other = refl

  finish_keeps : (m : Machine) (k : ℕ) (last : Statements) (p : Place) (how : Result)
      → comes (finished m k last p how) ≡ from m
      (finally_after (Gives how m.state) (λ flag st. d (tasks.RunFinally k last flag)
      (context_at m.handlers p) st))
  unfolding finally_after and_then
  finish_keeps m k last p (Value v) = refl
  finish_keeps m k last p other = refl

  resumed_keeps : (m : Machine) (f : ContinuationFrame) (how : Result)
      → comes (resumed m f how) ≡ from m (through program d m.handlers f (Gives how m.state))
  resumed_keeps m (Operand f) how =
      value_keeps m (operand_plan f) (operand_meaning program d m.handlers f) (operand_keeps m f)
      how
  resumed_keeps m (Assignment f) how =
      value_keeps m (assignment_plan f) (assignment_meaning program d m.handlers f)
      (assignment_keeps m f) how
  resumed_keeps m (InStatement f) how =
      value_keeps m (in_statement_plan f) (in_statement_meaning program d m.handlers f)
      (statement_keeps m f) how
  resumed_keeps m (Sequel f) how =
      normal_keeps m (sequel_plan f) (sequel_meaning program d m.handlers f) (sequel_keeps m f) how
  resumed_keeps m (Body f) how =
      loop_keeps m (body_plan f) (body_meaning program d m.handlers f) (body_keeps m f) how
  resumed_keeps m (EndsCall n s part) how = call_keeps m n s part how
  resumed_keeps m (Lands held block p) how = land_keeps m held block p how
  resumed_keeps m (Finishes k last p) how = finish_keeps m k last p how

  pub given_keeps : (m : Machine) (how : Result) (fs : List ContinuationFrame)
      → comes (given m how fs) ≡ through_all program d m.handlers fs (Gives how m.state)
  given_keeps m how [] = refl
  given_keeps m how (f ∷ fs) =
      resumed_keeps (record m { handlers = outside f m.handlers; stack = fs }) f how
