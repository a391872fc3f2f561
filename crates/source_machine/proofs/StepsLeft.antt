-- What is done next doesn't look at how many steps are left, unless it counts steps.
use Rattle.std.proofs.Common.{◌≡◌, ℕ, zero, suc, List, [], ◌∷◌, length, refl, Option, Some, None}
use Rattle.std.specs.Prelude.{Bool, true, false, nat_eq, slice_get}
use Rattle.source_machine.specs.Words.{DataFrame, DataPart, StackedParameter, StackedVariable, Expression, ends, at_state, set_memory, let_go, allocate, local_of, placing, clearing, with_next, stored, brought, opened, put_stacked, cleared_one, declared_stacked, declared_at, BuiltIn, Put, Protect, RaiseException, Walk, AddVectored, RemoveVectored, Operation, performed, Program, Lvalue, Local, Filter, Always, Funclet, Statements, is_reserved, Exception, Result, Value, Normal, Continued, LeftTry, Target, End, Handler, Task, Place, ContinuationFrame, Operand, Assignment, InStatement, Sequel, Body, EndsCall, Lands, Finishes, Next, Over, Give, Start, Begin, Plan, Then, Push, operand_plan, assignment_plan, in_statement_plan, sequel_plan, body_plan, Machine, follow, unless_deep, begun, fetched, put, operated, built_in, asked_vectored, asked_by, asked, searched, target_landed, landed, finished, left_call, after_value, after_normal, after_body, resumed, given, outside, done, is_deep, with_local}
use Rattle.c_operations.specs.Performed as performing
use Rattle.source_meaning.specs.Tasks as tasks
use Rattle.source_machine.specs.Frames as frames

-- a machine that has so many steps left
abbrev pub with_left : ℕ → Machine → Machine
with_left l m = record m { state = record m.state { steps_left = l } }

module _ (l : ℕ) where
  follows : (m : Machine) (plan : Plan) → follow (with_left l m) plan ≡ with_left l (follow m plan)
  follows m (Then next) = refl
  follows m (Push f next) = refl

  unless : (b : Bool) (m other : Machine) → unless_deep b (with_left l m) (with_left l other)
      ≡ with_left l (unless_deep b m other)
  unless true m other = refl
  unless false m other = refl

  value : (m : Machine) (plan : ℕ → Plan) (how : Result)
      → after_value (with_left l m) plan how ≡ with_left l (after_value m plan how)
  value m plan (Value v) = follows m (plan v)
  value m plan how = refl

  normal : (m : Machine) (plan : Plan) (how : Result)
      → after_normal (with_left l m) plan how ≡ with_left l (after_normal m plan how)
  normal m plan Normal = follows m plan
  normal m plan how = refl

  body : (m : Machine) (plan : Plan) (how : Result)
      → after_body (with_left l m) plan how ≡ with_left l (after_body m plan how)
  body m plan Normal = follows m plan
  body m plan Continued = follows m plan
  body m plan how = refl

  call : (m : Machine) (n s : ℕ) (part : Option DataPart) (how : Result)
      → left_call (with_left l m) n s part how ≡ with_left l (left_call m n s part how)
  call m n s part (End e) = refl
  call m n s part x = refl

  target : (b : Bool) (m : Machine) (held : ℕ) (block : Statements) (p : Place) (to : ℕ)
      (exc : Exception)
      → target_landed (with_left l m) b held block p to exc
      ≡ with_left l (target_landed m b held block p to exc)
  target true m held block p to exc = refl
  target false m held block p to exc = refl

  land : (m : Machine) (held : ℕ) (block : Statements) (p : Place) (how : Result)
      → landed (with_left l m) held block p how ≡ with_left l (landed m held block p how)
  land m held block p LeftTry = refl
  land m held block p (Target to exc) = target (nat_eq to (length m.handlers)) m held block p to exc
  land m held block p how = refl

  finish : (m : Machine) (k : ℕ) (last : Statements) (p : Place) (how : Result)
      → finished (with_left l m) k last p how ≡ with_left l (finished m k last p how)
  finish m k last p (End e) = refl
  finish m k last p x = refl

  resume : (m : Machine) (f : ContinuationFrame) (how : Result)
      → resumed (with_left l m) f how ≡ with_left l (resumed m f how)
  resume m (Operand f) how = value m (operand_plan f) how
  resume m (Assignment f) how = value m (assignment_plan f) how
  resume m (InStatement f) how = value m (in_statement_plan f) how
  resume m (Sequel f) how = normal m (sequel_plan f) how
  resume m (Body f) how = body m (body_plan f) how
  resume m (EndsCall n s part) how = call m n s part how
  resume m (Lands held block p) how = land m held block p how
  resume m (Finishes k last p) how = finish m k last p how

  give : (m : Machine) (how : Result) (fs : List ContinuationFrame)
      → given (with_left l m) how fs ≡ with_left l (given m how fs)
  give m how [] = refl
  give m how (f ∷ fs) = resume (record m { handlers = outside f m.handlers; stack = fs }) f how

  begin : (m : Machine) (task : Task) (p : Place)
      → begun (with_left l m) task p ≡ with_left l (begun m task p)
  begin m (tasks.Eval e) p = follows m _
  begin m (tasks.Locate at) p = refl
  begin m (tasks.Run s) p = follows m _
  begin m (tasks.ForIteration c next s) p = follows m _
  begin m (tasks.DoIteration s c) p = refl
  begin m (tasks.TryBody ss) p = refl
  begin m (tasks.Raise exc) p = refl
  begin m (tasks.AskVectored f place exc) p = unless (is_deep m.state 2) m _
  begin m (tasks.RunFilter k e h exc) p = unless (is_deep m.state 2) m _
  begin m (tasks.RunFinally k last flag) p = unless (is_deep m.state 2) m _
  begin m (tasks.Retry o a b) p = refl

  fetch : (m : Machine) (at : Lvalue) (a : ℕ) (p : Place)
      → fetched (with_left l m) at a p ≡ with_left l (fetched m at a p)
  fetch m (Local x) a p = refl
  fetch m y a p = refl

  puts : (m : Machine) (at : Lvalue) (a v : ℕ) (p : Place)
      → put (with_left l m) at a v p ≡ with_left l (put m at a v p)
  puts m (Local x) a v p = refl
  puts m y a v p = refl

  operate : (m : Machine) (o : Operation) (a b : ℕ) (p : Place) (x : performing.OperationResult)
      → operated (with_left l m) o a b p x ≡ with_left l (operated m o a b p x)
  operate m o a b p (performing.Gives v memory) = refl
  operate m o a b p (performing.Raises code access) = refl
  operate m o a b p (performing.Undefined a') = refl

  built : (m : Machine) (k : BuiltIn) (vs : List ℕ) (p : Place)
      → built_in (with_left l m) k vs p ≡ with_left l (built_in m k vs p)
  built m Put vs p = refl
  built m Protect vs p = refl
  built m RaiseException vs p = refl
  built m Walk vs p = refl
  built m (AddVectored f) vs p = refl
  built m (RemoveVectored f) vs p = refl

  -- ---- the data stack

  store : (m : Machine) (x : performing.OperationResult) (go : Machine → Machine)
      → ((m : Machine) → go (with_left l m) ≡ with_left l (go m))
      → stored (with_left l m) x go ≡ with_left l (stored m x go)
  store m (performing.Gives v memory) go h = h (at_state m (set_memory m.state memory))
  store m (performing.Raises code access) go h = refl
  store m (performing.Undefined a) go h = refl

  bring : (program : Program) (base : ℕ) (ps : List StackedParameter) (k : ℕ) (plan : Plan)
      (m : Machine)
      → brought program base ps k plan (with_left l m)
      ≡ with_left l (brought program base ps k plan m)
  bring program base [] k plan m = follows m plan
  bring program base (p ∷ ps) k plan m =
      store m (placing program base p.width p.offset k (local_of m.state k p.parameter) m.state)
      (brought program base ps k plan) (bring program base ps k plan)

  pub opens : (program : Program) (d : Option DataFrame) (k : ℕ) (plan : Plan) (m : Machine)
      → opened program d k plan (with_left l m) ≡ with_left l (opened program d k plan m)
  opens program None k plan m = follows m plan
  opens program (Some d) k plan m =
      bring program d.base d.parameters k plan (at_state m (allocate d.base d.size k m.state))

  put_on : (program : Program) (v : StackedVariable) (x : ℕ) (p : Place) (plan : Plan) (m : Machine)
      → put_stacked program v x p plan (with_left l m)
      ≡ with_left l (put_stacked program v x p plan m)
  put_on program v x p plan m =
      store m (placing program v.base v.width v.offset p.activation x m.state)
      (λ m. follow m plan) (λ m. follows m plan)

  pub clear_one : (program : Program) (v : StackedVariable) (n : ℕ) (p : Place) (m : Machine)
      → cleared_one program v n p (with_left l m) ≡ with_left l (cleared_one program v n p m)
  clear_one program v n p m =
      store m (clearing program v p.activation (suc n) m.state)
      (λ m. with_next m (frames.ClearElements v n p)) (λ m. refl)

  declare_stacked : (program : Program) (m : Machine) (v : StackedVariable) (n : Option ℕ)
      (e : Option Expression) (p : Place)
      → declared_stacked program (with_left l m) v n e p
      ≡ with_left l (declared_stacked program m v n e p)
  declare_stacked program m v (Some n) e p = refl
  declare_stacked program m v None e p = put_on program v 0 p _ m

  declare : (program : Program) (m : Machine) (v : Option StackedVariable) (x : ℕ)
      (e : Option Expression) (p : Place)
      → declared_at program (with_left l m) v x e p ≡ with_left l (declared_at program m v x e p)
  declare program m None x e p = follows (with_local m p x 0) _
  declare program m (Some v) x e p = declare_stacked program m v v.elements e p

  ask_vectored : (m : Machine) (f : Option ℕ) (place : ℕ) (exc : Exception) (p : Place)
      → asked_vectored (with_left l m) f place exc p ≡ with_left l (asked_vectored m f place exc p)
  ask_vectored m None place exc p = refl
  ask_vectored m (Some f) place exc p = refl

  ask_by : (m : Machine) (f : Filter) (h : Handler) (level : ℕ) (exc : Exception) (p : Place)
      → asked_by (with_left l m) f h level exc p ≡ with_left l (asked_by m f h level exc p)
  ask_by m Always h level exc p = refl
  ask_by m (Funclet k e) h level exc p = refl

  ask : (m : Machine) (o : Option Handler) (level : ℕ) (exc : Exception) (p : Place)
      → asked (with_left l m) o level exc p ≡ with_left l (asked m o level exc p)
  ask m None level exc p = refl
  ask m (Some h) level exc p = ask_by m h.filter h level exc p

  searches : (m : Machine) (level : ℕ) (exc : Exception) (p : Place)
      → searched (with_left l m) level exc p ≡ with_left l (searched m level exc p)
  searches m zero exc p = refl
  searches m (suc level) exc p = ask m (slice_get m.handlers level) level exc p

  -- what counts steps is left out
  abbrev pub IsAlike : Program → Machine → Next → Type 0
  IsAlike program m (Start task p) = Unit {0}
  IsAlike program m (frames.Call (frames.Defined f) vs p) = Unit {0}
  IsAlike program m (frames.ClearElements v n p) = Unit {0}
  IsAlike program m next = done program (with_left l m) next ≡ with_left l (done program m next)

  pub alike : (program : Program) (m : Machine) (next : Next) → IsAlike program m next
  alike program m (Over how) = refl
  alike program m (Give how) = give m how m.stack
  alike program m (Start task p) = tt
  alike program m (Begin task p) = begin m task p
  alike program m (frames.Evaluate n p) = follows m _
  alike program m (frames.Find at p) = follows m _
  alike program m (frames.Fetch at a p) = fetch m at a p
  alike program m (frames.Put at a v p) = puts m at a v p
  alike program m (frames.Operate o a b p) = operate m o a b p
      (performed (is_reserved program.globals) o a b m.state.memory)
  alike program m (frames.Pass callee vs es p) = follows m _
  alike program m (frames.Call (frames.Defined f) vs p) = tt
  alike program m (frames.Call (frames.BuiltInOf k) vs p) = built m k vs p
  alike program m (frames.Proceed ss p) = follows m _
  alike program m (frames.DeclareEach ds p) = follows m _
  alike program m (frames.DeclareName d p) = declare program m d.stacked d.local d.value p
  alike program m (frames.SetLocal x v p) = refl
  alike program m (frames.PutStacked v x p) = put_on program v x p ends m
  alike program m (frames.ClearElements v n p) = tt
  alike program m (frames.AskFrom place exc p) =
      ask_vectored m (slice_get m.state.vectored place) place exc p
  alike program m (frames.VectoredAnswer v place exc p) = follows (at_state m (let_go m.state)) _
  alike program m (frames.Search level exc p) = searches m level exc p
  alike program m y = refl
