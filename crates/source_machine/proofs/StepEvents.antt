-- Each step shows more or the same.
use Rattle.std.proofs.Common.{ℕ, zero, suc, List, [], ◌∷◌, ◌++◌, length, refl, Option, Some, None}
use Rattle.std.specs.Prelude.{Bool, true, false, nat_eq, nat_lt, slice_get}
use Rattle.seh_num.specs.declared.event.Event.{Event}
use Rattle.source_machine.specs.Words.{Memory, DataFrame, DataPart, StackedParameter, StackedVariable, Expression, ends, at_state, set_memory, let_go, allocate, local_of, placing, clearing, with_next, count_steps, stored, brought, opened, put_stacked, cleared_one, cleared, declared_stacked, declared_at, BuiltIn, Put, Protect, RaiseException, Walk, AddVectored, RemoveVectored, Operation, performed, Program, Function, weight, surplus, Lvalue, Local, Filter, Always, Funclet, Statements, is_reserved, Exception, Result, Value, Normal, Continued, LeftTry, Target, End, Handler, Task, IsPrefixOf, Place, Callee, ContinuationFrame, Operand, Assignment, InStatement, Sequel, Body, EndsCall, Lands, Finishes, Next, Over, Give, Start, Begin, Plan, Then, Push, operand_plan, assignment_plan, in_statement_plan, sequel_plan, body_plan, Machine, follow, unless_deep, unless_few, started, begun, fetched, put, operated, entered, built_in, called, asked_vectored, asked_by, asked, searched, target_landed, landed, finished, left_call, after_value, after_normal, after_body, resumed, given, outside, done, is_deep, with_local, Extends}
use Rattle.c_operations.specs.Performed as performing
use Rattle.source_meaning.specs.Tasks as tasks
use Rattle.source_machine.specs.Frames as frames
use Rattle.source_machine.proofs.Lemmas.{prefix_self}

one : (es : List Event) (e : Event) → IsPrefixOf es (es ++ e ∷ [])
one es e = (e ∷ [], refl)

-- a machine has shown these events, or more
abbrev Shows : List Event → Machine → Type 0
Shows es m = IsPrefixOf es m.state.events

follows : (es : List Event) (m : Machine) (plan : Plan) → Shows es m → Shows es (follow m plan)
follows es m (Then next) h = h
follows es m (Push f next) h = h

unless_shows : (b : Bool) (m other : Machine) → Shows m.state.events other
    → Shows m.state.events (unless_deep b m other)
unless_shows true m other h = prefix_self m.state.events
unless_shows false m other h = h

few_shows : (b : Bool) (m other : Machine) → Shows m.state.events other
    → Shows m.state.events (unless_few b m other)
few_shows true m other h = prefix_self m.state.events
few_shows false m other h = h

value_shows : (m : Machine) (plan : ℕ → Plan) (how : Result)
    → Shows m.state.events (after_value m plan how)
value_shows m plan (Value v) = follows m.state.events m (plan v) (prefix_self m.state.events)
value_shows m plan how = prefix_self m.state.events

normal_shows : (m : Machine) (plan : Plan) (how : Result)
    → Shows m.state.events (after_normal m plan how)
normal_shows m plan Normal = follows m.state.events m plan (prefix_self m.state.events)
normal_shows m plan how = prefix_self m.state.events

body_shows : (m : Machine) (plan : Plan) (how : Result)
    → Shows m.state.events (after_body m plan how)
body_shows m plan Normal = follows m.state.events m plan (prefix_self m.state.events)
body_shows m plan Continued = follows m.state.events m plan (prefix_self m.state.events)
body_shows m plan how = prefix_self m.state.events

call_shows : (m : Machine) (n s : ℕ) (part : Option DataPart) (how : Result)
    → Shows m.state.events (left_call m n s part how)
call_shows m n s part (End e) = prefix_self m.state.events
call_shows m n s part x = prefix_self m.state.events

target_shows : (b : Bool) (m : Machine) (held : ℕ) (block : Statements) (p : Place) (to : ℕ)
    (exc : Exception) → Shows m.state.events (target_landed m b held block p to exc)
target_shows true m held block p to exc = one m.state.events _
target_shows false m held block p to exc = prefix_self m.state.events

land_shows : (m : Machine) (held : ℕ) (block : Statements) (p : Place) (how : Result)
    → Shows m.state.events (landed m held block p how)
land_shows m held block p LeftTry = prefix_self m.state.events
land_shows m held block p (Target to exc) =
    target_shows (nat_eq to (length m.handlers)) m held block p to exc
land_shows m held block p how = prefix_self m.state.events

finish_shows : (m : Machine) (k : ℕ) (last : Statements) (p : Place) (how : Result)
    → Shows m.state.events (finished m k last p how)
finish_shows m k last p (End e) = prefix_self m.state.events
finish_shows m k last p x = prefix_self m.state.events

resumed_shows : (m : Machine) (f : ContinuationFrame) (how : Result)
    → Shows m.state.events (resumed m f how)
resumed_shows m (Operand f) how = value_shows m (operand_plan f) how
resumed_shows m (Assignment f) how = value_shows m (assignment_plan f) how
resumed_shows m (InStatement f) how = value_shows m (in_statement_plan f) how
resumed_shows m (Sequel f) how = normal_shows m (sequel_plan f) how
resumed_shows m (Body f) how = body_shows m (body_plan f) how
resumed_shows m (EndsCall n s part) how = call_shows m n s part how
resumed_shows m (Lands held block p) how = land_shows m held block p how
resumed_shows m (Finishes k last p) how = finish_shows m k last p how

given_shows : (m : Machine) (how : Result) (fs : List ContinuationFrame)
    → Shows m.state.events (given m how fs)
given_shows m how [] = prefix_self m.state.events
given_shows m how (f ∷ fs) =
    resumed_shows (record m { handlers = outside f m.handlers; stack = fs }) f how

started_shows : (m : Machine) (task : Task) (p : Place) (n : ℕ)
    → Shows m.state.events (started m task p n)
started_shows m task p zero = prefix_self m.state.events
started_shows m task p (suc n) = prefix_self m.state.events

begun_shows : (m : Machine) (task : Task) (p : Place) → Shows m.state.events (begun m task p)
begun_shows m (tasks.Eval e) p = follows m.state.events m _ (prefix_self m.state.events)
begun_shows m (tasks.Locate l) p = prefix_self m.state.events
begun_shows m (tasks.Run s) p = follows m.state.events m _ (prefix_self m.state.events)
begun_shows m (tasks.ForIteration c next s) p = follows m.state.events m _
    (prefix_self m.state.events)
begun_shows m (tasks.DoIteration s c) p = prefix_self m.state.events
begun_shows m (tasks.TryBody ss) p = prefix_self m.state.events
begun_shows m (tasks.Raise exc) p = one m.state.events _
begun_shows m (tasks.AskVectored f place exc) p =
    unless_shows (is_deep m.state 2) m _ (prefix_self m.state.events)
begun_shows m (tasks.RunFilter k e h exc) p =
    unless_shows (is_deep m.state 2) m _ (one m.state.events _)
begun_shows m (tasks.RunFinally k last flag) p =
    unless_shows (is_deep m.state 2) m _ (one m.state.events _)
begun_shows m (tasks.Retry o a b) p = prefix_self m.state.events

fetched_shows : (m : Machine) (l : Lvalue) (a : ℕ) (p : Place)
    → Shows m.state.events (fetched m l a p)
fetched_shows m (Local x) a p = prefix_self m.state.events
fetched_shows m y a p = prefix_self m.state.events

put_shows : (m : Machine) (l : Lvalue) (a v : ℕ) (p : Place) → Shows m.state.events (put m l a v p)
put_shows m (Local x) a v p = prefix_self m.state.events
put_shows m y a v p = prefix_self m.state.events

operated_shows : (m : Machine) (o : Operation) (a b : ℕ) (p : Place)
    (x : performing.OperationResult)
    → Shows m.state.events (operated m o a b p x)
operated_shows m o a b p (performing.Gives v memory) = prefix_self m.state.events
operated_shows m o a b p (performing.Raises code access) = prefix_self m.state.events
operated_shows m o a b p (performing.Undefined a') = prefix_self m.state.events

-- ---- the data stack

stored_shows : (m : Machine) (x : performing.OperationResult) (go : Machine → Machine)
    → ((memory : Memory) → Shows m.state.events (go (at_state m (set_memory m.state memory))))
    → Shows m.state.events (stored m x go)
stored_shows m (performing.Gives v memory) go h = h memory
stored_shows m (performing.Raises code access) go h = prefix_self m.state.events
stored_shows m (performing.Undefined a) go h = prefix_self m.state.events

brought_shows : (program : Program) (base : ℕ) (ps : List StackedParameter) (k : ℕ) (plan : Plan)
    (m : Machine) → Shows m.state.events (brought program base ps k plan m)
brought_shows program base [] k plan m =
    follows m.state.events m plan (prefix_self m.state.events)
brought_shows program base (p ∷ ps) k plan m =
    stored_shows m
    (placing program base p.width p.offset k (local_of m.state k p.parameter) m.state)
    (brought program base ps k plan)
    (λ memory. brought_shows program base ps k plan (at_state m (set_memory m.state memory)))

opened_shows : (program : Program) (d : Option DataFrame) (k : ℕ) (plan : Plan) (m : Machine)
    → Shows m.state.events (opened program d k plan m)
opened_shows program None k plan m = follows m.state.events m plan (prefix_self m.state.events)
opened_shows program (Some d) k plan m =
    brought_shows program d.base d.parameters k plan
    (at_state m (allocate d.base d.size k m.state))

put_stacked_shows : (program : Program) (v : StackedVariable) (x : ℕ) (p : Place) (plan : Plan)
    (m : Machine) → Shows m.state.events (put_stacked program v x p plan m)
put_stacked_shows program v x p plan m =
    stored_shows m (placing program v.base v.width v.offset p.activation x m.state)
    (λ m. follow m plan)
    (λ memory. follows m.state.events (at_state m (set_memory m.state memory)) plan
    (prefix_self m.state.events))

cleared_shows : (program : Program) (v : StackedVariable) (n : ℕ) (p : Place) (m : Machine)
    → Shows m.state.events (cleared program v n p m)
cleared_shows program v zero p m = prefix_self m.state.events
cleared_shows program v (suc n) p m =
    few_shows (nat_lt m.state.steps_left 1) m
    (cleared_one program v n p (at_state m (count_steps 1 m.state)))
    (stored_shows (at_state m (count_steps 1 m.state))
    (clearing program v p.activation (suc n) (count_steps 1 m.state))
    (λ m. with_next m (frames.ClearElements v n p)) (λ memory. prefix_self m.state.events))

declared_stacked_shows : (program : Program) (m : Machine) (v : StackedVariable) (n : Option ℕ)
    (e : Option Expression) (p : Place)
    → Shows m.state.events (declared_stacked program m v n e p)
declared_stacked_shows program m v (Some n) e p = prefix_self m.state.events
declared_stacked_shows program m v None e p = put_stacked_shows program v 0 p _ m

declared_shows : (program : Program) (m : Machine) (v : Option StackedVariable) (x : ℕ)
    (e : Option Expression) (p : Place)
    → Shows m.state.events (declared_at program m v x e p)
declared_shows program m None x e p =
    follows m.state.events (with_local m p x 0) _ (prefix_self m.state.events)
declared_shows program m (Some v) x e p = declared_stacked_shows program m v v.elements e p

-- ---- calls

entered_shows : (program : Program) (m : Machine) (number : ℕ) (f : Option Function) (vs : List ℕ)
    → Shows m.state.events (entered program m number f vs)
entered_shows program m number None vs = prefix_self m.state.events
entered_shows program m number (Some f) vs =
    unless_shows (is_deep m.state (weight f)) m _
    (few_shows (nat_lt m.state.steps_left (surplus f)) m _
    (opened_shows program f.data_frame (length m.state.frames) _ _))

built_in_shows : (m : Machine) (k : BuiltIn) (vs : List ℕ) (p : Place)
    → Shows m.state.events (built_in m k vs p)
built_in_shows m Put vs p = one m.state.events _
built_in_shows m Protect vs p = prefix_self m.state.events
built_in_shows m RaiseException vs p = prefix_self m.state.events
built_in_shows m Walk vs p = (_, refl)
built_in_shows m (AddVectored f) vs p = prefix_self m.state.events
built_in_shows m (RemoveVectored f) vs p = prefix_self m.state.events

called_shows : (program : Program) (m : Machine) (callee : Callee) (vs : List ℕ) (p : Place)
    → Shows m.state.events (called program m callee vs p)
called_shows program m (frames.Defined f) vs p =
    entered_shows program m f (slice_get program.functions f) vs
called_shows program m (frames.BuiltInOf k) vs p = built_in_shows m k vs p

asked_vectored_shows : (m : Machine) (f : Option ℕ) (place : ℕ) (exc : Exception) (p : Place)
    → Shows m.state.events (asked_vectored m f place exc p)
asked_vectored_shows m None place exc p = prefix_self m.state.events
asked_vectored_shows m (Some f) place exc p = prefix_self m.state.events

asked_by_shows : (m : Machine) (f : Filter) (h : Handler) (level : ℕ) (exc : Exception) (p : Place)
    → Shows m.state.events (asked_by m f h level exc p)
asked_by_shows m Always h level exc p = prefix_self m.state.events
asked_by_shows m (Funclet k e) h level exc p = prefix_self m.state.events

asked_shows : (m : Machine) (o : Option Handler) (level : ℕ) (exc : Exception) (p : Place)
    → Shows m.state.events (asked m o level exc p)
asked_shows m None level exc p = prefix_self m.state.events
asked_shows m (Some h) level exc p = asked_by_shows m h.filter h level exc p

searched_shows : (m : Machine) (level : ℕ) (exc : Exception) (p : Place)
    → Shows m.state.events (searched m level exc p)
searched_shows m zero exc p = prefix_self m.state.events
searched_shows m (suc level) exc p = asked_shows m (slice_get m.handlers level) level exc p

done_shows : (program : Program) (m : Machine) (next : Next)
    → Shows m.state.events (done program m next)
done_shows program m (Over how) = prefix_self m.state.events
done_shows program m (Give how) = given_shows m how m.stack
done_shows program m (Start task p) = started_shows m task p m.state.steps_left
done_shows program m (Begin task p) = begun_shows m task p
done_shows program m (frames.Evaluate n p) = follows m.state.events m _ (prefix_self m.state.events)
done_shows program m (frames.Find l p) = follows m.state.events m _ (prefix_self m.state.events)
done_shows program m (frames.FindStacked base offset p) = prefix_self m.state.events
done_shows program m (frames.Fetch l a p) = fetched_shows m l a p
done_shows program m (frames.Put l a v p) = put_shows m l a v p
done_shows program m (frames.Operate o a b p) =
    operated_shows m o a b p (performed (is_reserved program.globals) o a b m.state.memory)
done_shows program m (frames.Pass callee vs es p) =
    follows m.state.events m _ (prefix_self m.state.events)
done_shows program m (frames.Call callee vs p) = called_shows program m callee vs p
done_shows program m (frames.Proceed ss p) = follows m.state.events m _ (prefix_self m.state.events)
done_shows program m (frames.DeclareEach ds p) = follows m.state.events m _
    (prefix_self m.state.events)
done_shows program m (frames.DeclareName d p) =
    declared_shows program m d.stacked d.local d.value p
done_shows program m (frames.SetLocal x v p) = prefix_self m.state.events
done_shows program m (frames.PutStacked v x p) = put_stacked_shows program v x p ends m
done_shows program m (frames.ClearElements v n p) = cleared_shows program v n p m
done_shows program m (frames.Guard body filter block p) = prefix_self m.state.events
done_shows program m (frames.Answer v) = one m.state.events _
done_shows program m frames.LetGo = prefix_self m.state.events
done_shows program m (frames.AskFrom place exc p) =
    asked_vectored_shows m (slice_get m.state.vectored place) place exc p
done_shows program m (frames.VectoredAnswer v place exc p) =
    follows m.state.events (at_state m (let_go m.state)) _ (prefix_self m.state.events)
done_shows program m (frames.Search level exc p) = searched_shows m level exc p

pub extends : Extends
extends program m = done_shows program m m.next
