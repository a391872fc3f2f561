-- The machine, and its step.
--
-- `Machine`, `step`: a state of the meaning, the handlers outermost first, the stack of frames, and
-- what is done next; a step does that, and leaves one such item again. A task's step is counted
-- where it begins.
use Rattle.std.specs.Prelude.{ℕ, zero, suc, ◌+◌, ◌-◌, ◌++◌, ◌^◌, Bool, true, false, not, nat_eq}
use Rattle.std.specs.Prelude.{nat_lt, List}
use Rattle.std.specs.Prelude.{[], ◌∷◌, length, reverse, take, replicate, get_or, slice_get, Option, Some}
use Rattle.std.specs.Prelude.{None, is_some}
use Rattle.seh_num.specs.declared.width.Width.TheVariants.{W32, W64}
use Rattle.seh_num.specs.declared.event.Event.TheVariants as events
use Rattle.seh_num.specs.Widths.{low, signed}
use Rattle.flat_memory.specs.Memory.{Memory, protected, rights_asked}
use Rattle.c_operations.specs.declared.built_in.BuiltIn.{BuiltIn}
use Rattle.c_operations.specs.declared.built_in.BuiltIn.TheVariants.{Put, Protect, RaiseException}
use Rattle.c_operations.specs.declared.built_in.BuiltIn.TheVariants.{Walk, AddVectored}
use Rattle.c_operations.specs.declared.built_in.BuiltIn.TheVariants.{RemoveVectored}
use Rattle.c_operations.specs.declared.operation.Operation.{Operation}
use Rattle.c_operations.specs.Performed as performing
use Rattle.c_operations.specs.Performed.{performed}
use Rattle.c_checked.specs.Expression.{Expression, Lvalue, Local, Global, Stacked, Indirection}
use Rattle.c_checked.specs.Expression.{Element}
use Rattle.c_checked.specs.Statement.{Filter, Always, Funclet, Statements, Declared}
use Rattle.c_checked.specs.Program.{Program, Function, DataFrame, weight, surplus}
use Rattle.c_checked.specs.declared.function.StackedParameter.{StackedParameter}
use Rattle.c_checked.specs.declared.statement.StackedVariable.{StackedVariable}
use Rattle.source_meaning.specs.declared.ended.Ended.TheVariants.{Unhandled, Undefined, Deep}
use Rattle.source_meaning.specs.Source.{is_reserved}
use Rattle.source_meaning.specs.State.{Exception, State, Result, Value, Normal, Returned, Broke, Continued}
use Rattle.source_meaning.specs.State.{LeftTry, Target, End, frame_of, local_of, set_local}
use Rattle.source_meaning.specs.State.{set_memory, set_vectored, emit, hold}
use Rattle.source_meaning.specs.State.{let_go, depth, with_activation, with_outermost, emit_all}
use Rattle.source_meaning.specs.State.{walk_events, hold_surplus, let_go_surplus, count_steps}
use Rattle.source_meaning.specs.Tasks as tasks
use Rattle.source_meaning.specs.Tasks.{Handler, DataPart, part_of, Task}
use Rattle.source_meaning.specs.DataStack.{placing, clearing, memory_above, allocate}
use Rattle.source_meaning.specs.DataStack.{reset_pointer, reset_pointer_if}
use Rattle.source_meaning.specs.Expressions.{of_test, no_exception, raised, stacked_address}
use Rattle.source_meaning.specs.Raises.{raise_event, handler_arguments}
use Rattle.vectored_list.specs.Lists.{is_listed, can_be_added, added, removed}
use Rattle.source_meaning.specs.declared.depth.TheConstants.{DEEPEST, TOO_DEEP}
use Rattle.source_machine.specs.Frames as frames
use Rattle.source_machine.specs.Frames.{Place, context_at, Callee, ForLoop, ContinuationFrame, Operand, Assignment}
use Rattle.source_machine.specs.Frames.{InStatement, Sequel, Body, EndsCall, Lands, Finishes, Next}
use Rattle.source_machine.specs.Frames.{Over, Give, Start, Begin, Plan, Then, Push}
use Rattle.source_machine.specs.Plans.{node_plan, expression_plan, find_plan, pass_plan}
use Rattle.source_machine.specs.Plans.{operand_plan, assignment_plan, load_plan, store_plan}
use Rattle.source_machine.specs.Plans.{ends, proceed_plan, declare_plan, evaluates, evaluated, for_body}
use Rattle.source_machine.specs.Plans.{statement_plan, in_statement_plan, vectored_plan}
use Rattle.source_machine.specs.Plans.{sequel_plan, body_plan}

-- a state with the handlers around the place where it continues, outermost first; what waits,
-- newest first; and what is done next
pub record Machine : Type 0 where
  pub state : State
  pub handlers : List Handler
  pub stack : List ContinuationFrame
  pub next : Next

abbrev pub with_next : Machine → Next → Machine
with_next m next = record m { next = next }

abbrev pub follow : Machine → Plan → Machine
follow m (Then next) = record m { next = next }
follow m (Push f next) = record m { stack = f ∷ m.stack; next = next }

abbrev pub at_state : Machine → State → Machine
at_state m st = record m { state = st }

-- the program's end, whatever waits
abbrev pub over : Machine → Result → Machine
over m how = record m { next = Over how }

abbrev pub unless_deep : Bool → Machine → Machine → Machine
unless_deep true m other = over m (End (Some (Deep TOO_DEEP)))
unless_deep false m other = other

-- the run is over where fewer steps are left than are counted at once
abbrev pub unless_few : Bool → Machine → Machine → Machine
unless_few true m other = over m (End None)
unless_few false m other = other

abbrev pub is_deep : State → ℕ → Bool
is_deep st n = nat_lt DEEPEST (depth st + n)

-- ---- tasks

abbrev pub started : Machine → Task → Place → ℕ → Machine
started m task p zero = over m (End None)
started m task p (suc n) =
    record m { state = record m.state { steps_left = n }; next = Begin task p }

abbrev pub begun : Machine → Task → Place → Machine
begun m (tasks.Eval e) p = follow m (expression_plan e p)
begun m (tasks.Locate l) p = with_next m (frames.Find l p)
begun m (tasks.Run s) p = follow m (statement_plan s p)
begun m (tasks.ForIteration c next s) p =
    let k : ForLoop = record { condition = c; next = next; body = s }
    in follow m (evaluated (frames.TestsFor k p) c p (for_body k p))
begun m (tasks.DoIteration s c) p =
    follow m (Push (Body (frames.EndsDoBody s c p)) (Start (tasks.Run s) p))
begun m (tasks.TryBody ss) p = with_next m (frames.Proceed ss p)
begun m (tasks.Raise exc) p =
    record m {
      state = emit (raise_event exc) m.state;
      next = frames.AskFrom 0 exc p;
    }
begun m (tasks.AskVectored f place exc) p =
    unless_deep (is_deep m.state 2) m
    (follow (at_state m (hold m.state))
    (Push (InStatement (frames.EndsVectored place exc p))
    (frames.Call (frames.Defined f) (handler_arguments exc) p)))
begun m (tasks.RunFilter k e h exc) p =
    unless_deep (is_deep m.state 2) m
    (follow (at_state m (emit (events.Filter k) (hold m.state)))
    (Push (InStatement frames.EndsFilter)
    (evaluates e (record {
      activation = h.activation;
      data_part = None;
      exception = exc;
      abnormal = h.abnormal;
    }))))
begun m (tasks.RunFinally k last flag) p =
    unless_deep (is_deep m.state 2) m
    (follow (at_state m (emit (events.Finally k flag)
    (hold (reset_pointer_if flag p.data_part p.activation m.state))))
    (Push (Sequel frames.EndsFinally) (frames.Proceed last (record p { abnormal = flag }))))
begun m (tasks.Retry o a b) p = with_next m (frames.Operate o a b p)

-- ---- places and operations

abbrev pub fetched : Machine → Lvalue → ℕ → Place → Machine
fetched m (Local x) a p = with_next m (Give (Value (local_of m.state p.activation x)))
fetched m (Global access _) a p = follow m (load_plan access a p)
fetched m (Stacked access _ _) a p = follow m (load_plan access a p)
fetched m (Indirection access _) a p = follow m (load_plan access a p)
fetched m (Element access _ _) a p = follow m (load_plan access a p)

abbrev pub with_local : Machine → Place → ℕ → ℕ → Machine
with_local m p x v = at_state m (set_local m.state p.activation x v)

abbrev pub put : Machine → Lvalue → ℕ → ℕ → Place → Machine
put m (Local x) a v p = with_next (with_local m p x v) (Give (Value v))
put m (Global access _) a v p = follow m (store_plan access a v p)
put m (Stacked access _ _) a v p = follow m (store_plan access a v p)
put m (Indirection access _) a v p = follow m (store_plan access a v p)
put m (Element access _ _) a v p = follow m (store_plan access a v p)

abbrev pub operated : Machine → Operation → ℕ → ℕ → Place → performing.OperationResult → Machine
operated m o a b p (performing.Gives v memory) =
    with_next (at_state m (set_memory m.state memory)) (Give (Value v))
operated m o a b p (performing.Raises code access) =
    follow m (Push (Sequel (frames.Retries o a b p))
    (Start (tasks.Raise (record { code = code.0; flag = false; access = access })) p))
operated m o a b p (performing.Undefined a') = over m (End (Some (Undefined a')))

-- ---- the data stack

-- an operation of the data stack, which raises nothing, and then the rest
abbrev pub stored : Machine → performing.OperationResult → (Machine → Machine) → Machine
stored m (performing.Gives v memory) go = go (at_state m (set_memory m.state memory))
stored m (performing.Raises code access) go = over m (End None)
stored m (performing.Undefined a) go = over m (End (Some (Undefined a)))

-- the parameters whose address is taken are brought to where they stand
abbrev pub brought : Program → (base : ℕ) → List StackedParameter → (activation : ℕ) → Plan
    → Machine → Machine
brought program base [] k plan m = follow m plan
brought program base (p ∷ ps) k plan m =
    stored m
    (placing program base p.width p.offset k (local_of m.state k p.parameter) m.state)
    (brought program base ps k plan)

abbrev pub opened : Program → Option DataFrame → (activation : ℕ) → Plan → Machine → Machine
opened program None k plan m = follow m plan
opened program (Some d) k plan m =
    brought program d.base d.parameters k plan (at_state m (allocate d.base d.size k m.state))

-- a variable takes a number
abbrev pub put_stacked : Program → StackedVariable → ℕ → Place → Plan → Machine → Machine
put_stacked program v x p plan m =
    stored m (placing program v.base v.width v.offset p.activation x m.state)
    (λ m. follow m plan)

-- an element becomes 0, with so many before it
abbrev pub cleared_one : Program → StackedVariable → ℕ → Place → Machine → Machine
cleared_one program v n p m =
    stored m (clearing program v p.activation (suc n) m.state)
    (λ m. with_next m (frames.ClearElements v n p))

abbrev pub cleared : Program → StackedVariable → ℕ → Place → Machine → Machine
cleared program v zero p m = follow m ends
cleared program v (suc n) p m =
    unless_few (nat_lt m.state.steps_left 1) m
    (cleared_one program v n p (at_state m (count_steps 1 m.state)))

-- ---- calls

abbrev pub entered : Program → Machine → ℕ → Option Function → List ℕ → Machine
entered program m number None vs = with_next m (Give (Value 0))
entered program m number (Some f) vs =
    let n = length m.state.frames in
    unless_deep (is_deep m.state (weight f)) m
    (unless_few (nat_lt m.state.steps_left (surplus f)) m
    (opened program f.data_frame n (Push (EndsCall n (surplus f) (part_of f.data_frame))
    (frames.Proceed f.body (record {
      activation = n;
      data_part = part_of f.data_frame;
      exception = no_exception;
      abnormal = false;
    })))
    (at_state m (with_activation number (vs ++ replicate (length f.locals) 0)
    (hold_surplus (surplus f) (count_steps (surplus f) m.state))))))

abbrev pub built_in : Machine → BuiltIn → List ℕ → Place → Machine
built_in m Put vs p =
    with_next (at_state m (emit (events.Put (signed W64 (get_or vs 0 0))) m.state)) (Give (Value 0))
built_in m Protect vs p =
    let a = get_or vs 0 0 in
    let mode = signed W32 (get_or vs 1 0) in
    with_next (at_state m (set_memory m.state (protected m.state.memory a mode)))
    (Give (Value (of_test (is_some (rights_asked a mode)))))
built_in m RaiseException vs p =
    follow m (Push (Sequel frames.GivesZero)
    (Start (tasks.Raise (raised (get_or vs 0 0) (get_or vs 1 0))) p))
built_in m (AddVectored f) vs p =
    with_next
    (at_state m (set_vectored m.state
    (added (not (nat_eq (low W32 (get_or vs 0 0)) 0)) f m.state.vectored)))
    (Give (Value (of_test (can_be_added f m.state.vectored))))
built_in m (RemoveVectored f) vs p =
    with_next (at_state m (set_vectored m.state (removed f m.state.vectored)))
    (Give (Value (of_test (is_listed f m.state.vectored))))
built_in m Walk vs p =
    with_next (at_state m (emit_all (walk_events (reverse m.state.functions)) m.state))
    (Give (Value 0))

abbrev pub called : Program → Machine → Callee → List ℕ → Place → Machine
called program m (frames.Defined f) vs p = entered program m f (slice_get program.functions f) vs
called program m (frames.BuiltInOf k) vs p = built_in m k vs p

-- ---- statements

-- a variable on the data stack is 0 first, and an array has no initialiser
abbrev pub declared_stacked : Program → Machine → StackedVariable → Option ℕ → Option Expression
    → Place → Machine
declared_stacked program m v (Some n) value p = with_next m (frames.ClearElements v n p)
declared_stacked program m v None value p =
    put_stacked program v 0 p (evaluated (frames.InitialisesStacked v p) value p ends) m

-- a declared name is 0 first, in its own initialiser too
abbrev pub declared_at : Program → Machine → Option StackedVariable → (local : ℕ)
    → Option Expression → Place → Machine
declared_at program m None x value p =
    follow (with_local m p x 0)
    (evaluated (frames.Initialises x p) value p (Then (frames.SetLocal x 0 p)))
declared_at program m (Some v) x value p = declared_stacked program m v v.elements value p

abbrev pub declared : Program → Machine → Declared → Place → Machine
declared program m d p = declared_at program m d.stacked d.local d.value p

abbrev pub handler_at : Filter → Place → Handler
handler_at filter p = record { filter = filter; activation = p.activation; abnormal = p.abnormal }

abbrev pub guarded : Machine → Statements → Filter → Statements → Place → Machine
guarded m body filter block p = record m {
  handlers = m.handlers ++ handler_at filter p ∷ [];
  stack = Lands m.state.held block p ∷ m.stack;
  next = Start (tasks.TryBody body) p;
}

-- ---- raises

abbrev pub unhandled : Machine → Exception → Machine
unhandled m exc = over m (End (Some (Unhandled (record { 0 = exc.code }))))

-- a vectored handler, or where there is none at the place the handlers
abbrev pub asked_vectored : Machine → Option ℕ → (place : ℕ) → Exception → Place → Machine
asked_vectored m None place exc p = with_next m (frames.Search (length m.handlers) exc p)
asked_vectored m (Some f) place exc p = with_next m (Start (tasks.AskVectored f place exc) p)

abbrev pub asked_by : Machine → Filter → Handler → ℕ → Exception → Place → Machine
asked_by m Always h level exc p = with_next m (Give (Target level exc))
asked_by m (Funclet k e) h level exc p =
    follow m (Push (InStatement (frames.IsAnswered level exc p))
    (Start (tasks.RunFilter k e h exc) p))

abbrev pub asked : Machine → Option Handler → ℕ → Exception → Place → Machine
asked m None level exc p = unhandled m exc
asked m (Some h) level exc p = asked_by m h.filter h level exc p

abbrev pub searched : Machine → ℕ → Exception → Place → Machine
searched m zero exc p = unhandled m exc
searched m (suc level) exc p = asked m (slice_get m.handlers level) level exc p

-- ---- results

abbrev pub target_landed : Machine → Bool → ℕ → Statements → Place → ℕ → Exception → Machine
target_landed m true held block p to exc =
    with_next (at_state m (reset_pointer p.data_part p.activation
    (emit (events.Except (record { 0 = exc.code })) (record m.state { held = held }))))
    (frames.Proceed block (record p { exception = exc }))
target_landed m false held block p to exc = with_next m (Give (Target to exc))

abbrev pub landed : Machine → ℕ → Statements → Place → Result → Machine
landed m held block p LeftTry = with_next m (Give Normal)
landed m held block p (Target to exc) =
    target_landed m (nat_eq to (length m.handlers)) held block p to exc
landed m held block p how = with_next m (Give how)

abbrev pub finished : Machine → ℕ → Statements → Place → Result → Machine
finished m k last p (End e) = with_next m (Give (End e))
finished m k last p Normal = with_next m (Start (tasks.RunFinally k last false) p)
finished m k last p LeftTry = with_next m (Start (tasks.RunFinally k last false) p)
finished m k last p how =
    follow m (Push (Sequel (frames.GivesResult how)) (Start (tasks.RunFinally k last true) p))

abbrev pub with_activations : Machine → ℕ → ℕ → Machine
with_activations m n s = at_state m (with_outermost n (let_go_surplus s m.state))

-- an activation that a target leaves counts in the depth, with its surplus, until that lands
abbrev pub left_by_target : Machine → ℕ → Machine
left_by_target m n =
    at_state m (with_outermost n (record m.state { held = m.state.held + 1 }))

-- a return gives back what the activation has of the data stack
abbrev pub memory_closed : Option DataPart → (locals : List ℕ) → Memory → Memory
memory_closed None locals memory = memory
memory_closed (Some part) locals memory = memory_above part.base 0 locals memory

abbrev pub closed : Option DataPart → (activation : ℕ) → Machine → Machine
closed part k m =
    at_state m (set_memory m.state (memory_closed part (frame_of m.state k) m.state.memory))

abbrev pub left_call : Machine → ℕ → ℕ → Option DataPart → Result → Machine
left_call m n s part (End e) = with_next m (Give (End e))
left_call m n s part Normal =
    with_next (with_activations (closed part n m) n s) (Give (Value 0))
left_call m n s part (Returned v) =
    with_next (with_activations (closed part n m) n s) (Give (Value v))
left_call m n s part (Target to exc) = with_next (left_by_target m n) (Give (Target to exc))
left_call m n s part how = with_next (with_activations m n s) (Give how)

abbrev pub after_value : Machine → (ℕ → Plan) → Result → Machine
after_value m plan (Value v) = follow m (plan v)
after_value m plan how = with_next m (Give how)

abbrev pub after_normal : Machine → Plan → Result → Machine
after_normal m plan Normal = follow m plan
after_normal m plan how = with_next m (Give how)

abbrev pub after_body : Machine → Plan → Result → Machine
after_body m plan Normal = follow m plan
after_body m plan Continued = follow m plan
after_body m plan Broke = with_next m (Give Normal)
after_body m plan how = with_next m (Give how)

abbrev pub resumed : Machine → ContinuationFrame → Result → Machine
resumed m (Operand f) how = after_value m (operand_plan f) how
resumed m (Assignment f) how = after_value m (assignment_plan f) how
resumed m (InStatement f) how = after_value m (in_statement_plan f) how
resumed m (Sequel f) how = after_normal m (sequel_plan f) how
resumed m (Body f) how = after_body m (body_plan f) how
resumed m (EndsCall n s part) how = left_call m n s part how
resumed m (Lands held block p) how = landed m held block p how
resumed m (Finishes k last p) how = finished m k last p how

-- the handlers outside a frame
abbrev pub without_last : List Handler → List Handler
without_last hs = take (length hs - 1) hs

abbrev pub outside : ContinuationFrame → List Handler → List Handler
outside (Lands held block p) hs = without_last hs
outside f hs = hs

abbrev pub given : Machine → Result → List ContinuationFrame → Machine
given m how [] = over (record m { stack = [] }) how
given m how (f ∷ fs) = resumed (record m { handlers = outside f m.handlers; stack = fs }) f how

-- ---- a step

abbrev pub done : Program → Machine → Next → Machine
done program m (Over how) = with_next m (Over how)
done program m (Give how) = given m how m.stack
done program m (Start task p) = started m task p m.state.steps_left
done program m (Begin task p) = begun m task p
done program m (frames.Evaluate n p) = follow m (node_plan n p)
done program m (frames.Find l p) = follow m (find_plan l p)
done program m (frames.FindStacked base offset p) =
    with_next m (Give (Value (stacked_address base offset (context_at m.handlers p) m.state)))
done program m (frames.Fetch l a p) = fetched m l a p
done program m (frames.Put l a v p) = put m l a v p
done program m (frames.Operate o a b p) =
    operated m o a b p (performed (is_reserved program.globals) o a b m.state.memory)
done program m (frames.Pass callee vs es p) = follow m (pass_plan callee vs es p)
done program m (frames.Call callee vs p) = called program m callee vs p
done program m (frames.Proceed ss p) = follow m (proceed_plan ss p)
done program m (frames.DeclareEach ds p) = follow m (declare_plan ds p)
done program m (frames.DeclareName d p) = declared program m d p
done program m (frames.SetLocal x v p) = with_next (with_local m p x v) (Give Normal)
done program m (frames.PutStacked v x p) = put_stacked program v x p ends m
done program m (frames.ClearElements v n p) = cleared program v n p m
done program m (frames.Guard body filter block p) = guarded m body filter block p
done program m (frames.Answer v) =
    with_next (at_state m (emit (events.Answer (signed W32 v)) (let_go m.state))) (Give (Value v))
done program m frames.LetGo = with_next (at_state m (let_go m.state)) (Give Normal)
done program m (frames.AskFrom place exc p) =
    asked_vectored m (slice_get m.state.vectored place) place exc p
done program m (frames.VectoredAnswer v place exc p) =
    follow (at_state m (let_go m.state))
    (vectored_plan (nat_lt (low W32 v) (2 ^ 31)) exc.flag place exc p)
done program m (frames.Search level exc p) = searched m level exc p

abbrev pub step : Program → Machine → Machine
step program m = done program m m.next
