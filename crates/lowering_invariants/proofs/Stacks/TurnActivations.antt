-- Each turn keeps the activations those of the functions that run or wait.
use Rattle.std.proofs.Common.{◌≡◌, ℕ, zero, suc, ◌+◌, ◌-◌, ◌^◌, ◌≤◌, List, [], ◌∷◌, ◌++◌, length, refl, sym, ap, subst, ◌∙◌, arith, length-append}
use Rattle.std.proofs.lemmas.List.{length-replicate}
use Rattle.std.specs.Prelude.{Bool, true, false, nat_eq, nat_lt, slice_get, take, replicate, get_or, ℤ, Option, Some, None}
use Rattle.lowering_invariants.specs.Words.{Event, W32, low, signed, BuiltIn, Put, Protect, RaiseException, Walk, AddVectored, RemoveVectored, OperationResult, Gives, Raises, Undefined, performed, Exception, is_reserved, of_test, field_of, raised, noncontinuable, raise_event, handler_arguments, Slot, Local, Temporary, Instruction, Region, RegionKind, FuncletKind, LinearProgram, LinearFunction, BodyName, FunctionBody, FuncletBody, Handler, Target, Resumption, AfterCall, SameOperation, FilterOf, VectoredAt, Item, Waits, Searches, Unwinds, Store, Configuration, Seen, Finished, Stuck, Next, pick, read, write, with_temporary, with_temporaries, last_temporaries, set_local, at_label, forth, with_last, regions_at, regions_left, handlers, stops, flag_of, run_finally, arrive, target_past, left_store, leave_region, unwind_body, unwind, target_of, accept, consult, search, ask_at, ask_from, raise, resumed, continued, answer, is_constant, operand, written, computed, tested, waiting, count_of, built_in, return, end_finally, end_funclet, end_body, not_landed, act, begin_function, instruction_at, start, main_arguments, IsTurn, IsReached, IsFinallyKind, IsFuncletOf, IsKindOf, IsCallee, IsAskable, IsWhole, MayWait, IsHandler, AreHandlers, CanBeAsked, IsStacked, owners_of, AreWorking, IsActivationOf, AreActivations, HasActivations}
use Rattle.seh_num.specs.declared.event.Event.TheVariants as events
use Rattle.source_meaning.specs.declared.ended.Ended.TheVariants as ends
use Rattle.linear_code.specs.Program.{depth_weight}
use Rattle.linear_code.specs.declared.instruction.Instruction.TheVariants as instructions
use Rattle.linear_code.specs.declared.program.RegionKind.TheVariants as kinds
use Rattle.linear_code.specs.declared.program.FuncletKind.TheVariants as funclets
use Rattle.lowering_invariants.proofs.Moves.{Turn, Halts, Moves, pick_turn, some_turn, deeper_turn, kept, kept_by_all}
use Rattle.lowering_invariants.proofs.Stacks.StackTargets.{same_it, Left, Regions, left_are, handlers_are, taken, all_at}
use Rattle.lowering_invariants.proofs.Stacks.StackTurns.{left_askable}
use Rattle.lowering_invariants.proofs.Stacks.TurnStack.{instruction_fits, is_landing, waits, stays_stacked, starts_stacked}
use Rattle.lowering_invariants.proofs.Stacks.ActivationOwners.{last_count, as_many, one_more, set_kept, Over, Ok, Items, left_over, owned, filter_owned}

module _ (program : LinearProgram) (whole : IsWhole program) where
  abbrev at_rest : Configuration → Type 0
  at_rest c = Over program (Waits c.frame ∷ c.below) c.store

  goes : (d : Configuration) → at_rest d → Turn (Ok program) (λ next. next d)
  goes d o = Moves d (record { working = o.0; stored = o.1 }) (λ next. refl)

  -- ---- unwinding

  arrive_turn : (code : Option ℕ) (t : Target) (c : Configuration) → at_rest c
      → Turn (Ok program) (λ next. arrive t code next c)
  arrive_turn None t c o = goes (at_label t.label c) o
  arrive_turn (Some code) t c o = goes _ o

  block_turn : (k held : ℕ) (abnormal : Bool) (items : List Item) (c : Configuration)
      → IsFuncletOf program c.frame.body IsFinallyKind k → AreWorking program items
      → owners_of items ≡ owners_of (Waits c.frame ∷ c.below) → at_rest c
      → Turn (Ok program) (λ next. run_finally program k abnormal held items next c)
  block_turn k held abnormal items c f w e o =
      let q = owned program c.frame c.below IsFinallyKind k o.0 f in
      some_turn (Ok program) c.events (flag_of (slice_get program.funclets k)) _ (λ flag g.
      deeper_turn (Ok program) 2 held c.store c.events _ (goes _ (
        ((q.0, q.1, ap (λ ks. slice_get ks c.frame.activation) e ∙ q.2), w),
        set_kept program (owners_of items) c.store.activations c.frame.activation flag
            (of_test abnormal) (subst (λ ks. AreActivations program ks c.store.activations) (sym e)
            o.1),
      )))

  leave_turn : (r : RegionKind) (end : ℕ) (t : Target) (rest : List Region) (on : Next → Seen)
      (c : Configuration) → IsKindOf program c.frame.body end r → at_rest c → Turn (Ok program) on
      → Turn (Ok program) (λ next. leave_region program next t r rest (on next) c)
  leave_turn (kinds.Finally j) end t rest on c k o h = block_turn j t.held true
      (Unwinds rest t ∷ Waits c.frame ∷ c.below) c k o.0 refl o
  leave_turn (kinds.Filter j l) end t rest on c k o h = h
  leave_turn (kinds.Always l) end t rest on c k o h = h

  body_turn : (t : Target) (out : Next → Store → Seen) (rs : List Region) (c : Configuration)
      → Regions program whole.bodies c.frame.body rs → at_rest c
      → (Over program c.below (left_store c.frame.body c.frame.activation c.store)
      → Turn (Ok program) (λ next. out next (left_store c.frame.body c.frame.activation c.store)))
      → Turn (Ok program) (λ next. unwind_body program next t (out next) rs c)
  body_turn t out [] c r o h =
      pick_turn (Ok program) (nat_eq t.depth (length c.below)) (λ next. arrive t t.code next c)
      (λ next. out next (left_store c.frame.body c.frame.activation c.store))
      (λ e. arrive_turn t.code t c o) (λ e. h (left_over program c.frame c.below c.store o))
  body_turn t out (x ∷ rs) c r o h =
      pick_turn (Ok program) (stops t x (length c.below)) (λ next. arrive t t.code next c)
      (λ next. leave_region program next t x.kind rs (unwind_body program next t (out next) rs c)
      c)
      (λ e. arrive_turn t.code t c o) (λ e. leave_turn x.kind x.end t rs
      (λ next. unwind_body program next t (out next) rs c) c r.0.kind o
      (body_turn t out rs c r.1 o h))

  unwind_turn : (t : Target) (items : List Item) (left : Option (List Region)) (es : List Event)
      (store : Store) → Left program whole.bodies left items → Items program items
      → Over program items store → Turn (Ok program)
      (λ next. unwind program next t items left es store)
  unwind_turn t [] left es store l w o = Halts (Stuck es) (λ next. refl)
  unwind_turn t (Waits f ∷ below) left es store l w o =
      body_turn t (λ next store. unwind program next (target_past f.body t) below None es store)
      (regions_left left (regions_at program f.body f.next))
      (record { frame = f; below = below; store = store; events = es })
      (left_are program whole.bodies left f below l) o
      (λ p. unwind_turn (target_past f.body t) below None es (left_store f.body f.activation store)
      tt w.2 p)
  unwind_turn t (Searches exception resumption asked ∷ below) left es store l w o = unwind_turn
      t below None es store tt w.2 o
  unwind_turn t (Unwinds rest older ∷ below) left es store l w o = unwind_turn t below (Some rest)
      es store w.0 w.2 o

  -- ---- searching

  accept_turn : (h : Handler) (exception : Exception) (c : Configuration)
      → Items program (Waits c.frame ∷ c.below) → at_rest c
      → Turn (Ok program) (λ next. accept program h exception next c)
  accept_turn h exception c w o = unwind_turn (target_of h exception.code c.frame.held)
      (Waits c.frame ∷ c.below) None c.events c.store tt w o

  consult_turn : (k : Option ℕ) (h : Handler) (rest : List Handler) (exception : Exception)
      (resumption : Resumption) (c : Configuration) → h.filter ≡ k
      → IsHandler program h (Waits c.frame ∷ c.below) → Items program (Waits c.frame ∷ c.below)
      → at_rest c → Turn (Ok program) (λ next. consult program k h rest exception resumption next c)
  consult_turn None h rest exception resumption c e p w o = accept_turn h exception c w o
  consult_turn (Some k) h rest exception resumption c e p w o =
      deeper_turn (Ok program) 2 c.frame.held c.store c.events _
      (goes _ ((filter_owned program h k (Waits c.frame ∷ c.below) e p o.0, o.0), o.1))

  search_turn : (found : List Handler) (exception : Exception) (resumption : Resumption)
      (c : Configuration) → AreHandlers program found (Waits c.frame ∷ c.below)
      → Items program (Waits c.frame ∷ c.below) → at_rest c
      → Turn (Ok program) (λ next. search program next found exception resumption c)
  search_turn [] exception resumption c p w o = Halts
      (Finished (ends.Unhandled (record { 0 = exception.code })) c.events) (λ next. refl)
  search_turn (h ∷ rest) exception resumption c p w o = consult_turn h.filter h rest exception
      resumption c refl p.0 w o

  -- ---- vectored handlers

  -- a function's activation has as many locals as it has
  entered : (f : ℕ) (function : LinearFunction) (vs : List ℕ)
      → slice_get program.functions f ≡ Some function → length vs ≡ function.parameters
      → IsActivationOf program f (vs ++ replicate (function.body.locals - function.parameters) 0)
  entered f function vs e n =
      let zeros = replicate (function.body.locals - function.parameters) 0 in
      let room = whole.parameters f function e in
      record {
        function = function;
        there = e;
        count = length-append vs zeros
            ∙ ap (λ k. length vs + k) (length-replicate
            (function.body.locals - function.parameters) 0) ∙ omega (arith, n, room);
      }

  -- what a callee takes is what its function has
  takes_of : (f count : ℕ) (function : LinearFunction) → IsCallee program f count
      → slice_get program.functions f ≡ Some function → count ≡ function.parameters
  takes_of f count function callee e = callee.takes ∙ ap (λ (h : LinearFunction). h.parameters)
      (same_it callee.function function (sym callee.there ∙ e))

  ask_turn : (h : Option ℕ) (place : ℕ) (exception : Exception) (resumption : Resumption)
      (c : Configuration) → ((f : ℕ) → h ≡ Some f → IsCallee program f 2)
      → Items program (Waits c.frame ∷ c.below) → at_rest c
      → Turn (Ok program) (λ next. ask_at program next h place exception resumption c)
  ask_turn None place exception resumption c k w o =
      search_turn (handlers program (Waits c.frame ∷ c.below) None) exception resumption c
      (handlers_are program whole.bodies (Waits c.frame ∷ c.below) None tt w) w o
  ask_turn (Some f) place exception resumption c k w o =
      let owners = owners_of (Waits c.frame ∷ c.below) in
      some_turn (Ok program) c.events (slice_get program.functions f) _ (λ function e.
      deeper_turn (Ok program) (2 + depth_weight function) c.frame.held c.store c.events _ (goes _ (
        (as_many program owners c.store.activations o.1, o.0),
        one_more program owners c.store.activations f _
            (entered f function (handler_arguments exception) e
            (takes_of f 2 function (k f refl) e)) o.1,
      )))

  abbrev Askable : Store → Type 0
  Askable store = CanBeAsked program store.vectored

  from_turn : (place : ℕ) (exception : Exception) (resumption : Resumption) (c : Configuration)
      → Items program (Waits c.frame ∷ c.below) → Askable c.store → at_rest c
      → Turn (Ok program) (λ next. ask_from program next place exception resumption c)
  from_turn place exception resumption c w a o =
      ask_turn (slice_get c.store.vectored place) place exception resumption c
      (λ f e. (all_at (IsAskable program) c.store.vectored place f a e).0.callee) w o

  raise_turn : (exception : Exception) (resumption : Resumption) (c : Configuration)
      → Items program (Waits c.frame ∷ c.below) → Askable c.store → at_rest c
      → Turn (Ok program) (λ next. raise program next exception resumption c)
  raise_turn exception resumption c w a o = from_turn 0 exception resumption
      (record c { events = c.events ++ raise_event exception ∷ [] }) w a o

  resumed_turn : (resumption : Resumption) (c : Configuration) → at_rest c
      → Turn (Ok program) (λ next. next (resumed resumption c))
  resumed_turn AfterCall c o = goes _ o
  resumed_turn SameOperation c o = goes _ o

  continued_turn : (exception : Exception) (resumption : Resumption) (c : Configuration)
      → Items program (Waits c.frame ∷ c.below) → Askable c.store → at_rest c
      → Turn (Ok program) (λ next. continued program next exception resumption c)
  continued_turn exception resumption c w a o =
      pick_turn (Ok program) exception.flag
      (λ next. raise program next noncontinuable resumption c)
      (λ next. next (resumed resumption c)) (λ e. raise_turn noncontinuable resumption c w a o)
      (λ e. resumed_turn resumption c o)

  -- ---- ends of bodies

  stuck : (es : List Event) → Turn (Ok program) (λ next. Stuck es)
  stuck es = Halts (Stuck es) (λ next. refl)

  answer_turn : (v : ℕ) (items : List Item) (es : List Event) (store : Store) → Items program items
      → Askable store → Over program items store
      → Turn (Ok program) (λ next. answer program next v items es store)
  answer_turn v [] es store w a o = stuck es
  answer_turn v (Waits f ∷ below) es store w a o = stuck es
  answer_turn v (Unwinds rest t ∷ below) es store w a o = stuck es
  answer_turn v (Searches exception resumption (VectoredAt place) ∷ below) es store w a
      o = stuck es
  answer_turn v (Searches exception resumption (FilterOf h rest) ∷ []) es store w a o = stuck es
  answer_turn v (Searches exception resumption (FilterOf h rest) ∷ Searches e r s ∷ below) es store
      w a o = stuck es
  answer_turn v (Searches exception resumption (FilterOf h rest) ∷ Unwinds s t ∷ below) es store w a
      o = stuck es
  answer_turn v (Searches exception resumption (FilterOf h rest) ∷ Waits f ∷ below) es store w a o =
      let c : Configuration = record {
        frame = f;
        below = below;
        store = store;
        events = es ++ events.Answer (signed W32 v) ∷ [];
      } in
      pick_turn (Ok program) (nat_eq (low W32 v) 0)
      (λ next. search program next rest exception resumption c) _
      (λ e. search_turn rest exception resumption c w.0.1 w.2 o)
      (λ e. pick_turn (Ok program) (nat_lt (low W32 v) (2 ^ 31))
      (λ next. accept program h exception next c) _ (λ e. accept_turn h exception c w.2 o)
      (λ e. continued_turn exception resumption c w.2 a o))

  return_turn : (v : ℕ) (items : List Item) (es : List Event) (store : Store) → Items program items
      → Askable store → Over program items store
      → Turn (Ok program) (λ next. return program next v items es store)
  return_turn v [] es store w a o = Halts (Finished (ends.Exit (signed W32 v)) es) (λ next. refl)
  return_turn v (Waits f ∷ below) es store w a o = goes _ o
  return_turn v (Unwinds rest t ∷ below) es store w a o = stuck es
  return_turn v (Searches exception resumption (FilterOf h rest) ∷ below) es store w a o = stuck es
  return_turn v (Searches exception resumption (VectoredAt place) ∷ []) es store w a o = stuck es
  return_turn v (Searches exception resumption (VectoredAt place) ∷ Searches e r s ∷ below) es store
      w a o = stuck es
  return_turn v (Searches exception resumption (VectoredAt place) ∷ Unwinds s t ∷ below) es store w
      a o = stuck es
  return_turn v (Searches exception resumption (VectoredAt place) ∷ Waits f ∷ below) es store w a
      o =
      let c : Configuration = record { frame = f; below = below; store = store; events = es } in
      pick_turn (Ok program) (nat_lt (low W32 v) (2 ^ 31))
      (λ next. ask_from program next (place + 1) exception resumption c) _
      (λ e. from_turn (place + 1) exception resumption c w.2 a o)
      (λ e. continued_turn exception resumption c w.2 a o)

  finally_turn : (items : List Item) (es : List Event) (store : Store) → Items program items
      → Over program items store → Turn (Ok program)
      (λ next. end_finally program next items es store)
  finally_turn [] es store w o = stuck es
  finally_turn (Searches exception resumption asked ∷ below) es store w o = stuck es
  finally_turn (Waits f ∷ below) es store w o = goes _ o
  finally_turn (Unwinds rest t ∷ []) es store w o = stuck es
  finally_turn (Unwinds rest t ∷ Searches exception resumption asked ∷ below) es store w
      o = stuck es
  finally_turn (Unwinds rest t ∷ Unwinds s older ∷ below) es store w o = stuck es
  finally_turn (Unwinds rest t ∷ Waits f ∷ below) es store w o = unwind_turn t (Waits f ∷ below)
      (Some rest) es store w.0 w.2 o

  funclet_turn : (kind : FuncletKind) (v : ℕ) (c : Configuration) → Items program c.below
      → Askable c.store → Over program c.below c.store
      → Turn (Ok program) (λ next. end_funclet program next kind v c)
  funclet_turn funclets.Filter v c w a o = answer_turn v c.below c.events c.store w a o
  funclet_turn (funclets.Finally flag) v c w a o = finally_turn c.below c.events c.store w o

  end_turn : (name : BodyName) (v : ℕ) (c : Configuration) → c.frame.body ≡ name
      → Items program c.below → Askable c.store → at_rest c
      → Turn (Ok program) (λ next. end_body program next name v c)
  end_turn (FunctionBody f) v c e w a o = return_turn v c.below c.events
      (left_store c.frame.body c.frame.activation c.store) w
      (left_askable program whole.bodies c.frame.body c.frame.activation c.store a)
      (left_over program c.frame c.below c.store o)
  end_turn (FuncletBody k) v c e w a o =
      let p = subst (λ name. Over program c.below (left_store name c.frame.activation c.store)) e
      (left_over program c.frame c.below c.store o) in
      some_turn (Ok program) c.events (slice_get program.funclets k)
      (λ next f. end_funclet program next f.kind v c) (λ f g. funclet_turn f.kind v c w a p)

  -- ---- an instruction

  stored_by : (c : Configuration) (o : Option (List ℕ)) (d : Configuration)
      → with_temporaries c o ≡ Some d → at_rest c → at_rest d
  stored_by c None d e o = absurd (cc)
  stored_by c (Some ts) d e o = subst at_rest (same_it (with_last ts c) d e) o

  write_stored : (c : Configuration) (to : Slot) (v : ℕ) (d : Configuration) → write c to v ≡ Some d
      → at_rest c → at_rest d
  write_stored c (Local x) v d e o =
      subst at_rest (same_it (record c { store = set_local c.store c.frame.activation x v }) d e) (
        o.0,
        set_kept program (owners_of (Waits c.frame ∷ c.below)) c.store.activations
            c.frame.activation x v o.1,
      )
  write_stored c (Temporary i) v d e o = stored_by c (with_temporary c.frame.temporaries i v) d e o

  written_turn : (c : Configuration) (to : Slot) (v : ℕ) → at_rest c
      → Turn (Ok program) (λ next. written c to v next)
  written_turn c to v o = some_turn (Ok program) c.events (write c to v) (λ next d. next (forth d))
      (λ d e. goes (forth d) (write_stored c to v d e o))

  computed_turn : (c : Configuration) (to : Slot) (r : OperationResult)
      → Items program (Waits c.frame ∷ c.below) → Askable c.store → at_rest c
      → Turn (Ok program) (λ next. computed program next to c r)
  computed_turn c to (Gives v memory) w a o = written_turn
      (record c { store = record c.store { memory = memory } }) to v o
  computed_turn c to (Raises code access) w a o = raise_turn
      (record { code = code.0; flag = false; access = access }) SameOperation c w a o
  computed_turn c to (Undefined at) w a o =
      Halts (Finished (ends.Undefined at) c.events) (λ next. refl)

  raises_with : (k : BuiltIn) → k ≡ RaiseException → (first n : ℕ) → n ≡ first
      → MayWait program (instructions.CallBuiltIn k first) n
  raises_with RaiseException e first n h = h
  raises_with Put e first n h = absurd (cc)
  raises_with Protect e first n h = absurd (cc)
  raises_with Walk e first n h = absurd (cc)
  raises_with (AddVectored f) e first n h = absurd (cc)
  raises_with (RemoveVectored f) e first n h = absurd (cc)

  built_in_turn : (c : Configuration) (k : BuiltIn) (vs : List ℕ)
      → (k ≡ RaiseException → Items program (Waits c.frame ∷ c.below)) → Askable c.store
      → at_rest c → Turn (Ok program) (λ next. built_in program next k vs c)
  built_in_turn c Put vs w a o = goes _ o
  built_in_turn c Protect vs w a o = goes _ o
  built_in_turn c RaiseException vs w a o = raise_turn (raised (get_or vs 0 0) (get_or vs 1 0))
      AfterCall c (w refl) a o
  built_in_turn c Walk vs w a o = goes _ o
  built_in_turn c (AddVectored f) vs w a o = goes _ o
  built_in_turn c (RemoveVectored f) vs w a o = goes _ o

  tested_turn : (c : Configuration) (slot : Slot) (label v : ℕ) → at_rest c
      → Turn (Ok program) (λ next. pick (nat_eq v 0) (next (at_label label (tested slot c)))
      (next (forth (tested slot c))))
  tested_turn c (Local x) label v o = pick_turn (Ok program) (nat_eq v 0)
      (λ next. next (at_label label c)) (λ next. next (forth c)) (λ e. goes _ o) (λ e. goes _ o)
  tested_turn c (Temporary i) label v o =
      let d = with_last (take i c.frame.temporaries) c in
      pick_turn (Ok program) (nat_eq v 0) (λ next. next (at_label label d)) (λ next. next (forth d))
      (λ e. goes _ o) (λ e. goes _ o)

  call_turn : (c : Configuration) (f first count : ℕ) (vs : List ℕ) (function : LinearFunction)
      → instruction_at program c ≡ Some (instructions.Call f first count)
      → last_temporaries c.frame.temporaries first count ≡ Some vs
      → slice_get program.functions f ≡ Some function → at_rest c
      → Turn (Ok program) (λ next. next (begin_function f function vs c.frame.held
      (Waits (waiting c first).frame ∷ c.below) c.store c.events))
  call_turn c f first count vs function at e g o =
      let callee = instruction_fits program whole.bodies c (instructions.Call f first count) at in
      let n = as_many program (owners_of (Waits c.frame ∷ c.below)) c.store.activations o.1 in
      let takes = takes_of f count function callee g in
      goes _ (
        (n, o.0),
        one_more program (owners_of (Waits c.frame ∷ c.below)) c.store.activations f
            _ (entered f function vs g (last_count c.frame.temporaries first count vs e
            ∙ takes))
            o.1,
      )

  module _ (c : Configuration) (s : IsStacked program c) (o : at_rest c) where
    waits_as_is : (i : Instruction) → instruction_at program c ≡ Some i
        → is_landing program whole.bodies (Some i) ≡ false
        → MayWait program i (length c.frame.temporaries) → Items program (Waits c.frame ∷ c.below)
    waits_as_is i at plain m = waits program whole.bodies c s i at plain c.frame.temporaries m

    act_turn : (i : Instruction) → instruction_at program c ≡ Some i
        → Turn (Ok program) (λ next. act program i next c)
    act_turn (instructions.Compute to p first second) at =
        some_turn (Ok program) c.events (operand (is_constant p) c first) _ (λ a e.
        some_turn (Ok program) c.events (operand (is_constant p) c second) _ (λ b e.
        computed_turn c to (performed (is_reserved program.globals) p a b c.store.memory)
        (waits_as_is (instructions.Compute to p first second) at refl tt) s.handlers o))
    act_turn (instructions.Information to field) at = written_turn c to
        (field_of field c.frame.exception) o
    act_turn (instructions.Jump label) at = goes _ o
    act_turn (instructions.JumpIfZero slot label) at = some_turn (Ok program) c.events (read c slot)
        _ (λ v e. tested_turn c slot label v o)
    act_turn (instructions.Call f first count) at =
        some_turn (Ok program) c.events (last_temporaries c.frame.temporaries first count) _
        (λ vs e.
        some_turn (Ok program) c.events (slice_get program.functions f) _ (λ function g.
        deeper_turn (Ok program) (depth_weight function) c.frame.held c.store c.events _
        (call_turn c f first count vs function at e g o)))
    act_turn (instructions.CallBuiltIn k first) at =
        some_turn (Ok program) c.events (last_temporaries c.frame.temporaries first (count_of k)) _
        (λ vs e.
        built_in_turn (waiting c first) k vs (λ r. waits program whole.bodies c s
        (instructions.CallBuiltIn k first) at refl (take first c.frame.temporaries)
        (raises_with k r first (length (take first c.frame.temporaries))
        (taken first (count_of k) c.frame.temporaries vs e))) s.handlers o)
    act_turn (instructions.CallFinally k) at = block_turn k c.frame.held false
        (Waits c.frame ∷ c.below) c (instruction_fits program whole.bodies c
        (instructions.CallFinally k) at) o.0 refl o
    act_turn (instructions.LocalUnwind label) at =
        unwind_turn (record {
          depth = length c.below;
          label = label;
          code = None;
          held = c.frame.held;
        }) (Waits c.frame ∷ c.below) None c.events c.store tt
        (waits_as_is (instructions.LocalUnwind label) at refl tt) o
    act_turn (instructions.Landing to) at = some_turn (Ok program) c.events c.frame.landed
        (λ next code. written (not_landed c) to code next)
        (λ code e. written_turn (not_landed c) to code o)
    act_turn instructions.Separator at = goes _ o
    act_turn (instructions.Return from) at = some_turn (Ok program) c.events (read c from) _
        (λ v e. end_turn c.frame.body v c refl s.below s.handlers o)

  abbrev Both : Configuration → Type 0
  Both c = IsStacked program c × HasActivations program c

  stays : (c d : Configuration) → IsTurn program c d → Both c → Both d
  stays c d r p = (
    stays_stacked program whole.bodies c d r p.0,
    kept (Ok program) (λ next. act program r.instruction next c) d
        (act_turn c p.0 (p.1.working, p.1.stored) r.instruction r.at) r.goes,
  )

  begun_with : (arg : ℤ) (n : ℕ) → n ≤ 1 → length (main_arguments n arg) ≡ n
  begun_with arg zero h = refl
  begun_with arg (suc zero) h = refl
  begun_with arg (suc (suc n)) h = absurd (omega arith)

  starts : (arg : ℤ) (main : LinearFunction) → slice_get program.functions program.main ≡ Some main
      → Both (start program arg main)
  starts arg main e = (
    starts_stacked program whole.bodies arg main,
    record {
      working = (refl, tt);
      stored = (
        entered program.main main
            (main_arguments main.parameters arg) e
            (begun_with arg main.parameters (whole.few main e)),
        tt,
      );
    },
  )

  pub reached_both : (c : Configuration) → IsReached program c → Both c
  reached_both c r = kept_by_all Both program stays r.turns (start program r.argument r.main) c
      r.comes (starts r.argument r.main r.is_main)
