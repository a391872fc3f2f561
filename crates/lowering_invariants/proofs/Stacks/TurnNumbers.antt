-- Each turn keeps every number one of 64 bits.
use Rattle.std.proofs.Common.{◌≡◌, ℕ, ◌+◌, ◌-◌, ◌^◌, ◌<◌, List, [], ◌∷◌, ◌++◌, length, refl, subst, arith}
use Rattle.std.proofs.lemmas.Option.{slice_get_within}
use Rattle.vectored_list.specs.Lists.{can_be_added, is_listed}
use Rattle.vectored_list.specs.declared.TheConstants.{MOST_HANDLERS}
use Rattle.vectored_list.proofs.Proper.{adding_stays_proper, removing_stays_proper}
use Rattle.std.specs.Prelude.{Bool, true, false, not, nat_eq, nat_lt, slice_get, take, drop, if◌then◌else◌, get_or, ℤ, Option, Some, None}
use Rattle.lowering_invariants.specs.Words.{Event, W32, W64, low, signed, wrapped, BuiltIn, Put, Protect, RaiseException, Walk, AddVectored, RemoveVectored, OperationResult, Gives, Raises, Undefined, performed, Exception, is_reserved, of_test, field_of, raised, noncontinuable, raise_event, handler_arguments, Slot, Local, Temporary, Instruction, Region, RegionKind, FuncletKind, LinearProgram, LinearFunction, BodyName, FunctionBody, FuncletBody, Handler, Target, Resumption, AfterCall, SameOperation, FilterOf, VectoredAt, Item, Waits, Searches, Unwinds, Store, Configuration, Seen, Finished, Stuck, Next, pick, read, write, with_temporary, with_temporaries, last_temporaries, set_local, at_label, forth, with_last, regions_at, regions_left, handlers, stops, flag_of, run_finally, arrive, target_past, left_store, leave_region, unwind_body, unwind, target_of, accept, consult, search, ask_at, ask_from, raise, resumed, continued, answer, is_constant, operand, written, computed, tested, waiting, count_of, built_in, return, end_finally, end_funclet, end_body, not_landed, act, start, main_arguments, IsTurn, IsReached, AreSmall, IsSmallCode, IsSmallException, AreSmallItems, HasSmallNumbers}
use Rattle.seh_num.specs.declared.event.Event.TheVariants as events
use Rattle.source_meaning.specs.declared.ended.Ended.TheVariants as ends
use Rattle.linear_code.specs.Program.{depth_weight}
use Rattle.linear_code.specs.declared.instruction.Instruction.TheVariants as instructions
use Rattle.linear_code.specs.declared.program.RegionKind.TheVariants as kinds
use Rattle.linear_code.specs.declared.program.FuncletKind.TheVariants as funclets
use Rattle.lowering_invariants.proofs.Moves.{Turn, Halts, pick_turn, some_turn, deeper_turn, kept, kept_by_all}
use Rattle.lowering_invariants.proofs.Stacks.StackTargets.{same_it}
use Rattle.lowering_invariants.proofs.Lemmas.{low_below, wrapped_below}
use Rattle.lowering_invariants.proofs.Results.{IsSmallOutcome, KeepsPointer, outcome_small, outcome_keeps}
use Rattle.lowering_invariants.proofs.SmallNumbers.SmallLists.{all_joined, all_taken, all_dropped, zeros, one_of, got_of, locals_in, locals_small, joined_small, test_small, field_small}
use Rattle.lowering_invariants.proofs.SmallNumbers.SmallStores.{IsSmallStore, Over, at_rest, goes, frame_with, with_local, left_behind, protected_keeps, first_small}

module _ (program : LinearProgram) where
  stuck : (es : List Event) → Turn HasSmallNumbers (λ next. Stuck es)
  stuck es = Halts (Stuck es) (λ next. refl)

  -- ---- unwinding

  moved_to : (label : ℕ) (c : Configuration) → at_rest c → at_rest (at_label label c)
  moved_to label c o = (
    (
      record {
        temporaries = o.0.0.temporaries;
        exception = o.0.0.exception;
        landed = o.0.0.landed;
      },
      o.0.1,
    ),
    o.1,
  )

  arrive_turn : (code : Option ℕ) (t : Target) (c : Configuration) → IsSmallCode code → at_rest c
      → Turn HasSmallNumbers (λ next. arrive t code next c)
  arrive_turn None t c s o = goes (at_label t.label c) (moved_to t.label c o)
  arrive_turn (Some code) t c s o = goes _ (
    (
      record {
        temporaries = tt;
        exception = o.0.0.exception;
        landed = s;
      },
      o.0.1,
    ),
    o.1,
  )

  none_small : IsSmallException (record { code = 0; flag = false; access = None })
  none_small = record { code = omega arith; access = tt }

  block_turn : (k held : ℕ) (abnormal : Bool) (items : List Item) (c : Configuration)
      → AreSmallItems items → IsSmallStore c.store
      → Turn HasSmallNumbers (λ next. run_finally program k abnormal held items next c)
  block_turn k held abnormal items c w s =
      some_turn HasSmallNumbers c.events (flag_of (slice_get program.funclets k)) _ (λ flag g.
      deeper_turn HasSmallNumbers 2 held c.store c.events _
      (goes _ (
        (record { temporaries = tt; exception = none_small; landed = tt }, w),
        with_local c.store c.frame.activation flag (of_test abnormal) s (test_small abnormal),
      )))

  leave_turn : (r : RegionKind) (t : Target) (rest : List Region) (on : Next → Seen)
      (c : Configuration) → IsSmallCode t.code → at_rest c → Turn HasSmallNumbers on
      → Turn HasSmallNumbers (λ next. leave_region program next t r rest (on next) c)
  leave_turn (kinds.Finally j) t rest on c s o h = block_turn j t.held true (Unwinds rest t
      ∷ Waits c.frame ∷ c.below) c (s, o.0) o.1
  leave_turn (kinds.Filter j l) t rest on c s o h = h
  leave_turn (kinds.Always l) t rest on c s o h = h

  body_turn : (t : Target) (out : Next → Store → Seen) (rs : List Region) (c : Configuration)
      → IsSmallCode t.code → at_rest c
      → (IsSmallStore (left_store c.frame.body c.frame.activation c.store)
      → Turn HasSmallNumbers (λ next. out next
      (left_store c.frame.body c.frame.activation c.store)))
      → Turn HasSmallNumbers (λ next. unwind_body program next t (out next) rs c)
  body_turn t out [] c s o h =
      pick_turn HasSmallNumbers (nat_eq t.depth (length c.below)) (λ next. arrive t t.code next c)
      (λ next. out next (left_store c.frame.body c.frame.activation c.store))
      (λ e. arrive_turn t.code t c s o) (λ e. h
      (left_behind c.frame.body c.frame.activation c.store o.1))
  body_turn t out (x ∷ rs) c s o h =
      pick_turn HasSmallNumbers (stops t x (length c.below)) (λ next. arrive t t.code next c)
      (λ next. leave_region program next t x.kind rs (unwind_body program next t (out next) rs c)
      c)
      (λ e. arrive_turn t.code t c s o) (λ e. leave_turn x.kind t rs
      (λ next. unwind_body program next t (out next) rs c) c s o (body_turn t out rs c s o h))

  past_small : (name : BodyName) (t : Target) → IsSmallCode t.code
      → IsSmallCode (target_past name t).code
  past_small (FunctionBody f) t s = s
  past_small (FuncletBody k) t s = s

  unwind_turn : (t : Target) (items : List Item) (left : Option (List Region)) (es : List Event)
      (store : Store) → IsSmallCode t.code → Over items store
      → Turn HasSmallNumbers (λ next. unwind program next t items left es store)
  unwind_turn t [] left es store s o = stuck es
  unwind_turn t (Waits f ∷ below) left es store s o =
      body_turn t (λ next store. unwind program next (target_past f.body t) below None es store)
      (regions_left left (regions_at program f.body f.next))
      (record { frame = f; below = below; store = store; events = es }) s o
      (λ p. unwind_turn (target_past f.body t) below None es (left_store f.body f.activation store)
      (past_small f.body t s) (o.0.1, p))
  unwind_turn t (Searches exception resumption asked ∷ below) left es store s o = unwind_turn t
      below None es store s (o.0.2, o.1)
  unwind_turn t (Unwinds rest older ∷ below) left es store s o =
      unwind_turn t below (Some rest) es store s (o.0.1, o.1)

  -- ---- searching

  accept_turn : (h : Handler) (exception : Exception) (c : Configuration)
      → IsSmallException exception → at_rest c
      → Turn HasSmallNumbers (λ next. accept program h exception next c)
  accept_turn h exception c x o = unwind_turn (target_of h exception.code c.frame.held)
      (Waits c.frame ∷ c.below) None c.events c.store x.code o

  consult_turn : (k : Option ℕ) (h : Handler) (rest : List Handler) (exception : Exception)
      (resumption : Resumption) (c : Configuration) → IsSmallException exception → at_rest c
      → Turn HasSmallNumbers (λ next. consult program k h rest exception resumption next c)
  consult_turn None h rest exception resumption c x o = accept_turn h exception c x o
  consult_turn (Some k) h rest exception resumption c x o =
      deeper_turn HasSmallNumbers 2 c.frame.held c.store c.events _
      (goes _ ((record { temporaries = tt; exception = x; landed = tt }, (x, tt, o.0)), o.1))

  search_turn : (found : List Handler) (exception : Exception) (resumption : Resumption)
      (c : Configuration) → IsSmallException exception → at_rest c
      → Turn HasSmallNumbers (λ next. search program next found exception resumption c)
  search_turn [] exception resumption c x o = Halts
      (Finished (ends.Unhandled (record { 0 = exception.code })) c.events) (λ next. refl)
  search_turn (h ∷ rest) exception resumption c x o =
      consult_turn h.filter h rest exception resumption c x o

  -- ---- vectored handlers

  -- a code and flags
  arguments_of : (exception : Exception) → IsSmallException exception
      → AreSmall (handler_arguments exception)
  arguments_of exception x = let code = x.code in (omega arith, (test_small exception.flag, tt))

  ask_turn : (h : Option ℕ) (place : ℕ) (exception : Exception) (resumption : Resumption)
      (c : Configuration) → ((f : ℕ) → h ≡ Some f → place < MOST_HANDLERS)
      → IsSmallException exception → at_rest c
      → Turn HasSmallNumbers (λ next. ask_at program next h place exception resumption c)
  ask_turn None place exception resumption c k x o = search_turn
      (handlers program (Waits c.frame ∷ c.below) None) exception resumption c x o
  ask_turn (Some f) place exception resumption c k x o =
      some_turn HasSmallNumbers c.events (slice_get program.functions f) _ (λ function e.
      deeper_turn HasSmallNumbers (2 + depth_weight function) c.frame.held c.store c.events _
      (goes _ (
        (
          record { temporaries = tt; exception = none_small; landed = tt },
          (x, k f refl, o.0),
        ),
        record {
          locals = joined_small c.store.activations _ o.1.locals
              (all_joined (handler_arguments exception) _ (arguments_of exception x)
              (zeros (function.body.locals - function.parameters)));
          pointer = o.1.pointer;
          handlers = o.1.handlers;
        },
      )))

  from_turn : (place : ℕ) (exception : Exception) (resumption : Resumption) (c : Configuration)
      → IsSmallException exception → at_rest c
      → Turn HasSmallNumbers (λ next. ask_from program next place exception resumption c)
  from_turn place exception resumption c x o =
      ask_turn (slice_get c.store.vectored place) place exception resumption c (λ f e.
      let within = slice_get_within c.store.vectored place f e in
      let few = o.1.handlers.few in
      omega arith) x o

  raise_turn : (exception : Exception) (resumption : Resumption) (c : Configuration)
      → IsSmallException exception → at_rest c
      → Turn HasSmallNumbers (λ next. raise program next exception resumption c)
  raise_turn exception resumption c x o = from_turn 0 exception resumption
      (record c { events = c.events ++ raise_event exception ∷ [] }) x o

  -- a body continues with one more temporary
  with_result : (c : Configuration) (v : ℕ) → v < 2 ^ 64 → at_rest c
      → at_rest (with_last (c.frame.temporaries ++ v ∷ []) c)
  with_result c v lt o = (
    (
      frame_with c.frame (c.frame.temporaries ++ v ∷ [])
          (all_joined c.frame.temporaries (v ∷ []) o.0.0.temporaries (lt, tt)) o.0.0,
      o.0.1,
    ),
    o.1,
  )

  answers_turn : (c : Configuration) (v : ℕ) → v < 2 ^ 64 → at_rest c
      → Turn HasSmallNumbers (λ next. next (forth (with_last (c.frame.temporaries ++ v ∷ []) c)))
  answers_turn c v lt o = goes _ (moved_to (c.frame.next + 1) (with_last (c.frame.temporaries ++ v
      ∷ []) c) (with_result c v lt o))

  resumed_turn : (resumption : Resumption) (c : Configuration) → at_rest c
      → Turn HasSmallNumbers (λ next. next (resumed resumption c))
  resumed_turn AfterCall c o = answers_turn c 0 (omega arith) o
  resumed_turn SameOperation c o = goes c o

  anew : IsSmallException noncontinuable
  anew = record { code = omega arith; access = tt }

  continued_turn : (exception : Exception) (resumption : Resumption) (c : Configuration) → at_rest c
      → Turn HasSmallNumbers (λ next. continued program next exception resumption c)
  continued_turn exception resumption c o =
      pick_turn HasSmallNumbers exception.flag
      (λ next. raise program next noncontinuable resumption c)
      (λ next. next (resumed resumption c)) (λ e. raise_turn noncontinuable resumption c anew o)
      (λ e. resumed_turn resumption c o)

  -- ---- ends of bodies

  answer_turn : (v : ℕ) (items : List Item) (es : List Event) (store : Store) → Over items store
      → Turn HasSmallNumbers (λ next. answer program next v items es store)
  answer_turn v [] es store o = stuck es
  answer_turn v (Waits f ∷ below) es store o = stuck es
  answer_turn v (Unwinds rest t ∷ below) es store o = stuck es
  answer_turn v (Searches exception resumption (VectoredAt place) ∷ below) es store o = stuck es
  answer_turn v (Searches exception resumption (FilterOf h rest) ∷ []) es store o = stuck es
  answer_turn v (Searches exception resumption (FilterOf h rest) ∷ Searches e r s ∷ below) es store
      o = stuck es
  answer_turn v (Searches exception resumption (FilterOf h rest) ∷ Unwinds s t ∷ below) es store
      o = stuck es
  answer_turn v (Searches exception resumption (FilterOf h rest) ∷ Waits f ∷ below) es store o =
      let c : Configuration = record {
        frame = f;
        below = below;
        store = store;
        events = es ++ events.Answer (signed W32 v) ∷ [];
      } in
      let p : at_rest c = (o.0.2, o.1) in
      pick_turn HasSmallNumbers (nat_eq (low W32 v) 0)
      (λ next. search program next rest exception resumption c) _
      (λ e. search_turn rest exception resumption c o.0.0 p)
      (λ e. pick_turn HasSmallNumbers (nat_lt (low W32 v) (2 ^ 31))
      (λ next. accept program h exception next c) _ (λ e. accept_turn h exception c o.0.0 p)
      (λ e. continued_turn exception resumption c p))

  return_turn : (v : ℕ) (items : List Item) (es : List Event) (store : Store) → v < 2 ^ 64
      → Over items store → Turn HasSmallNumbers (λ next. return program next v items es store)
  return_turn v [] es store lt o = Halts (Finished (ends.Exit (signed W32 v)) es) (λ next. refl)
  return_turn v (Waits f ∷ below) es store lt o =
      answers_turn (record { frame = f; below = below; store = store; events = es }) v lt o
  return_turn v (Unwinds rest t ∷ below) es store lt o = stuck es
  return_turn v (Searches exception resumption (FilterOf h rest) ∷ below) es store lt o = stuck es
  return_turn v (Searches exception resumption (VectoredAt place) ∷ []) es store lt o = stuck es
  return_turn v (Searches exception resumption (VectoredAt place) ∷ Searches e r s ∷ below) es store
      lt o = stuck es
  return_turn v (Searches exception resumption (VectoredAt place) ∷ Unwinds s t ∷ below) es store lt
      o = stuck es
  return_turn v (Searches exception resumption (VectoredAt place) ∷ Waits f ∷ below) es store lt o =
      let c : Configuration = record { frame = f; below = below; store = store; events = es } in
      let p : at_rest c = (o.0.2, o.1) in
      pick_turn HasSmallNumbers (nat_lt (low W32 v) (2 ^ 31))
      (λ next. ask_from program next (place + 1) exception resumption c) _
      (λ e. from_turn (place + 1) exception resumption c o.0.0 p)
      (λ e. continued_turn exception resumption c p)

  finally_turn : (items : List Item) (es : List Event) (store : Store) → Over items store
      → Turn HasSmallNumbers (λ next. end_finally program next items es store)
  finally_turn [] es store o = stuck es
  finally_turn (Searches exception resumption asked ∷ below) es store o = stuck es
  finally_turn (Waits f ∷ below) es store o = goes _
      (moved_to (f.next + 1) (record { frame = f; below = below; store = store; events = es }) o)
  finally_turn (Unwinds rest t ∷ []) es store o = stuck es
  finally_turn (Unwinds rest t ∷ Searches exception resumption asked ∷ below) es store o = stuck es
  finally_turn (Unwinds rest t ∷ Unwinds s older ∷ below) es store o = stuck es
  finally_turn (Unwinds rest t ∷ Waits f ∷ below) es store o =
      unwind_turn t (Waits f ∷ below) (Some rest) es store o.0.0 (o.0.1, o.1)

  funclet_turn : (kind : FuncletKind) (v : ℕ) (c : Configuration) → Over c.below c.store
      → Turn HasSmallNumbers (λ next. end_funclet program next kind v c)
  funclet_turn funclets.Filter v c o = answer_turn v c.below c.events c.store o
  funclet_turn (funclets.Finally flag) v c o = finally_turn c.below c.events c.store o

  end_turn : (name : BodyName) (v : ℕ) (c : Configuration) → v < 2 ^ 64 → at_rest c
      → Turn HasSmallNumbers (λ next. end_body program next name v c)
  end_turn (FunctionBody f) v c lt o = return_turn v c.below c.events
      (left_store c.frame.body c.frame.activation c.store) lt
      (o.0.1, left_behind c.frame.body c.frame.activation c.store o.1)
  end_turn (FuncletBody k) v c lt o = some_turn HasSmallNumbers c.events
      (slice_get program.funclets k) (λ next f. end_funclet program next f.kind v c)
      (λ f g. funclet_turn f.kind v c (o.0.1, o.1))

  -- ---- an instruction

  stored_by : (c : Configuration) (o : Option (List ℕ)) (d : Configuration)
      → with_temporaries c o ≡ Some d → ((ts : List ℕ) → o ≡ Some ts → AreSmall ts) → at_rest c
      → at_rest d
  stored_by c None d e h o = absurd (cc)
  stored_by c (Some ts) d e h o = subst at_rest (same_it (with_last ts c) d e)
      ((frame_with c.frame ts (h ts refl) o.0.0, o.0.1), o.1)

  new_small : (b : Bool) (ts us : List ℕ) → (if b then Some ts else None) ≡ Some us → AreSmall ts
      → AreSmall us
  new_small true ts us e h = subst AreSmall (same_it ts us e) h
  new_small false ts us e h = absurd (cc)

  write_small : (c : Configuration) (to : Slot) (v : ℕ) (d : Configuration) → write c to v ≡ Some d
      → v < 2 ^ 64 → at_rest c → at_rest d
  write_small c (Local x) v d e lt o =
      subst at_rest (same_it (record c { store = set_local c.store c.frame.activation x v }) d e)
      (o.0, with_local c.store c.frame.activation x v o.1 lt)
  write_small c (Temporary i) v d e lt o =
      stored_by c (with_temporary c.frame.temporaries i v) d e
      (λ us g. new_small _ (take i c.frame.temporaries ++ v ∷ []) us g
      (all_joined (take i c.frame.temporaries) (v ∷ [])
      (all_taken i c.frame.temporaries o.0.0.temporaries) (lt, tt))) o

  written_turn : (c : Configuration) (to : Slot) (v : ℕ) → v < 2 ^ 64 → at_rest c
      → Turn HasSmallNumbers (λ next. written c to v next)
  written_turn c to v lt o = some_turn HasSmallNumbers c.events (write c to v)
      (λ next d. next (forth d)) (λ d e. goes (forth d)
      (moved_to (d.frame.next + 1) d (write_small c to v d e lt o)))

  computed_turn : (c : Configuration) (to : Slot) (r : OperationResult) → IsSmallOutcome r
      → KeepsPointer r → at_rest c → Turn HasSmallNumbers (λ next. computed program next to c r)
  computed_turn c to (Gives v memory) s k o = written_turn
      (record c { store = record c.store { memory = memory } }) to v s
      (o.0, record { locals = o.1.locals; pointer = k; handlers = o.1.handlers })
  computed_turn c to (Raises code access) s k o = raise_turn
      (record { code = code.0; flag = false; access = access }) SameOperation c
      (record { code = s.0; access = s.1 }) o
  computed_turn c to (Undefined a) s k o =
      Halts (Finished (ends.Undefined a) c.events) (λ next. refl)

  read_small : (c : Configuration) (slot : Slot) (v : ℕ) → read c slot ≡ Some v → at_rest c
      → v < 2 ^ 64
  read_small c (Local x) v e o =
      subst (λ y. y < 2 ^ 64) (same_it _ v e)
      (one_of (locals_in (slice_get c.store.activations c.frame.activation)) x
      (locals_small c.store.activations c.frame.activation o.1.locals))
  read_small c (Temporary i) v e o = got_of c.frame.temporaries i v o.0.0.temporaries e

  operand_small : (b : Bool) (c : Configuration) (slot : Slot) (v : ℕ) → operand b c slot ≡ Some v
      → at_rest c → v < 2 ^ 64
  operand_small true c slot v e o = subst (λ y. y < 2 ^ 64) (same_it 0 v e) (omega arith)
  operand_small false c slot v e o = read_small c slot v e o

  with_fewer : (ts : List ℕ) (c : Configuration) → AreSmall ts → at_rest c
      → at_rest (with_last ts c)
  with_fewer ts c h o = ((frame_with c.frame ts h o.0.0, o.0.1), o.1)

  built_in_turn : (c : Configuration) (k : BuiltIn) (vs : List ℕ) → at_rest c
      → Turn HasSmallNumbers (λ next. built_in program next k vs c)
  built_in_turn c Put vs o = answers_turn (record c { events = _ }) 0 (omega arith) o
  built_in_turn c Protect vs o = answers_turn (record c { store = record c.store { memory = _ } })
      (of_test _) (test_small _) (
        o.0,
        record {
          locals = o.1.locals;
          pointer = protected_keeps c.store.memory (get_or vs 0 0) (signed W32 (get_or vs 1 0))
              o.1.pointer;
          handlers = o.1.handlers;
        },
      )
  built_in_turn c RaiseException vs o = raise_turn (raised (get_or vs 0 0) (get_or vs 1 0))
      AfterCall c (record { code = low_below W32 (get_or vs 0 0); access = tt }) o
  built_in_turn c Walk vs o = answers_turn (record c { events = _ }) 0 (omega arith) o
  built_in_turn c (AddVectored f) vs o = answers_turn
      (record c { store = record c.store { vectored = _ } })
      (of_test (can_be_added f c.store.vectored)) (test_small (can_be_added f c.store.vectored)) (
        o.0,
        record {
          locals = o.1.locals;
          pointer = o.1.pointer;
          handlers = adding_stays_proper (not (nat_eq (low W32 (get_or vs 0 0)) 0)) f
              c.store.vectored o.1.handlers;
        },
      )
  built_in_turn c (RemoveVectored f) vs o = answers_turn
      (record c { store = record c.store { vectored = _ } })
      (of_test (is_listed f c.store.vectored)) (test_small (is_listed f c.store.vectored)) (
        o.0,
        record {
          locals = o.1.locals;
          pointer = o.1.pointer;
          handlers = removing_stays_proper f c.store.vectored o.1.handlers;
        },
      )

  tested_turn : (c : Configuration) (slot : Slot) (label v : ℕ) → at_rest c
      → Turn HasSmallNumbers (λ next. pick (nat_eq v 0) (next (at_label label (tested slot c)))
      (next (forth (tested slot c))))
  tested_turn c (Local x) label v o = pick_turn HasSmallNumbers (nat_eq v 0)
      (λ next. next (at_label label c)) (λ next. next (forth c)) (λ e. goes _ (moved_to label c o))
      (λ e. goes _ (moved_to (c.frame.next + 1) c o))
  tested_turn c (Temporary i) label v o =
      let d = with_last (take i c.frame.temporaries) c in
      let p = with_fewer (take i c.frame.temporaries) c
      (all_taken i c.frame.temporaries o.0.0.temporaries) o in
      pick_turn HasSmallNumbers (nat_eq v 0) (λ next. next (at_label label d))
      (λ next. next (forth d)) (λ e. goes _ (moved_to label d p))
      (λ e. goes _ (moved_to (c.frame.next + 1) d p))

  module _ (c : Configuration) (o : at_rest c) where
    act_turn : (i : Instruction) → Turn HasSmallNumbers (λ next. act program i next c)
    act_turn (instructions.Compute to p first second) =
        some_turn HasSmallNumbers c.events (operand (is_constant p) c first) _ (λ a e.
        some_turn HasSmallNumbers c.events (operand (is_constant p) c second) _ (λ b g.
        computed_turn c to (performed (is_reserved program.globals) p a b c.store.memory)
        (outcome_small (is_reserved program.globals) p a b c.store.memory
        (operand_small (is_constant p) c first a e o)
        (operand_small (is_constant p) c second b g o) o.1.pointer)
        (outcome_keeps (is_reserved program.globals) p a b c.store.memory o.1.pointer) o))
    act_turn (instructions.Information to field) = written_turn c to
        (field_of field c.frame.exception) (field_small field c.frame.exception o.0.0.exception) o
    act_turn (instructions.Jump label) = goes _ (moved_to label c o)
    act_turn (instructions.JumpIfZero slot label) = some_turn HasSmallNumbers c.events (read c slot)
        _ (λ v e. tested_turn c slot label v o)
    act_turn (instructions.Call f first count) =
        some_turn HasSmallNumbers c.events (last_temporaries c.frame.temporaries first count) _
        (λ vs e.
        some_turn HasSmallNumbers c.events (slice_get program.functions f) _ (λ function g.
        deeper_turn HasSmallNumbers (depth_weight function) c.frame.held c.store c.events _
        (goes _ (
          (
            record { temporaries = tt; exception = none_small; landed = tt },
            (with_fewer (take first c.frame.temporaries) c
                (all_taken first c.frame.temporaries o.0.0.temporaries) o).0,
          ),
          record {
            locals = joined_small c.store.activations _ o.1.locals
                (all_joined vs _ (new_small _ (drop first c.frame.temporaries) vs e
                (all_dropped first c.frame.temporaries o.0.0.temporaries))
                (zeros (function.body.locals - function.parameters)));
            pointer = o.1.pointer;
            handlers = o.1.handlers;
          },
        ))))
    act_turn (instructions.CallBuiltIn k first) =
        some_turn HasSmallNumbers c.events (last_temporaries c.frame.temporaries first (count_of k))
        _ (λ vs e.
        built_in_turn (waiting c first) k vs (with_fewer (take first c.frame.temporaries) c
        (all_taken first c.frame.temporaries o.0.0.temporaries) o))
    act_turn (instructions.CallFinally k) = block_turn k c.frame.held false (Waits c.frame
        ∷ c.below) c o.0 o.1
    act_turn (instructions.LocalUnwind label) = unwind_turn
        (record { depth = length c.below; label = label; code = None; held = c.frame.held })
        (Waits c.frame ∷ c.below) None c.events c.store tt o
    act_turn (instructions.Landing to) =
        some_turn HasSmallNumbers c.events c.frame.landed
        (λ next code. written (not_landed c) to code next) (λ code e.
        written_turn (not_landed c) to code (code_small c.frame.landed code e o.0.0.landed) (
          (
            record { temporaries = o.0.0.temporaries; exception = o.0.0.exception; landed = tt },
            o.0.1,
          ),
          o.1,
        ))
      where
        code_small : (l : Option ℕ) (code : ℕ) → l ≡ Some code → IsSmallCode l → code < 2 ^ 64
        code_small None code e h = absurd (cc)
        code_small (Some x) code e h = let s = same_it x code e in omega arith
    act_turn instructions.Separator = goes _ (moved_to (c.frame.next + 1) (with_last [] c)
        (with_fewer [] c tt o))
    act_turn (instructions.Return from) = some_turn HasSmallNumbers c.events (read c from) _
        (λ v e. end_turn c.frame.body v c (read_small c from v e o) o)

  pub stays_small : (c d : Configuration) → IsTurn program c d → HasSmallNumbers c
      → HasSmallNumbers d
  stays_small c d r p = kept HasSmallNumbers (λ next. act program r.instruction next c) d
      (act_turn c (
        p.items,
        record { locals = p.locals; pointer = p.pointer; handlers = p.handlers },
      ) r.instruction) r.goes

  arguments_small : (b : Bool) (arg : ℤ) → AreSmall (if b then [] else wrapped W64 arg ∷ [])
  arguments_small true arg = tt
  arguments_small false arg = (wrapped_below W64 arg, tt)

  starts_small : (arg : ℤ) (main : LinearFunction) → HasSmallNumbers (start program arg main)
  starts_small arg main = record {
    items = (record { temporaries = tt; exception = none_small; landed = tt }, tt);
    locals = (
      all_joined (main_arguments main.parameters arg) _
          (arguments_small (nat_eq main.parameters 0) arg)
          (zeros (main.body.locals - main.parameters)),
      tt,
    );
    pointer = first_small program.globals;
    handlers = record { once = tt; few = omega arith };
  }

  pub reached_small : (c : Configuration) → IsReached program c → HasSmallNumbers c
  reached_small c r = kept_by_all HasSmallNumbers program stays_small r.turns
      (start program r.argument r.main) c r.comes (starts_small r.argument r.main)
