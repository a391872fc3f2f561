-- What raises, unwindings and ends of bodies lead to keeps what waits as it is meant to be.
use Rattle.std.proofs.Common.{◌≡◌, ℕ, ◌+◌, ◌^◌, List, [], ◌∷◌, ◌++◌, length, refl, sym, subst}
use Rattle.std.proofs.lemmas.Bool.{eqb-true, eqb-false}
use Rattle.std.specs.Prelude.{true, nat_eq, nat_lt, slice_get, Option, Some, None}
use Rattle.lowering_invariants.specs.Words.{Event, W32, signed, Exception, noncontinuable, raise_event, Region, RegionKind, FuncletKind, LinearProgram, BodyName, FunctionBody, FuncletBody, Handler, Target, Resumption, AfterCall, SameOperation, FilterOf, VectoredAt, Item, Waits, Searches, Unwinds, Store, Configuration, Seen, Finished, Stuck, Next, regions_at, regions_left, handlers, stops, flag_of, run_finally, arrive, target_past, left_store, leave_region, unwind_body, unwind, target_of, accept, consult, search, ask_at, ask_from, raise, resumed, continued, answer, return, end_finally, end_funclet, end_body, IsFinallyKind, IsFuncletOf, IsKindOf, IsCallee, IsAskable, AreBodies, IsHandler, LandsAt, IsTarget, IsRaisedIn, AreHandlers, AreWaiting, CanBeAsked, IsStacked, LandsWell}
use Rattle.seh_num.specs.declared.event.Event.TheVariants as events
use Rattle.seh_num.specs.Widths.{low as low_bits}
use Rattle.source_meaning.specs.declared.ended.Ended.TheVariants as ends
use Rattle.linear_code.specs.Program.{depth_weight}
use Rattle.linear_code.specs.declared.program.RegionKind.TheVariants as kinds
use Rattle.linear_code.specs.declared.program.FuncletKind.TheVariants as funclets
use Rattle.lowering_invariants.proofs.Lemmas.{both_left}
use Rattle.lowering_invariants.proofs.Moves.{Turn, Halts, Moves, pick_turn, some_turn, deeper_turn}
use Rattle.lowering_invariants.proofs.Stacks.StackTargets.{Regions, Left, left_are, handlers_are, aimed, here, further, past_target, all_at}

module _ (program : LinearProgram) (bodies : AreBodies program) where
  abbrev Ok : Configuration → Type 0
  Ok c = IsStacked program c

  abbrev Items : List Item → Type 0
  Items items = AreWaiting program items

  abbrev Askable : Store → Type 0
  Askable store = CanBeAsked program store.vectored

  -- what ends leaves the vectored handlers as they are
  pub left_askable : (name : BodyName) (activation : ℕ) (store : Store) → Askable store
      → Askable (left_store name activation store)
  left_askable (FunctionBody f) activation store a = a
  left_askable (FuncletBody k) activation store a = a

  -- ---- unwinding

  pub none_lands : (name : BodyName) (label : ℕ) (o : Option ℕ) → o ≡ None
      → LandsWell program name label o
  none_lands name label o e = subst (LandsWell program name label) (sym e) tt

  arrive_turn : (code : Option ℕ) (t : Target) (c : Configuration)
      → LandsAt program c.frame code t.label → Items (Waits c.frame ∷ c.below)
      → Askable c.store → Turn Ok (λ next. arrive t code next c)
  arrive_turn None t c l w a = Moves _ (record {
    above = w.1;
    below = w.2;
    landed = none_lands c.frame.body t.label c.frame.landed w.0.landed;
    handlers = a;
  }) (λ next. refl)
  arrive_turn (Some code) t c l w a =
      Moves _ (record { above = w.1; below = w.2; landed = l; handlers = a }) (λ next. refl)

  block_turn : (k : ℕ) (t : Target) (rest : List Region) (c : Configuration)
      → IsFuncletOf program c.frame.body IsFinallyKind k → Regions program bodies c.frame.body rest
      → Items (Waits c.frame ∷ c.below) → IsTarget program t (Waits c.frame ∷ c.below)
      → Askable c.store
      → Turn Ok (λ next. run_finally program k true t.held (Unwinds rest t ∷ Waits c.frame
      ∷ c.below) next c)
  block_turn k t rest c f r w p a =
      some_turn Ok c.events (flag_of (slice_get program.funclets k)) _ (λ flag e.
      deeper_turn Ok 2 t.held c.store c.events _
      (Moves _ (record {
        above = record { funclet = f; activation = refl };
        below = (r, p, w);
        landed = tt;
        handlers = a;
      }) (λ next. refl)))

  leave_turn : (k : RegionKind) (end : ℕ) (t : Target) (rest : List Region) (on : Next → Seen)
      (c : Configuration) → IsKindOf program c.frame.body end k
      → Regions program bodies c.frame.body rest
      → Items (Waits c.frame ∷ c.below) → IsTarget program t (Waits c.frame ∷ c.below)
      → Askable c.store → Turn Ok on
      → Turn Ok (λ next. leave_region program next t k rest (on next) c)
  leave_turn (kinds.Finally j) end t rest on c k r w p a o = block_turn j t rest c k r w p a
  leave_turn (kinds.Filter j l) end t rest on c k r w p a o = o
  leave_turn (kinds.Always l) end t rest on c k r w p a o = o

  body_turn : (t : Target) (out : Next → Store → Seen) (rs : List Region) (c : Configuration)
      → Regions program bodies c.frame.body rs → Items (Waits c.frame ∷ c.below)
      → IsTarget program t (Waits c.frame ∷ c.below) → Askable c.store
      → (IsTarget program t c.below → (store : Store) → Askable store
      → Turn Ok (λ next. out next store))
      → Turn Ok (λ next. unwind_body program next t (out next) rs c)
  body_turn t out [] c r w p a o =
      pick_turn Ok (nat_eq t.depth (length c.below)) (λ next. arrive t t.code next c)
      (λ next. out next (left_store c.frame.body c.frame.activation c.store))
      (λ e. arrive_turn t.code t c (here program bodies t c.frame c.below p
      (eqb-true t.depth (length c.below) e)) w a)
      (λ e. o (further program bodies t c.frame c.below p (eqb-false t.depth (length c.below) e))
      (left_store c.frame.body c.frame.activation c.store)
      (left_askable c.frame.body c.frame.activation c.store a))
  body_turn t out (x ∷ rs) c r w p a o =
      pick_turn Ok (stops t x (length c.below)) (λ next. arrive t t.code next c)
      (λ next. leave_region program next t x.kind rs (unwind_body program next t (out next) rs c)
      c)
      (λ e. arrive_turn t.code t c (here program bodies t c.frame c.below p
      (eqb-true t.depth (length c.below) (both_left _ _ e))) w a)
      (λ e. leave_turn x.kind x.end t rs (λ next. unwind_body program next t (out next) rs c) c
      r.0.kind r.1 w p a (body_turn t out rs c r.1 w p a o))

  pub unwind_turn : (t : Target) (items : List Item) (left : Option (List Region)) (es : List Event)
      (store : Store) → Left program bodies left items → Items items → IsTarget program t items
      → Askable store → Turn Ok (λ next. unwind program next t items left es store)
  unwind_turn t [] left es store l w p a = absurd p
  unwind_turn t (Waits f ∷ below) left es store l w p a =
      body_turn t (λ next store. unwind program next (target_past f.body t) below None es store)
      (regions_left left (regions_at program f.body f.next))
      (record { frame = f; below = below; store = store; events = es })
      (left_are program bodies left f below l)
      w p a
      (λ q store a. unwind_turn (target_past f.body t) below None es store tt w.2
      (past_target program bodies f.body t below q) a)
  unwind_turn t (Searches exception resumption asked ∷ below) left es store l w p a =
      unwind_turn t below None es store tt w.2 p a
  unwind_turn t (Unwinds rest older ∷ below) left es store l w p a =
      unwind_turn t below (Some rest) es store w.0 w.2 p a

  -- ---- searching

  accept_turn : (h : Handler) (exception : Exception) (c : Configuration)
      → IsHandler program h (Waits c.frame ∷ c.below) → Items (Waits c.frame ∷ c.below)
      → Askable c.store → Turn Ok (λ next. accept program h exception next c)
  accept_turn h exception c p w a = unwind_turn (target_of h exception.code c.frame.held)
      (Waits c.frame ∷ c.below) None c.events c.store tt w
      (aimed program bodies h exception.code c.frame.held (Waits c.frame ∷ c.below) p) a

  consult_turn : (o : Option ℕ) (h : Handler) (rest : List Handler) (exception : Exception)
      (resumption : Resumption) (c : Configuration) → h.filter ≡ o
      → AreHandlers program (h ∷ rest) (Waits c.frame ∷ c.below)
      → IsRaisedIn program resumption (Waits c.frame ∷ c.below) → Items (Waits c.frame ∷ c.below)
      → Askable c.store → Turn Ok (λ next. consult program o h rest exception resumption next c)
  consult_turn None h rest exception resumption c e p r w a = accept_turn h exception c p.0 w a
  consult_turn (Some k) h rest exception resumption c e p r w a =
      deeper_turn Ok 2 c.frame.held c.store c.events _
      (Moves _ (record {
        above = record { filter = e; exception = refl; activation = refl };
        below = (p, r, w);
        landed = tt;
        handlers = a;
      }) (λ next. refl))

  search_turn : (found : List Handler) (exception : Exception) (resumption : Resumption)
      (c : Configuration) → AreHandlers program found (Waits c.frame ∷ c.below)
      → IsRaisedIn program resumption (Waits c.frame ∷ c.below) → Items (Waits c.frame ∷ c.below)
      → Askable c.store → Turn Ok (λ next. search program next found exception resumption c)
  search_turn [] exception resumption c p r w a =
      Halts (Finished (ends.Unhandled (record { 0 = exception.code })) c.events) (λ next. refl)
  search_turn (h ∷ rest) exception resumption c p r w a =
      consult_turn h.filter h rest exception resumption c refl p r w a

  -- ---- vectored handlers

  ask_turn : (o : Option ℕ) (place : ℕ) (exception : Exception) (resumption : Resumption)
      (c : Configuration) → ((f : ℕ) → o ≡ Some f → IsCallee program f 2)
      → IsRaisedIn program resumption (Waits c.frame ∷ c.below) → Items (Waits c.frame ∷ c.below)
      → Askable c.store → Turn Ok (λ next. ask_at program next o place exception resumption c)
  ask_turn None place exception resumption c h r w a =
      search_turn (handlers program (Waits c.frame ∷ c.below) None) exception resumption c
      (handlers_are program bodies (Waits c.frame ∷ c.below) None tt w) r w a
  ask_turn (Some f) place exception resumption c h r w a =
      some_turn Ok c.events (slice_get program.functions f) _ (λ function e.
      deeper_turn Ok (2 + depth_weight function) c.frame.held c.store c.events _ (Moves _ (record {
        above = h f refl;
        below = (tt, r, w);
        landed = tt;
        handlers = a;
      }) (λ next. refl)))

  from_turn : (place : ℕ) (exception : Exception) (resumption : Resumption) (c : Configuration)
      → IsRaisedIn program resumption (Waits c.frame ∷ c.below) → Items (Waits c.frame ∷ c.below)
      → Askable c.store → Turn Ok (λ next. ask_from program next place exception resumption c)
  from_turn place exception resumption c r w a =
      ask_turn (slice_get c.store.vectored place) place exception resumption c
      (λ f e. (all_at (IsAskable program) c.store.vectored place f a e).0.callee) r w a

  pub raise_turn : (exception : Exception) (resumption : Resumption) (c : Configuration)
      → IsRaisedIn program resumption (Waits c.frame ∷ c.below) → Items (Waits c.frame ∷ c.below)
      → Askable c.store → Turn Ok (λ next. raise program next exception resumption c)
  raise_turn exception resumption c r w a = from_turn 0 exception resumption
      (record c { events = c.events ++ raise_event exception ∷ [] }) r w a

  -- a body that waited continues
  resumed_turn : (resumption : Resumption) (c : Configuration) → Items (Waits c.frame ∷ c.below)
      → Askable c.store → Turn Ok (λ next. next (resumed resumption c))
  resumed_turn AfterCall c w a = Moves _ (record {
    above = w.1;
    below = w.2;
    landed = none_lands c.frame.body (c.frame.next + 1) c.frame.landed w.0.landed;
    handlers = a;
  }) (λ next. refl)
  resumed_turn SameOperation c w a = Moves _ (record {
    above = w.1;
    below = w.2;
    landed = none_lands c.frame.body c.frame.next c.frame.landed w.0.landed;
    handlers = a;
  }) (λ next. refl)

  continued_turn : (exception : Exception) (resumption : Resumption) (c : Configuration)
      → IsRaisedIn program resumption (Waits c.frame ∷ c.below) → Items (Waits c.frame ∷ c.below)
      → Askable c.store → Turn Ok (λ next. continued program next exception resumption c)
  continued_turn exception resumption c r w a =
      pick_turn Ok exception.flag (λ next. raise program next noncontinuable resumption c)
      (λ next. next (resumed resumption c)) (λ e. raise_turn noncontinuable resumption c r w a)
      (λ e. resumed_turn resumption c w a)

  -- ---- ends of bodies

  answer_turn : (v : ℕ) (items : List Item) (es : List Event) (store : Store) → Items items
      → Askable store → Turn Ok (λ next. answer program next v items es store)
  answer_turn v [] es store w a = Halts (Stuck es) (λ next. refl)
  answer_turn v (Waits f ∷ below) es store w a = Halts (Stuck es) (λ next. refl)
  answer_turn v (Unwinds rest t ∷ below) es store w a = Halts (Stuck es) (λ next. refl)
  answer_turn v (Searches exception resumption (VectoredAt place) ∷ below) es store w a =
      Halts (Stuck es) (λ next. refl)
  answer_turn v (Searches exception resumption (FilterOf h rest) ∷ []) es store w a =
      Halts (Stuck es) (λ next. refl)
  answer_turn v (Searches exception resumption (FilterOf h rest) ∷ Searches e r s ∷ below) es store
      w a =
      Halts (Stuck es) (λ next. refl)
  answer_turn v (Searches exception resumption (FilterOf h rest) ∷ Unwinds s t ∷ below) es store w
      a =
      Halts (Stuck es) (λ next. refl)
  answer_turn v (Searches exception resumption (FilterOf h rest) ∷ Waits f ∷ below) es store w a =
      let c : Configuration = record {
        frame = f;
        below = below;
        store = store;
        events = es ++ events.Answer (signed W32 v) ∷ [];
      } in
      pick_turn Ok (nat_eq (low_bits W32 v) 0)
      (λ next. search program next rest exception resumption c) _
      (λ e. search_turn rest exception resumption c w.0.1 w.1 w.2 a)
      (λ e. pick_turn Ok (nat_lt (low_bits W32 v) (2 ^ 31))
      (λ next. accept program h exception next c) _ (λ e. accept_turn h exception c w.0.0 w.2 a)
      (λ e. continued_turn exception resumption c w.1 w.2 a))

  return_turn : (v : ℕ) (items : List Item) (es : List Event) (store : Store) → Items items
      → Askable store → Turn Ok (λ next. return program next v items es store)
  return_turn v [] es store w a = Halts (Finished (ends.Exit (signed W32 v)) es) (λ next. refl)
  return_turn v (Waits f ∷ below) es store w a = Moves _ (record {
    above = w.1;
    below = w.2;
    landed = none_lands f.body (f.next + 1) f.landed w.0.landed;
    handlers = a;
  }) (λ next. refl)
  return_turn v (Unwinds rest t ∷ below) es store w a = Halts (Stuck es) (λ next. refl)
  return_turn v (Searches exception resumption (FilterOf h rest) ∷ below) es store w a =
      Halts (Stuck es) (λ next. refl)
  return_turn v (Searches exception resumption (VectoredAt place) ∷ []) es store w a =
      Halts (Stuck es) (λ next. refl)
  return_turn v (Searches exception resumption (VectoredAt place) ∷ Searches e r s ∷ below) es store
      w a =
      Halts (Stuck es) (λ next. refl)
  return_turn v (Searches exception resumption (VectoredAt place) ∷ Unwinds s t ∷ below) es store w
      a =
      Halts (Stuck es) (λ next. refl)
  return_turn v (Searches exception resumption (VectoredAt place) ∷ Waits f ∷ below) es store w a =
      let c : Configuration = record { frame = f; below = below; store = store; events = es } in
      pick_turn Ok (nat_lt (low_bits W32 v) (2 ^ 31))
      (λ next. ask_from program next (place + 1) exception resumption c) _
      (λ e. from_turn (place + 1) exception resumption c w.1 w.2 a)
      (λ e. continued_turn exception resumption c w.1 w.2 a)

  finally_turn : (items : List Item) (es : List Event) (store : Store) → Items items
      → Askable store → Turn Ok (λ next. end_finally program next items es store)
  finally_turn [] es store w a = Halts (Stuck es) (λ next. refl)
  finally_turn (Searches exception resumption asked ∷ below) es store w a =
      Halts (Stuck es) (λ next. refl)
  finally_turn (Waits f ∷ below) es store w a = Moves _ (record {
    above = w.1;
    below = w.2;
    landed = none_lands f.body (f.next + 1) f.landed w.0.landed;
    handlers = a;
  }) (λ next. refl)
  finally_turn (Unwinds rest t ∷ []) es store w a = Halts (Stuck es) (λ next. refl)
  finally_turn (Unwinds rest t ∷ Searches exception resumption asked ∷ below) es store w a =
      Halts (Stuck es) (λ next. refl)
  finally_turn (Unwinds rest t ∷ Unwinds s older ∷ below) es store w a =
      Halts (Stuck es) (λ next. refl)
  finally_turn (Unwinds rest t ∷ Waits f ∷ below) es store w a =
      unwind_turn t (Waits f ∷ below) (Some rest) es store w.0 w.2 w.1 a

  funclet_turn : (kind : FuncletKind) (v : ℕ) (c : Configuration) → Items c.below
      → Askable c.store → Turn Ok (λ next. end_funclet program next kind v c)
  funclet_turn funclets.Filter v c w a = answer_turn v c.below c.events c.store w a
  funclet_turn (funclets.Finally flag) v c w a = finally_turn c.below c.events c.store w a

  pub end_turn : (name : BodyName) (v : ℕ) (c : Configuration) → Items c.below
      → Askable c.store → Turn Ok (λ next. end_body program next name v c)
  end_turn (FunctionBody f) v c w a = return_turn v c.below c.events
      (left_store c.frame.body c.frame.activation c.store) w
      (left_askable c.frame.body c.frame.activation c.store a)
  end_turn (FuncletBody k) v c w a = some_turn Ok c.events (slice_get program.funclets k)
      (λ next f. end_funclet program next f.kind v c) (λ f e. funclet_turn f.kind v c w a)
