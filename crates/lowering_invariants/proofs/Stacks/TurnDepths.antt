-- Each turn keeps as many temporaries held as the places say.
use Rattle.std.proofs.Common.{◌≡◌, inl, ℕ, ◌+◌, ◌^◌, List, [], ◌∷◌, ◌++◌, length, refl, sym, ap, subst, ◌∙◌, arith, length-append}
use Rattle.std.proofs.lemmas.Bool.{eqb-true, eqb-false}
use Rattle.std.proofs.lemmas.List.{length-take-le}
use Rattle.std.proofs.lemmas.Option.{slice_get_within}
use Rattle.std.specs.Prelude.{Bool, true, false, nat_eq, nat_lt, slice_get, take, get_or, Option, Some, None}
use Rattle.lowering_invariants.specs.Words.{Event, W32, low, signed, BuiltIn, Put, Protect, RaiseException, Walk, AddVectored, RemoveVectored, Operation, OperationResult, Gives, Raises, Undefined, performed, Exception, is_reserved, field_of, raised, noncontinuable, raise_event, Slot, Local, Temporary, Instruction, Region, RegionKind, FuncletKind, LinearProgram, LinearBody, BodyName, FunctionBody, FuncletBody, body_of, Frame, Handler, Target, Resumption, AfterCall, SameOperation, FilterOf, VectoredAt, Item, Waits, Searches, Unwinds, Store, Configuration, Seen, Finished, Stuck, Next, pick, read, write, with_temporary, with_temporaries, last_temporaries, set_local, at_label, forth, with_last, regions_at, regions_left, handlers, stops, flag_of, run_finally, arrive, target_past, left_store, leave_region, unwind_body, unwind, target_of, accept, consult, search, ask_at, ask_from, raise, resumed, continued, answer, is_constant, operand, written, computed, tested, count_of, built_in, return, end_finally, end_funclet, end_body, not_landed, act, instruction_in, instruction_at, start, IsTurn, IsReached, IsWhole, MayWait, IsHandler, LandsAt, IsTarget, IsAbove, IsRaisedIn, AreHandlers, AreWaiting, IsStacked, IsAt, IsCalledBy, IsRunFor, with_written, after, taken, depth, WaitsDeep, AreDeep, HasDepths}
use Rattle.seh_num.specs.declared.event.Event.TheVariants as events
use Rattle.source_meaning.specs.declared.ended.Ended.TheVariants as ends
use Rattle.linear_code.specs.Program.{depth_weight}
use Rattle.linear_code.specs.declared.instruction.Instruction.TheVariants as instructions
use Rattle.linear_code.specs.declared.program.RegionKind.TheVariants as kinds
use Rattle.linear_code.specs.declared.program.FuncletKind.TheVariants as funclets
use Rattle.lowering_invariants.proofs.Lemmas.{both_left}
use Rattle.lowering_invariants.proofs.Ready.{last_are, some_temporaries}
use Rattle.lowering_invariants.proofs.Moves.{Turn, Halts, Moves, pick_turn, some_turn, deeper_turn, kept, kept_by_all}
use Rattle.lowering_invariants.proofs.Scans.{Leads}
use Rattle.lowering_invariants.proofs.Places.DepthStatements.{BodyLeads}
use Rattle.lowering_invariants.proofs.Stacks.TurnStack as stacked
use Rattle.lowering_invariants.proofs.Stacks.StackTargets as waiting
use Rattle.lowering_invariants.proofs.Stacks.StackTargets.{same_it, handlers_are, aimed, here, further}
use Rattle.lowering_invariants.proofs.Stacks.TurnStack.{waits, stays_stacked, starts_stacked}
use Rattle.lowering_invariants.proofs.Places.DepthPlaces.{starts_in, next_in, leads_in, written_length}

module _ (program : LinearProgram) (whole : IsWhole program)
    (leads : (name : BodyName) (b : LinearBody) → body_of program name ≡ Some b → BodyLeads b) where
  abbrev Ok : Configuration → Type 0
  Ok c = HasDepths program c

  abbrev Items : List Item → Type 0
  Items items = AreWaiting program items

  abbrev Deep : List Item → Type 0
  Deep items = AreDeep program items

  next_depth : (name : BodyName) (label : ℕ) (i : Instruction) → instruction_in
      (body_of program name) label ≡ Some i
      → depth program name (label + 1) ≡ after i (depth program name label)
  next_depth name label i e = next_in (body_of program name) label i e

  leads_to : (name : BodyName) (label : ℕ) (i : Instruction) → instruction_in (body_of program name)
      label ≡ Some i
      → Leads (depth program name) (depth program name label) i
  leads_to name label i e = leads_in (body_of program name) label i (leads name) e

  -- a body that waits at an instruction that has taken nothing
  held_all : (f : Frame) (i : Instruction) → IsAt program f i → taken (Some i) ≡ 0
      → WaitsDeep program f → length f.temporaries ≡ depth program f.body f.next
  held_all f i e t d = let n = ap taken e ∙ t in omega arith

  stuck : (es : List Event) → Turn Ok (λ next. Stuck es)
  stuck es = Halts (Stuck es) (λ next. refl)

  -- ---- unwinding

  arrive_turn : (code : Option ℕ) (t : Target) (c : Configuration)
      → LandsAt program c.frame code t.label → WaitsDeep program c.frame → Deep c.below
      → Turn Ok (λ next. arrive t code next c)
  arrive_turn None t c l d w =
      Moves _ (record {
        held = held_all c.frame (instructions.LocalUnwind t.label) l refl d
            ∙ sym (leads_to c.frame.body c.frame.next (instructions.LocalUnwind t.label) l);
        below = w;
      }) (λ next. refl)
  arrive_turn (Some code) t c l d w = Moves _
      (record {
        held = sym (leads_to c.frame.body t.label (instructions.Landing (Local l.0)) l.1);
        below = w;
      }) (λ next. refl)

  block_turn : (k held : ℕ) (abnormal : Bool) (items : List Item) (c : Configuration) → Deep items
      → Turn Ok (λ next. run_finally program k abnormal held items next c)
  block_turn k held abnormal items c w =
      some_turn Ok c.events (flag_of (slice_get program.funclets k)) _ (λ flag e.
      deeper_turn Ok 2 held c.store c.events _
      (Moves _ (record { held = sym (starts_in (body_of program (FuncletBody k))); below = w })
      (λ next. refl)))

  leave_turn : (k : RegionKind) (t : Target) (rest : List Region) (on : Next → Seen)
      (c : Configuration) → Deep (Waits c.frame ∷ c.below) → Turn Ok on
      → Turn Ok (λ next. leave_region program next t k rest (on next) c)
  leave_turn (kinds.Finally j) t rest on c w o = block_turn j t.held true
      (Unwinds rest t ∷ Waits c.frame ∷ c.below) c w
  leave_turn (kinds.Filter j l) t rest on c w o = o
  leave_turn (kinds.Always l) t rest on c w o = o

  body_turn : (t : Target) (out : Next → Store → Seen) (rs : List Region) (c : Configuration)
      → IsTarget program t (Waits c.frame ∷ c.below) → Deep (Waits c.frame ∷ c.below)
      → (IsTarget program t c.below → (store : Store) → Turn Ok (λ next. out next store))
      → Turn Ok (λ next. unwind_body program next t (out next) rs c)
  body_turn t out [] c p w o =
      pick_turn Ok (nat_eq t.depth (length c.below)) (λ next. arrive t t.code next c)
      (λ next. out next (left_store c.frame.body c.frame.activation c.store))
      (λ e. arrive_turn t.code t c (here program whole.bodies t c.frame c.below p
      (eqb-true t.depth (length c.below) e)) w.0 w.1)
      (λ e. o (further program whole.bodies t c.frame c.below p
      (eqb-false t.depth (length c.below) e))
      (left_store c.frame.body c.frame.activation c.store))
  body_turn t out (x ∷ rs) c p w o =
      pick_turn Ok (stops t x (length c.below)) (λ next. arrive t t.code next c)
      (λ next. leave_region program next t x.kind rs (unwind_body program next t (out next) rs c)
      c)
      (λ e. arrive_turn t.code t c (here program whole.bodies t c.frame c.below p
      (eqb-true t.depth (length c.below) (both_left _ _ e))) w.0 w.1)
      (λ e. leave_turn x.kind t rs (λ next. unwind_body program next t (out next) rs c) c w
      (body_turn t out rs c p w o))

  unwind_turn : (t : Target) (items : List Item) (left : Option (List Region)) (es : List Event)
      (store : Store) → IsTarget program t items → Deep items → Turn Ok
      (λ next. unwind program next t items left es store)
  unwind_turn t [] left es store p w = absurd p
  unwind_turn t (Waits f ∷ below) left es store p w =
      body_turn t (λ next store. unwind program next (target_past f.body t) below None es store)
      (regions_left left (regions_at program f.body f.next))
      (record { frame = f; below = below; store = store; events = es }) p w
      (λ q store. unwind_turn (target_past f.body t) below None es store
      (waiting.past_target program whole.bodies f.body t below q) w.1)
  unwind_turn t (Searches exception resumption asked ∷ below) left es store p w = unwind_turn t
      below None es store p w
  unwind_turn t (Unwinds rest older ∷ below) left es store p w = unwind_turn t below (Some rest) es
      store p w

  -- ---- searching

  accept_turn : (h : Handler) (exception : Exception) (c : Configuration)
      → IsHandler program h (Waits c.frame ∷ c.below) → Deep (Waits c.frame ∷ c.below)
      → Turn Ok (λ next. accept program h exception next c)
  accept_turn h exception c p w = unwind_turn (target_of h exception.code c.frame.held)
      (Waits c.frame ∷ c.below) None c.events c.store
      (aimed program whole.bodies h exception.code c.frame.held (Waits c.frame ∷ c.below) p) w

  consult_turn : (o : Option ℕ) (h : Handler) (rest : List Handler) (exception : Exception)
      (resumption : Resumption) (c : Configuration) → IsHandler program h (Waits c.frame ∷ c.below)
      → Deep (Waits c.frame ∷ c.below) → Turn Ok
      (λ next. consult program o h rest exception resumption next c)
  consult_turn None h rest exception resumption c p w = accept_turn h exception c p w
  consult_turn (Some k) h rest exception resumption c p w =
      deeper_turn Ok 2 c.frame.held c.store c.events _
      (Moves _ (record { held = sym (starts_in (body_of program (FuncletBody k))); below = w })
      (λ next. refl))

  search_turn : (found : List Handler) (exception : Exception) (resumption : Resumption)
      (c : Configuration) → AreHandlers program found (Waits c.frame ∷ c.below) → Deep
      (Waits c.frame ∷ c.below) → Turn Ok
      (λ next. search program next found exception resumption c)
  search_turn [] exception resumption c p w = Halts
      (Finished (ends.Unhandled (record { 0 = exception.code })) c.events) (λ next. refl)
  search_turn (h ∷ rest) exception resumption c p w = consult_turn h.filter h rest exception
      resumption c p.0 w

  -- a vectored handler begins with no temporaries
  ask_turn : (o : Option ℕ) (place : ℕ) (exception : Exception) (resumption : Resumption)
      (c : Configuration) → Items (Waits c.frame ∷ c.below) → Deep (Waits c.frame ∷ c.below)
      → Turn Ok (λ next. ask_at program next o place exception resumption c)
  ask_turn None place exception resumption c s w =
      search_turn (handlers program (Waits c.frame ∷ c.below) None) exception resumption c
      (handlers_are program whole.bodies (Waits c.frame ∷ c.below) None tt s) w
  ask_turn (Some f) place exception resumption c s w =
      some_turn Ok c.events (slice_get program.functions f) _ (λ function e.
      deeper_turn Ok (2 + depth_weight function) c.frame.held c.store c.events _
      (Moves _ (record { held = sym (starts_in (body_of program (FunctionBody f))); below = w })
      (λ next. refl)))

  from_turn : (place : ℕ) (exception : Exception) (resumption : Resumption) (c : Configuration)
      → Items (Waits c.frame ∷ c.below) → Deep (Waits c.frame ∷ c.below)
      → Turn Ok (λ next. ask_from program next place exception resumption c)
  from_turn place exception resumption c s w =
      ask_turn (slice_get c.store.vectored place) place exception resumption c s w

  raise_turn : (exception : Exception) (resumption : Resumption) (c : Configuration)
      → Items (Waits c.frame ∷ c.below) → Deep (Waits c.frame ∷ c.below)
      → Turn Ok (λ next. raise program next exception resumption c)
  raise_turn exception resumption c s w = from_turn 0 exception resumption
      (record c { events = c.events ++ raise_event exception ∷ [] }) s w

  -- a caller has the result of its call
  with_result : (f : Frame) (i : Instruction) (first v : ℕ) → IsAt program f i
      → ((x : ℕ) → after i x ≡ first + 1) → length f.temporaries ≡ first
      → length (f.temporaries ++ v ∷ []) ≡ depth program f.body (f.next + 1)
  with_result f i first v e a n = length-append f.temporaries (v ∷ []) ∙ ap (λ k. k + 1) n
      ∙ sym (next_depth f.body f.next i e ∙ a (depth program f.body f.next))

  -- what a body that waits at a call holds
  held_at : (f : Frame) (i j : Instruction) → IsAt program f i → IsAt program f j
      → MayWait program i (length f.temporaries) → MayWait program j (length f.temporaries)
  held_at f i j e g m = subst (λ k. MayWait program k (length f.temporaries))
      (same_it i j (sym e ∙ g)) m

  called_back : (f : Frame) (below : List Item) (k first count v : ℕ) → Items (Waits f ∷ below)
      → IsAt program f (instructions.Call k first count)
      → length (f.temporaries ++ v ∷ []) ≡ depth program f.body (f.next + 1)
  called_back f below k first count v s e = with_result f (instructions.Call k first count) first v
      e (λ x. refl) (held_at f s.0.instruction (instructions.Call k first count) s.0.at e s.0.may)

  raised_back : (f : Frame) (below : List Item) (first v : ℕ) → Items (Waits f ∷ below)
      → IsAt program f (instructions.CallBuiltIn RaiseException first)
      → length (f.temporaries ++ v ∷ []) ≡ depth program f.body (f.next + 1)
  raised_back f below first v s e = with_result f (instructions.CallBuiltIn RaiseException first)
      first v e (λ x. refl) (held_at f s.0.instruction
      (instructions.CallBuiltIn RaiseException first) s.0.at e s.0.may)

  resumed_turn : (resumption : Resumption) (c : Configuration)
      → IsRaisedIn program resumption (Waits c.frame ∷ c.below) → Items (Waits c.frame ∷ c.below)
      → Deep (Waits c.frame ∷ c.below) → Turn Ok (λ next. next (resumed resumption c))
  resumed_turn AfterCall c r s w = Moves _ (record
      { held = raised_back c.frame c.below r.0 0 s r.1; below = w.1 }) (λ next. refl)
  resumed_turn SameOperation c r s w = Moves _
      (record {
        held = held_all c.frame (instructions.Compute r.to r.operation r.first r.second)
            r.at refl w.0;
        below = w.1;
      }) (λ next. refl)

  continued_turn : (exception : Exception) (resumption : Resumption) (c : Configuration)
      → IsRaisedIn program resumption (Waits c.frame ∷ c.below) → Items (Waits c.frame ∷ c.below)
      → Deep (Waits c.frame ∷ c.below)
      → Turn Ok (λ next. continued program next exception resumption c)
  continued_turn exception resumption c r s w =
      pick_turn Ok exception.flag (λ next. raise program next noncontinuable resumption c)
      (λ next. next (resumed resumption c)) (λ e. raise_turn noncontinuable resumption c s w)
      (λ e. resumed_turn resumption c r s w)

  answer_turn : (v : ℕ) (items : List Item) (es : List Event) (store : Store) → Items items
      → Deep items → Turn Ok (λ next. answer program next v items es store)
  answer_turn v [] es store s w = stuck es
  answer_turn v (Waits f ∷ below) es store s w = stuck es
  answer_turn v (Unwinds rest t ∷ below) es store s w = stuck es
  answer_turn v (Searches exception resumption (VectoredAt place) ∷ below) es store s w = stuck es
  answer_turn v (Searches exception resumption (FilterOf h rest) ∷ []) es store s w = stuck es
  answer_turn v (Searches exception resumption (FilterOf h rest) ∷ Searches e r a ∷ below) es store
      s w = stuck es
  answer_turn v (Searches exception resumption (FilterOf h rest) ∷ Unwinds s' t ∷ below) es store s
      w = stuck es
  answer_turn v (Searches exception resumption (FilterOf h rest) ∷ Waits f ∷ below) es store s w =
      let c : Configuration = record {
        frame = f;
        below = below;
        store = store;
        events = es ++ events.Answer (signed W32 v) ∷ [];
      } in
      pick_turn Ok (nat_eq (low W32 v) 0) (λ next. search program next rest exception resumption c)
      _ (λ e. search_turn rest exception resumption c s.0.1 w)
      (λ e. pick_turn Ok (nat_lt (low W32 v) (2 ^ 31)) (λ next. accept program h exception next c) _
      (λ e. accept_turn h exception c s.0.0 w)
      (λ e. continued_turn exception resumption c s.1 s.2 w))

  return_turn : (k v : ℕ) (items : List Item) (es : List Event) (store : Store)
      → IsCalledBy program k items → Items items → Deep items → Turn Ok
      (λ next. return program next v items es store)
  return_turn k v [] es store a s w = Halts (Finished (ends.Exit (signed W32 v)) es) (λ next. refl)
  return_turn k v (Waits f ∷ below) es store a s w = Moves _
      (record { held = called_back f below k a.0 a.1 v s a.2; below = w.1 }) (λ next. refl)
  return_turn k v (Searches exception resumption (FilterOf h rest) ∷ below) es store a s
      w = stuck es
  return_turn k v (Searches exception resumption (VectoredAt place) ∷ []) es store a s w = stuck es
  return_turn k v (Searches exception resumption (VectoredAt place) ∷ Searches e r i ∷ below) es
      store a s w = stuck es
  return_turn k v (Searches exception resumption (VectoredAt place) ∷ Unwinds s' t ∷ below) es store
      a s w = stuck es
  return_turn k v (Searches exception resumption (VectoredAt place) ∷ Waits f ∷ below) es store a s
      w =
      let c : Configuration = record { frame = f; below = below; store = store; events = es } in
      pick_turn Ok (nat_lt (low W32 v) (2 ^ 31))
      (λ next. ask_from program next (place + 1) exception resumption c) _
      (λ e. from_turn (place + 1) exception resumption c s.2 w)
      (λ e. continued_turn exception resumption c s.1 s.2 w)
  return_turn k v (Unwinds rest t ∷ below) es store a s w = stuck es

  finally_turn : (k : ℕ) (own : Exception) (activation : ℕ) (items : List Item) (es : List Event)
      (store : Store) → IsRunFor program k own activation items → Items items → Deep items
      → Turn Ok (λ next. end_finally program next items es store)
  finally_turn k own activation [] es store a s w = stuck es
  finally_turn k own activation (Searches exception resumption asked ∷ below) es store a s
      w = stuck es
  finally_turn k own activation (Waits f ∷ below) es store a s w =
      Moves _ (record {
        held = held_all f (instructions.CallFinally k) a.1 refl w.0
            ∙ sym (next_depth f.body f.next (instructions.CallFinally k) a.1);
        below = w.1;
      })
      (λ next. refl)
  finally_turn k own activation (Unwinds rest t ∷ []) es store a s w = stuck es
  finally_turn k own activation (Unwinds rest t ∷ Searches exception resumption asked ∷ below) es
      store a s w = stuck es
  finally_turn k own activation (Unwinds rest t ∷ Unwinds s' older ∷ below) es store a s
      w = stuck es
  finally_turn k own activation (Unwinds rest t ∷ Waits f ∷ below) es store a s w = unwind_turn t
      (Waits f ∷ below) (Some rest) es store s.1 w

  funclet_turn : (kind : FuncletKind) (k v : ℕ) (c : Configuration)
      → IsRunFor program k c.frame.exception c.frame.activation c.below → Items c.below
      → Deep c.below → Turn Ok (λ next. end_funclet program next kind v c)
  funclet_turn funclets.Filter k v c a s w = answer_turn v c.below c.events c.store s w
  funclet_turn (funclets.Finally flag) k v c a s w = finally_turn k c.frame.exception
      c.frame.activation c.below c.events c.store a s w

  end_turn : (name : BodyName) (v : ℕ) (c : Configuration)
      → IsAbove program c.frame.exception c.frame.activation name c.below → Items c.below
      → Deep c.below → Turn Ok (λ next. end_body program next name v c)
  end_turn (FunctionBody f) v c a s w = return_turn f v c.below c.events
      (left_store c.frame.body c.frame.activation c.store) a s w
  end_turn (FuncletBody k) v c a s w = some_turn Ok c.events (slice_get program.funclets k)
      (λ next f. end_funclet program next f.kind v c) (λ f e. funclet_turn f.kind k v c a s w)

  -- ---- an instruction

  module _ (c : Configuration) (s : IsStacked program c) (h : Ok c) where
    abbrev here_depth : ℕ
    here_depth = depth program c.frame.body c.frame.next

    -- to a place of the same body
    to_turn : (d : Configuration) → d.frame.body ≡ c.frame.body → d.below ≡ c.below
        → length d.frame.temporaries ≡ depth program c.frame.body d.frame.next → Turn Ok
        (λ next. next d)
    to_turn d b w n = Moves d (record {
      held = n ∙ ap (λ name. depth program name d.frame.next) (sym b);
      below = subst Deep (sym w) h.below;
    })
        (λ next. refl)

    -- how many temporaries there are after a write
    write_depth : (b : Configuration) (to : Slot) (v : ℕ) (d : Configuration)
        → write b to v ≡ Some d → length b.frame.temporaries ≡ here_depth
        → length d.frame.temporaries ≡ with_written to here_depth
    write_depth b (Local x) v d e n = ap (λ (k : Configuration). length k.frame.temporaries)
        (sym (same_it (record b { store = set_local b.store b.frame.activation x v }) d e)) ∙ n
    write_depth b (Temporary i) v d e n =
        let ts = some_temporaries b (with_temporary b.frame.temporaries i v) d e in
        let g : Some (with_last ts.0 b) ≡ Some d = sym (ap (with_temporaries b) ts.1) ∙ e in
        ap (λ (k : Configuration). length k.frame.temporaries)
        (sym (same_it (with_last ts.0 b) d g)) ∙ written_length b.frame.temporaries i v ts.0 ts.1

    written_turn : (i : Instruction) → instruction_at program c ≡ Some i
        → (b : Configuration) (to : Slot) (v : ℕ) → ((x : ℕ) → after i x ≡ with_written to x)
        → b.frame.body ≡ c.frame.body → b.frame.next ≡ c.frame.next → b.below ≡ c.below
        → b.frame.temporaries ≡ c.frame.temporaries → Turn Ok (λ next. written b to v next)
    written_turn i at b to v a n l w t = some_turn Ok b.events (write b to v)
        (λ next d. next (forth d)) (λ d e.
        let k = stacked.write_keeps b to v d e in
        let r = write_depth b to v d e (ap length t ∙ h.held) in
        let p = write_next b to v d e in
        to_turn (forth d) (k.body ∙ n) (k.below ∙ w)
        (r ∙ sym (a here_depth) ∙ sym (next_depth c.frame.body c.frame.next i at)
        ∙ ap (λ m. depth program c.frame.body (m + 1)) (sym (p ∙ l))))
      where
        temporaries_next : (b : Configuration) (o : Option (List ℕ)) (d : Configuration)
            → with_temporaries b o ≡ Some d → d.frame.next ≡ b.frame.next
        temporaries_next b None d e = absurd (cc)
        temporaries_next b (Some ts) d e = ap (λ (k : Configuration). k.frame.next)
            (sym (same_it (with_last ts b) d e))

        write_next : (b : Configuration) (to : Slot) (v : ℕ) (d : Configuration)
            → write b to v ≡ Some d → d.frame.next ≡ b.frame.next
        write_next b (Local x) v d e = ap (λ (k : Configuration). k.frame.next)
            (sym (same_it (record b { store = set_local b.store b.frame.activation x v }) d e))
        write_next b (Temporary i) v d e = temporaries_next b
            (with_temporary b.frame.temporaries i v) d e

    -- this body as one that waits
    deep : (i : Instruction) → instruction_at program c ≡ Some i → (ts : List ℕ)
        → length ts + taken (Some i) ≡ length c.frame.temporaries → Deep
        (Waits (with_last ts c).frame ∷ c.below)
    deep i at ts n = (ap (λ k. length ts + k) (ap taken at) ∙ n ∙ h.held, h.below)

    plain_deep : (i : Instruction) → instruction_at program c ≡ Some i → taken (Some i) ≡ 0 → Deep
        (Waits c.frame ∷ c.below)
    plain_deep i at n = deep i at c.frame.temporaries (omega arith)

    computed_turn : (to : Slot) (o : Operation) (first second : Slot) (r : OperationResult)
        → instruction_at program c ≡ Some (instructions.Compute to o first second)
        → Turn Ok (λ next. computed program next to c r)
    computed_turn to o first second (Gives v memory) at = written_turn
        (instructions.Compute to o first second) at
        (record c { store = record c.store { memory = memory } }) to v (λ x. refl) refl refl refl
        refl
    computed_turn to o first second (Raises code access) at =
        let i = instructions.Compute to o first second in
        raise_turn (record { code = code.0; flag = false; access = access }) SameOperation c
        (waits program whole.bodies c s i at refl c.frame.temporaries tt) (plain_deep i at refl)
    computed_turn to o first second (Undefined a) at = Halts (Finished (ends.Undefined a) c.events)
        (λ next. refl)

    -- a built-in function is called with these temporaries before its arguments
    built_in_turn : (k : BuiltIn) (first : ℕ) (vs ts : List ℕ)
        → instruction_at program c ≡ Some (instructions.CallBuiltIn k first) → length ts ≡ first
        → length ts + count_of k ≡ length c.frame.temporaries → Turn Ok
        (λ next. built_in program next k vs (with_last ts c))
    built_in_turn Put first vs ts at n m = to_turn _ refl refl
        (with_result (with_last ts c).frame (instructions.CallBuiltIn Put first) first 0 at
        (λ x. refl) n)
    built_in_turn Protect first vs ts at n m = to_turn _ refl refl
        (with_result (with_last ts c).frame (instructions.CallBuiltIn Protect first) first _ at
        (λ x. refl) n)
    built_in_turn RaiseException first vs ts at n m =
        let i = instructions.CallBuiltIn RaiseException first in
        raise_turn (raised (get_or vs 0 0) (get_or vs 1 0)) AfterCall (with_last ts c)
        (waits program whole.bodies c s i at refl ts n) (deep i at ts m)
    built_in_turn Walk first vs ts at n m = to_turn _ refl refl
        (with_result (with_last ts c).frame (instructions.CallBuiltIn Walk first) first 0 at
        (λ x. refl) n)
    built_in_turn (AddVectored f) first vs ts at n m = to_turn _ refl refl
        (with_result (with_last ts c).frame (instructions.CallBuiltIn (AddVectored f) first) first _
        at (λ x. refl) n)
    built_in_turn (RemoveVectored f) first vs ts at n m = to_turn _ refl refl
        (with_result (with_last ts c).frame (instructions.CallBuiltIn (RemoveVectored f) first)
        first _ at (λ x. refl) n)

    tested_turn : (slot : Slot) (label v : ℕ)
        → instruction_at program c ≡ Some (instructions.JumpIfZero slot label) → read c slot ≡ Some
        v
        → Turn Ok (λ next. pick (nat_eq v 0) (next (at_label label (tested slot c)))
        (next (forth (tested slot c))))
    tested_turn (Local x) label v at r =
        let i = instructions.JumpIfZero (Local x) label in
        pick_turn Ok (nat_eq v 0) (λ next. next (at_label label c)) (λ next. next (forth c))
        (λ e. to_turn _ refl refl (h.held ∙ sym (leads_to c.frame.body c.frame.next i at)))
        (λ e. to_turn _ refl refl (h.held ∙ sym (next_depth c.frame.body c.frame.next i at)))
    tested_turn (Temporary j) label v at r =
        let i = instructions.JumpIfZero (Temporary j) label in
        let d = with_last (take j c.frame.temporaries) c in
        let lt = slice_get_within c.frame.temporaries j v r in
        let n = length-take-le j c.frame.temporaries (omega arith) in
        pick_turn Ok (nat_eq v 0) (λ next. next (at_label label d)) (λ next. next (forth d))
        (λ e. to_turn _ refl refl (n ∙ sym (leads_to c.frame.body c.frame.next i at)))
        (λ e. to_turn _ refl refl (n ∙ sym (next_depth c.frame.body c.frame.next i at)))

    -- the arguments are the last temporaries
    before : (first count : ℕ) (vs : List ℕ) → last_temporaries c.frame.temporaries first count
        ≡ Some vs → length (take first c.frame.temporaries) + count ≡ length c.frame.temporaries
    before first count vs e = let a = waiting.taken first count c.frame.temporaries vs e in
        let b = last_are c.frame.temporaries first count vs e in omega arith

    act_turn : (i : Instruction) → instruction_at program c ≡ Some i → Turn Ok
        (λ next. act program i next c)
    act_turn (instructions.Compute to o first second) at =
        some_turn Ok c.events (operand (is_constant o) c first) _ (λ a e.
        some_turn Ok c.events (operand (is_constant o) c second) _
        (λ b e. computed_turn to o first second
        (performed (is_reserved program.globals) o a b c.store.memory) at))
    act_turn (instructions.Information to field) at = written_turn
        (instructions.Information to field) at c to (field_of field c.frame.exception) (λ x. refl)
        refl refl refl refl
    act_turn (instructions.Jump label) at = to_turn _ refl refl
        (h.held ∙ sym (leads_to c.frame.body c.frame.next (instructions.Jump label) at))
    act_turn (instructions.JumpIfZero slot label) at = some_turn Ok c.events (read c slot) _
        (λ v e. tested_turn slot label v at e)
    act_turn (instructions.Call f first count) at =
        some_turn Ok c.events (last_temporaries c.frame.temporaries first count) _ (λ vs e.
        some_turn Ok c.events (slice_get program.functions f) _ (λ function g.
        deeper_turn Ok (depth_weight function) c.frame.held c.store c.events _ (Moves _ (record {
          held = sym (starts_in (body_of program (FunctionBody f)));
          below = deep (instructions.Call f first count) at (take first c.frame.temporaries)
              (before first count vs e);
        }) (λ next. refl))))
    act_turn (instructions.CallBuiltIn k first) at =
        some_turn Ok c.events (last_temporaries c.frame.temporaries first (count_of k)) _ (λ vs e.
        built_in_turn k first vs (take first c.frame.temporaries) at
        (waiting.taken first (count_of k) c.frame.temporaries vs e)
        (before first (count_of k) vs e))
    act_turn (instructions.CallFinally k) at = block_turn k c.frame.held false
        (Waits c.frame ∷ c.below) c (plain_deep (instructions.CallFinally k) at refl)
    act_turn (instructions.LocalUnwind label) at =
        unwind_turn (record {
          depth = length c.below;
          label = label;
          code = None;
          held = c.frame.held;
        }) (Waits c.frame ∷ c.below) None c.events c.store
        (inl (record { depth = refl; lands = at }))
        (plain_deep (instructions.LocalUnwind label) at refl)
    act_turn (instructions.Landing to) at =
        some_turn Ok c.events c.frame.landed (λ next code. written (not_landed c) to code next)
        (λ code e. written_turn (instructions.Landing to) at (not_landed c) to code (λ x. refl)
        refl refl refl refl)
    act_turn instructions.Separator at = to_turn _ refl refl
        (sym (next_depth c.frame.body c.frame.next instructions.Separator at))
    act_turn (instructions.Return from) at = some_turn Ok c.events (read c from) _
        (λ v e. end_turn c.frame.body v c s.above s.below h.below)

  abbrev Both : Configuration → Type 0
  Both c = IsStacked program c × HasDepths program c

  stays : (c d : Configuration) → IsTurn program c d → Both c → Both d
  stays c d r p = (
    stays_stacked program whole.bodies c d r p.0,
    kept Ok (λ next. act program r.instruction next c) d (act_turn c p.0 p.1 r.instruction r.at)
        r.goes,
  )

  pub reached_deep : (c : Configuration) → IsReached program c → HasDepths program c
  reached_deep c r =
      (kept_by_all Both program stays r.turns (start program r.argument r.main) c r.comes (
        starts_stacked program whole.bodies r.argument r.main,
        record {
          held = sym (starts_in (body_of program (FunctionBody program.main)));
          below = tt;
        },
      )).1
