-- Each turn leads to a body whose place tells no more than what has been set.
use Rattle.std.proofs.Common.{◌≡◌, inl, inr, ℕ, ◌+◌, ◌^◌, ◌<◌, ◌⊎◌, List, [], ◌∷◌, ◌++◌, length, refl, sym, ap, subst, ◌∙◌}
use Rattle.std.proofs.lemmas.Bool.{eqb-true, eqb-false}
use Rattle.std.specs.Prelude.{Bool, true, false, nat_eq, nat_lt, slice_get, drop, Option, Some, None}
use Rattle.lowering_locals.specs.Words.{Event, W32, low, signed, RaiseException, Exception, noncontinuable, raise_event, Instruction, Region, RegionKind, FuncletKind, LinearProgram, LinearBody, LinearFunction, BodyName, FunctionBody, FuncletBody, body_of, Frame, Handler, Target, Resumption, AfterCall, SameOperation, FilterOf, VectoredAt, Item, Waits, Searches, Unwinds, Store, Configuration, Seen, Finished, Stuck, Next, at_label, regions_at, regions_left, handlers, stops, flag_of, begin_finally, run_finally, arrive, target_past, left_store, leave_region, unwind_body, unwind, target_of, accept, consult, search, ask_at, ask_from, raise, resumed, continued, answer, return, end_finally, end_funclet, end_body, instruction_in, Marks, flag_set, activations_left, arguments_passed, begins_block, IsPart, with_flag, locals_at, FinallyBegins, Leads, Guards, IsSetMap, Marked, here, IsHandler, IsTarget, AreRegions, AreHandlers, AreKept, AreCovered, IsGiven, Before, Flag, Passed, IsStep, IsCovered, IsAt, IsAbove, IsCalledBy, IsRunFor, IsRaisedIn, AreWaiting, IsAskable, CanBeAsked, IsCallee}
use Rattle.seh_num.specs.declared.event.Event.TheVariants as events
use Rattle.source_meaning.specs.declared.ended.Ended.TheVariants as ends
use Rattle.linear_code.specs.declared.instruction.Instruction.TheVariants as instructions
use Rattle.linear_code.specs.declared.program.RegionKind.TheVariants as kinds
use Rattle.linear_code.specs.declared.program.FuncletKind.TheVariants as funclets
use Rattle.linear_code.specs.Program.{depth_weight}
use Rattle.lowering_follows.proofs.SoundExpressions.{both_left}
use Rattle.lowering_locals.proofs.Lemmas.{Turn, Halts, Moves, pick_turn, some_turn, deeper_turn, seen_cases, same_it, all_at, is_parameter}
use Rattle.lowering_locals.proofs.Events.{Adds, adds_one, block_events}
use Rattle.c_checked.specs.LocalScopes.{SeenNames as SeenLocals}
use Rattle.lowering_locals.proofs.HandlerSets.{Left, left_are, handlers_are, filter_marked, aimed, reached, further, past_target}

-- a raise is no beginning of a block
raise_is_no_block : (exception : Exception) → begins_block (raise_event exception ∷ []) ≡ false
raise_is_no_block exception = refl

module _ (program : LinearProgram) (sets : BodyName → ℕ → SeenLocals)
    (recorded : IsSetMap program sets) (marks : Marks) (j : Instruction) (begin : Configuration)
  where
    abbrev Ok : Configuration → Type 0
    Ok d = IsStep program sets marks j begin d

    abbrev Kept : List Item → Type 0
    Kept items = AreKept program sets items

    abbrev Covered : List Item → Type 0
    Covered items = AreCovered program sets marks items

    abbrev Since : List Event → Type 0
    Since es = Adds begin.events es

    -- to a place of a body that tells no more than the place where it waits
    pub to_turn : (d : Configuration) (f : Frame) → IsCovered program sets marks f
        → f.activation ≡ d.frame.activation → IsPart (sets d.frame.body d.frame.next)
        (here program sets f)
        → Kept d.below → Covered d.below → Turn Ok (λ next. next d)
    to_turn d f w a p k v = Moves d (record {
      running = λ x h. Before
          (subst (λ n. Marked marks n x) a (w x (p x h)));
      waiting = v;
      kept = k;
    }) (λ next. refl)

    -- what the instruction says that a body waits in
    pub leads : (f : Frame) (i : Instruction) → IsAt program f i → Leads program sets f.body f.next
        i
    leads f i at = of (body_of program f.body) refl at
      where
        of : (o : Option LinearBody) → body_of program f.body ≡ o → instruction_in o f.next ≡ Some i
            → Leads program sets f.body f.next i
        of None e at = absurd (cc)
        of (Some b) e at = (recorded.bodies f.body b e).code f.next i at

    -- ---- unwinding

    arrive_turn : (code : Option ℕ) (t : Target) (c : Configuration)
        → IsPart (sets c.frame.body t.label) (here program sets c.frame) → Kept c.below
        → Covered (Waits c.frame ∷ c.below) → Turn Ok (λ next. arrive t code next c)
    arrive_turn None t c p k w = to_turn (at_label t.label c) c.frame w.0 refl p k w.1
    arrive_turn (Some code) t c p k w = to_turn _ c.frame w.0 refl p k w.1

    -- a block begins with its flag
    block_given : (k flag : ℕ) (d : Configuration) (x : ℕ) → d.frame.body ≡ FuncletBody k
        → begins_block (drop (length begin.events) d.events) ≡ true
        → flag_of (slice_get program.funclets k) ≡ Some flag → x ≡ flag
        → IsGiven program sets marks j begin d x
    block_given k flag d x b s e g =
        let lt = recorded.flags k flag e in
        Flag (ap (λ t. flag_set program t d.frame.body) s ∙ ap (flag_set program true) b ∙ e
        ∙ ap Some (sym g)) (subst (λ name. x < locals_at program name) (sym b)
        (subst (λ y. y < locals_at program (FuncletBody k)) (sym g) lt))

    pub block_turn : (k held : ℕ) (abnormal : Bool) (items : List Item) (c : Configuration)
        → FinallyBegins program sets k (here program sets c.frame)
        → IsCovered program sets marks c.frame → Kept items → Covered items → Since c.events
        → Turn Ok (λ next. run_finally program k abnormal held items next c)
    block_turn k held abnormal items c g w kept' v s =
        some_turn Ok c.events (flag_of (slice_get program.funclets k)) _ (λ flag e.
        deeper_turn Ok 2 held c.store c.events _ (Moves _ (record {
          running = λ x h. given flag e x (seen_cases (here program sets c.frame) flag x
              (subst (λ o. with_flag o (here program sets c.frame) x ≡ true) e (g x h)));
          waiting = v;
          kept = kept';
        }) (λ next. refl)))
      where
        given : (flag : ℕ) → flag_of (slice_get program.funclets k) ≡ Some flag → (x : ℕ)
            → (x ≡ flag) ⊎ (here program sets c.frame x ≡ true)
            → IsGiven program sets marks j begin (begin_finally k flag abnormal held items c) x
        given flag e x (inl q) = block_given k flag (begin_finally k flag abnormal held items c) x
            refl (block_events begin.events c.events (k + 1) abnormal s) e q
        given flag e x (inr q) = Before (w x q)

    leave_turn : (r : RegionKind) (t : Target) (rest : List Region) (on : Next → Seen)
        (c : Configuration) → Guards program sets c.frame.body c.frame.next r
        → AreRegions program sets c.frame rest
        → IsTarget program sets t (Waits c.frame ∷ c.below) → Kept c.below
        → Covered (Waits c.frame ∷ c.below) → Since c.events → Turn Ok on
        → Turn Ok (λ next. leave_region program next t r rest (on next) c)
    leave_turn (kinds.Finally i) t rest on c g rs p k w s o = block_turn i t.held true
        (Unwinds rest t ∷ Waits c.frame ∷ c.below) c g w.0 (rs, p, k) w s
    leave_turn (kinds.Filter i l) t rest on c g rs p k w s o = o
    leave_turn (kinds.Always l) t rest on c g rs p k w s o = o

    body_turn : (t : Target) (out : Next → Store → Seen) (rs : List Region) (c : Configuration)
        → AreRegions program sets c.frame rs → IsTarget program sets t (Waits c.frame ∷ c.below)
        → Kept c.below → Covered (Waits c.frame ∷ c.below)
        → Since c.events → (IsTarget program sets t c.below → (store : Store)
        → Turn Ok (λ next. out next store)) → Turn Ok
        (λ next. unwind_body program next t (out next) rs c)
    body_turn t out [] c r p k w s o =
        pick_turn Ok (nat_eq t.depth (length c.below)) (λ next. arrive t t.code next c)
        (λ next. out next (left_store c.frame.body c.frame.activation c.store))
        (λ e. arrive_turn t.code t c (reached program sets recorded t c.frame c.below p
        (eqb-true t.depth (length c.below) e)) k w)
        (λ e. o (further program sets recorded t c.frame c.below p
        (eqb-false t.depth (length c.below) e))
        (left_store c.frame.body c.frame.activation c.store))
    body_turn t out (x ∷ rs) c r p k w s o =
        pick_turn Ok (stops t x (length c.below)) (λ next. arrive t t.code next c)
        (λ next. leave_region program next t x.kind rs (unwind_body program next t (out next) rs c)
        c)
        (λ e. arrive_turn t.code t c (reached program sets recorded t c.frame c.below p
        (eqb-true t.depth (length c.below) (both_left _ _ e))) k w)
        (λ e. leave_turn x.kind t rs (λ next. unwind_body program next t (out next) rs c) c r.0 r.1
        p
        k w s (body_turn t out rs c r.1 p k w s o))

    pub unwind_turn : (t : Target) (items : List Item) (left : Option (List Region))
        (es : List Event)
        (store : Store) → Left program sets recorded left items → IsTarget program sets t items
        → Kept items → Covered items → Since es
        → Turn Ok (λ next. unwind program next t items left es store)
    unwind_turn t [] left es store l p k w s = absurd p
    unwind_turn t (Waits f ∷ below) left es store l p k w s =
        body_turn t (λ next store. unwind program next (target_past f.body t) below None es store)
        (regions_left left (regions_at program f.body f.next))
        (record { frame = f; below = below; store = store; events = es })
        (left_are program sets recorded left f below l) p k w s
        (λ q store. unwind_turn (target_past f.body t) below None es store tt
        (past_target program sets recorded f.body t below q) k w.1 s)
    unwind_turn t (Searches exception resumption asked ∷ below) left es store l p k w s =
        unwind_turn t below None es store tt p k.1 w s
    unwind_turn t (Unwinds rest older ∷ below) left es store l p k w s = unwind_turn t below
        (Some rest) es store k.0 p k.2 w s

    -- ---- searching

    accept_turn : (h : Handler) (exception : Exception) (c : Configuration)
        → IsHandler program sets h (Waits c.frame ∷ c.below) → Kept c.below
        → Covered (Waits c.frame ∷ c.below) → Since c.events
        → Turn Ok (λ next. accept program h exception next c)
    accept_turn h exception c p k w s =
        unwind_turn (target_of h exception.code c.frame.held) (Waits c.frame ∷ c.below) None
        c.events
        c.store tt (aimed program sets recorded h exception.code c.frame.held
        (Waits c.frame ∷ c.below) p) k w s

    consult_turn : (o : Option ℕ) (h : Handler) (rest : List Handler) (exception : Exception)
        (resumption : Resumption) (c : Configuration) → h.filter ≡ o
        → AreHandlers program sets (h ∷ rest) (Waits c.frame ∷ c.below)
        → Kept c.below → Covered (Waits c.frame ∷ c.below) → Since c.events
        → Turn Ok (λ next. consult program o h rest exception resumption next c)
    consult_turn None h rest exception resumption c e p k w s = accept_turn h exception c p.0 k w s
    consult_turn (Some i) h rest exception resumption c e p k w s =
        deeper_turn Ok 2 c.frame.held c.store c.events _ (Moves _ (record {
          running = λ x q. Before (filter_marked program sets recorded marks h i
              (Waits c.frame ∷ c.below) e p.0 w x q);
          waiting = w;
          kept = (p, k);
        }) (λ next. refl))

    search_turn : (found : List Handler) (exception : Exception) (resumption : Resumption)
        (c : Configuration) → AreHandlers program sets found (Waits c.frame ∷ c.below) → Kept
        c.below
        → Covered (Waits c.frame ∷ c.below) → Since c.events
        → Turn Ok (λ next. search program next found exception resumption c)
    search_turn [] exception resumption c p k w s = Halts
        (Finished (ends.Unhandled (record { 0 = exception.code })) c.events) (λ next. refl)
    search_turn (h ∷ rest) exception resumption c p k w s = consult_turn h.filter h rest exception
        resumption c refl p k w s

    -- ---- vectored handlers

    -- where one may be asked, all activations that this instruction leaves live
    abbrev pub CanAsk : Store → Type 0
    CanAsk store = (length store.activations ≡ activations_left j begin)
        × (arguments_passed j ≡ 2) × CanBeAsked program store.vectored

    -- the arguments of a function that begins are its parameters
    pub few_passed : (f count : ℕ) (function : LinearFunction) → IsCallee program f count
        → slice_get program.functions f ≡ Some function → (x : ℕ)
        → sets (FunctionBody f) 0 x ≡ true → x < count
    few_passed f count function callee e x q =
        let takes = callee.takes ∙ ap (λ (h : LinearFunction). h.parameters)
        (same_it callee.function function (sym callee.there ∙ e)) in
        subst (λ n. x < n) (sym takes) (is_parameter function.parameters x
        (recorded.begins f function e x q))

    ask_turn : (o : Option ℕ) (place : ℕ) (exception : Exception) (resumption : Resumption)
        (c : Configuration) → ((f : ℕ) → o ≡ Some f → IsCallee program f 2)
        → Kept c.below → Covered (Waits c.frame ∷ c.below) → Since c.events → CanAsk c.store
        → Turn Ok (λ next. ask_at program next o place exception resumption c)
    ask_turn None place exception resumption c callee k w s a =
        search_turn (handlers program (Waits c.frame ∷ c.below) None) exception resumption c
        (handlers_are program sets recorded (Waits c.frame ∷ c.below) None tt k) k w s
    ask_turn (Some f) place exception resumption c callee k w s a =
        some_turn Ok c.events (slice_get program.functions f) _ (λ function e.
        deeper_turn Ok (2 + depth_weight function) c.frame.held c.store c.events _
        (Moves _ (record {
          running = λ x q. Passed f function refl e a.0 (subst (λ n. x < n) (sym a.1)
              (few_passed f 2 function (callee f refl) e x q));
          waiting = w;
          kept = (tt, k);
        }) (λ next. refl)))

    from_turn : (place : ℕ) (exception : Exception) (resumption : Resumption) (c : Configuration)
        → Kept c.below → Covered (Waits c.frame ∷ c.below) → Since c.events → CanAsk c.store
        → Turn Ok (λ next. ask_from program next place exception resumption c)
    from_turn place exception resumption c k w s a =
        ask_turn (slice_get c.store.vectored place) place exception resumption c
        (λ f e. (all_at (IsAskable program) c.store.vectored place f a.2 e).0.callee) k w s a

    pub raise_turn : (exception : Exception) (resumption : Resumption) (c : Configuration)
        → Kept c.below → Covered (Waits c.frame ∷ c.below) → Since c.events
        → CanAsk c.store → Turn Ok (λ next. raise program next exception resumption c)
    raise_turn exception resumption c k w s a =
        from_turn 0 exception resumption
        (record c { events = c.events ++ raise_event exception ∷ [] }) k w
        (adds_one begin.events c.events (raise_event exception) s (raise_is_no_block exception)) a

    resumed_turn : (resumption : Resumption) (c : Configuration)
        → IsRaisedIn program resumption (Waits c.frame ∷ c.below) → Kept c.below
        → Covered (Waits c.frame ∷ c.below) → Turn Ok (λ next. next (resumed resumption c))
    resumed_turn AfterCall c r k w = to_turn _ c.frame w.0 refl
        (leads c.frame (instructions.CallBuiltIn RaiseException r.0) r.1) k w.1
    resumed_turn SameOperation c r k w = to_turn c c.frame w.0 refl (λ x h. h) k w.1

    continued_turn : (exception : Exception) (resumption : Resumption) (c : Configuration)
        → IsRaisedIn program resumption (Waits c.frame ∷ c.below) → Kept c.below
        → Covered (Waits c.frame ∷ c.below) → Since c.events → CanAsk c.store
        → Turn Ok (λ next. continued program next exception resumption c)
    continued_turn exception resumption c r k w s a =
        pick_turn Ok exception.flag (λ next. raise program next noncontinuable resumption c)
        (λ next. next (resumed resumption c))
        (λ e. raise_turn noncontinuable resumption c k w s a)
        (λ e. resumed_turn resumption c r k w)

    -- ---- ends of bodies

    stuck : (es : List Event) → Turn Ok (λ next. Stuck es)
    stuck es = Halts (Stuck es) (λ next. refl)

    answer_turn : (v : ℕ) (items : List Item) (es : List Event) (store : Store)
        → AreWaiting program items → Kept items → Covered items → Since es → CanAsk store
        → Turn Ok (λ next. answer program next v items es store)
    answer_turn v [] es store a k w s asks = stuck es
    answer_turn v (Waits f ∷ below) es store a k w s asks = stuck es
    answer_turn v (Unwinds rest t ∷ below) es store a k w s asks = stuck es
    answer_turn v (Searches exception resumption (VectoredAt place) ∷ below) es store a k w s asks =
        stuck es
    answer_turn v (Searches exception resumption (FilterOf h rest) ∷ []) es store a k w s asks =
        stuck es
    answer_turn v (Searches exception resumption (FilterOf h rest) ∷ Searches e r i ∷ below) es
        store a k w s asks =
        stuck es
    answer_turn v (Searches exception resumption (FilterOf h rest) ∷ Unwinds s' t ∷ below) es store
        a k w s asks =
        stuck es
    answer_turn v (Searches exception resumption (FilterOf h rest) ∷ Waits f ∷ below) es store a k w
        s asks =
        let e = events.Answer (signed W32 v) in
        let c : Configuration = record {
          frame = f;
          below = below;
          store = store;
          events = es ++ e ∷ [];
        } in
        let s' = adds_one begin.events es e s refl in
        pick_turn Ok (nat_eq (low W32 v) 0)
        (λ next. search program next rest exception resumption c) _
        (λ e. search_turn rest exception resumption c k.0.1 k.1 w s')
        (λ e. pick_turn Ok (nat_lt (low W32 v) (2 ^ 31)) (λ next. accept program h exception next c)
        _
        (λ e. accept_turn h exception c k.0.0 k.1 w s')
        (λ e. continued_turn exception resumption c a.1 k.1 w s' asks))

    return_turn : (k v : ℕ) (items : List Item) (es : List Event) (store : Store)
        → IsCalledBy program k items → AreWaiting program items → Kept items → Covered items
        → Since es → CanAsk store → Turn Ok (λ next. return program next v items es store)
    return_turn k v [] es store a i h w s asks = Halts (Finished (ends.Exit (signed W32 v)) es)
        (λ next. refl)
    return_turn k v (Waits f ∷ below) es store a i h w s asks = to_turn _ f w.0 refl
        (leads f (instructions.Call k a.0 a.1) a.2) h w.1
    return_turn k v (Unwinds rest t ∷ below) es store a i h w s asks = stuck es
    return_turn k v (Searches exception resumption (FilterOf g rest) ∷ below) es store a i h w s
        asks =
        stuck es
    return_turn k v (Searches exception resumption (VectoredAt place) ∷ []) es store a i h w s
        asks =
        stuck es
    return_turn k v (Searches exception resumption (VectoredAt place) ∷ Searches e r g ∷ below) es
        store a i h w s asks =
        stuck es
    return_turn k v (Searches exception resumption (VectoredAt place) ∷ Unwinds s' t ∷ below) es
        store a i h w s asks =
        stuck es
    return_turn k v (Searches exception resumption (VectoredAt place) ∷ Waits f ∷ below) es store a
        i h w s asks =
        let c : Configuration = record { frame = f; below = below; store = store; events = es } in
        pick_turn Ok (nat_lt (low W32 v) (2 ^ 31))
        (λ next. ask_from program next (place + 1) exception resumption c) _
        (λ e. from_turn (place + 1) exception resumption c h.1 w s asks)
        (λ e. continued_turn exception resumption c i.1 h.1 w s asks)

    finally_turn : (k : ℕ) (own : Exception) (activation : ℕ) (items : List Item) (es : List Event)
        (store : Store) → IsRunFor program k own activation items → Kept items → Covered items
        → Since es → Turn Ok (λ next. end_finally program next items es store)
    finally_turn k own activation [] es store a h w s = stuck es
    finally_turn k own activation (Searches exception resumption asked ∷ below) es store a h w s =
        stuck es
    finally_turn k own activation (Waits f ∷ below) es store a h w s = to_turn _ f w.0 refl
        (leads f (instructions.CallFinally k) a.1).1 h w.1
    finally_turn k own activation (Unwinds rest t ∷ []) es store a h w s = stuck es
    finally_turn k own activation (Unwinds rest t ∷ Searches exception resumption asked ∷ below) es
        store a h w s =
        stuck es
    finally_turn k own activation (Unwinds rest t ∷ Unwinds s' older ∷ below) es store a h w s =
        stuck es
    finally_turn k own activation (Unwinds rest t ∷ Waits f ∷ below) es store a h w s = unwind_turn
        t
        (Waits f ∷ below) (Some rest) es store h.0 h.1 h.2 w s

    funclet_turn : (kind : FuncletKind) (k v : ℕ) (c : Configuration)
        → IsRunFor program k c.frame.exception c.frame.activation c.below → AreWaiting program
        c.below
        → Kept c.below → Covered c.below → Since c.events → CanAsk c.store
        → Turn Ok (λ next. end_funclet program next kind v c)
    funclet_turn funclets.Filter k v c a i h w s asks =
        answer_turn v c.below c.events c.store i h w s asks
    funclet_turn (funclets.Finally flag) k v c a i h w s asks = finally_turn k c.frame.exception
        c.frame.activation c.below c.events c.store a h w s

    pub end_turn : (name : BodyName) (v : ℕ) (c : Configuration)
        → IsAbove program c.frame.exception c.frame.activation name c.below
        → AreWaiting program c.below → Kept c.below → Covered c.below → Since c.events
        → CanAsk (left_store c.frame.body c.frame.activation c.store)
        → CanAsk (left_store name c.frame.activation c.store)
        → Turn Ok (λ next. end_body program next name v c)
    end_turn (FunctionBody f) v c a i h w s asks own = return_turn f v c.below c.events
        (left_store c.frame.body c.frame.activation c.store) a i h w s asks
    end_turn (FuncletBody k) v c a i h w s asks own =
        some_turn Ok c.events (slice_get program.funclets k)
        (λ next f. end_funclet program next f.kind v c)
        (λ f e. funclet_turn f.kind k v c a i h w s own)
