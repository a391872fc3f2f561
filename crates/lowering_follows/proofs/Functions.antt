-- Calls: a function begins with its arguments, runs its body, and ends with its activation.
use Rattle.std.proofs.Common.{◌≡◌, ◌<◌, ◌≤◌, ℕ, zero, suc, ◌+◌, List, [], ◌∷◌, ◌++◌, length, refl, ap, sym, subst, ◌∙◌, arith, length-append}
use Rattle.std.proofs.lemmas.List.{length-replicate}
use Rattle.std.proofs.lemmas.Option.{slice_get_within}
use Rattle.std.specs.Prelude.{◌-◌, Bool, false, take, replicate, get_or, slice_get, Option, Some, None}
use Rattle.lowering_follows.specs.Words.{Filter, Always, Funclet, Program, Function, DataFrame, part_of, close_part, open_frame, body_start, State, Value, Normal, Returned, Target, Outcome, Gives, Context, Handler, no_exception, all, ended_call, enter, within, Temporary, LinearProgram, LinearFunction, FunctionBody, Item, Store, with_some, deeper, target_past, unwind, target_of, begin_function, exec, Names, LoweringContext, statements_size, statements_notes, own_locals, asking, scope_of, statements_weight, HasAt, FunctionPlaced, with_activation, with_outermost, hold_surplus, let_go_surplus, count_steps, surplus}
use Rattle.linear_code.specs.Program.{depth_weight}
use Rattle.source_meaning.specs.State.{counting}
use Rattle.linear_code.specs.declared.instruction.Instruction.TheVariants as instructions
use Rattle.linear_machine.specs.Frames as machine
use Rattle.lowering_follows.proofs.Lemmas.{Part, at, Site, conf, Picked, Ways, price, found, Arrives, Claim, value_ways, more, attains_out, reaches_after, stepped, first, fetch, sooner, deep_claim, prefix_self, handlers_below, leaves, asking_within}
use Rattle.linear_machine.proofs.Stretch.{Kept, To}
use Rattle.lowering_follows.proofs.Stores.{at_push_old, Shape, FrameAlike, Places, NotesKept, everywhere, below_slot, kept_itself, kept_through, get_push_new, get_pushed, push_alike, take_alike, call_kept, push_functions, push_inwards, take_functions}
use Rattle.lowering_follows.proofs.Environments.{FlagBound, HowFits, Match, match_kept}
use Rattle.lowering_follows.proofs.TaskClaims.{Within, Around, ReturnsTo}
use Rattle.lowering_follows.proofs.BodyClaims.{statement_ways, Stays, Surroundings, BodyRuns}
use Rattle.lowering_follows.proofs.BodySequences.{all_runs}
use Rattle.lowering_follows.proofs.Beginnings.{separators_then, separators_claim, passed_claim}
use Rattle.lowering_follows.proofs.StackPointers.{base_of}
use Rattle.lowering_follows.proofs.Openings.{opened_claim}
use Rattle.lowering_follows.proofs.Closings.{closed_stays, closes, ended_ways, last_of, last_has}

-- ---- the locals of an activation that begins

abbrev zeros : ℕ → List ℕ
zeros n = replicate n 0

get_zeros : (n x : ℕ) → get_or (zeros n) x 0 ≡ 0
get_zeros zero x = refl
get_zeros (suc n) zero = refl
get_zeros (suc n) (suc x) = get_zeros n x

get_before_zeros : (vs : List ℕ) (n x : ℕ) → get_or (vs ++ zeros n) x 0 ≡ get_or vs x 0
get_before_zeros [] n x = get_zeros n x
get_before_zeros (v ∷ vs) n zero = refl
get_before_zeros (v ∷ vs) n (suc x) = get_before_zeros vs n x

pub begins_alike : (function parameters locals slots : ℕ) (vs : List ℕ) → length vs ≡ parameters
    → parameters + locals ≤ slots
    → FrameAlike (record { function = function; own = parameters + locals; all = slots })
    (vs ++ zeros locals) (vs ++ zeros (slots - parameters))
begins_alike function parameters locals slots vs e le = record {
  own = length-append vs (zeros locals) ∙ omega (arith, e, length-replicate {A = ℕ} locals 0);
  all = length-append vs (zeros (slots - parameters))
      ∙ omega (arith, e, length-replicate {A = ℕ} (slots - parameters) 0);
  room = le;
  reads = λ x l. get_before_zeros vs (slots - parameters) x ∙ sym (get_before_zeros vs locals x);
}

module _ (program : Program) (linear : LinearProgram) (rate body : ℕ) where
  -- ---- the handlers of callers

  module _ (shapes : List Shape) (new : Shape) (store : Store) (locals : List ℕ)
      (same : length store.activations ≡ length shapes) where
    abbrev entered : Store
    entered = record store { activations = store.activations ++ locals ∷ [] }

    abbrev mine : Places
    mine = below_slot (length shapes) new.own

    flag_pushed : (z : Shape) (source : Option ℕ) (activation : ℕ) (flag : Bool)
        → slice_get shapes activation ≡ Some z → FlagBound everywhere z source activation flag store
        → FlagBound mine z source activation flag entered
    flag_pushed z None activation flag h f = f
    flag_pushed z (Some x) activation flag h f =
        let low = slice_get_within shapes activation z h in
        let inside : activation < length store.activations = omega (arith, same) in (
          f.0,
          λ e. absurd (omega arith),
          ap (λ b. get_or b x 0)
              (at_push_old store.activations locals activation inside) ∙ f.2,
        )

    how_pushed : (activation : ℕ) (abnormal : Bool) (filter : Filter) (how : Option ℕ)
        → HowFits program linear rate body everywhere shapes store activation abnormal filter how
        → HowFits program linear rate body mine (shapes ++ new ∷ []) entered activation abnormal
        filter how
    how_pushed activation abnormal Always None h = h
    how_pushed activation abnormal Always (Some j) h = absurd h
    how_pushed activation abnormal (Funclet n e) None h = absurd h
    how_pushed activation abnormal (Funclet n e) (Some j) h = record {
      number = h.number;
      funclet = h.funclet;
      there = h.there;
      kind = h.kind;
      names = h.names;
      source = h.source;
      shape = h.shape;
      has_shape = get_pushed shapes new h.shape activation h.has_shape;
      flag = flag_pushed h.shape h.names.abnormal activation abnormal h.has_shape h.flag;
      code = h.code;
      fits = h.fits;
      light = h.light;
    }

    match_pushed : (hs : List Handler) (fs : List machine.Handler)
        → Match program linear rate body everywhere shapes store hs fs
        → Match program linear rate body mine (shapes ++ new ∷ []) entered hs fs
    match_pushed [] [] m = m
    match_pushed (h ∷ hs) (f ∷ fs) m = (
      (
        m.0.0,
        how_pushed h.activation h.abnormal h.filter f.filter m.0.1,
      ),
      match_pushed hs fs m.1,
    )
    match_pushed [] (f ∷ fs) m = absurd m
    match_pushed (h ∷ hs) [] m = absurd m

  -- ---- the end of a call

  module _ (k : ℕ) (lf : LinearFunction) (scope : LoweringContext) (new : Shape)
      (shapes : List Shape) (context : Context) (site : Site) (base : Store) (pc : ℕ)
      (temps : List ℕ) (below : List Item) (held_below : ℕ) (part : ℕ → State → Store → Part)
      (m extra : ℕ) (frame : Option DataFrame) (store : Store) (locals : List ℕ)
      (same_extra : lf.surplus + lf.data_surplus ≡ extra) (same_m : m ≡ length shapes)
      (same : length store.activations ≡ length shapes)
      (to : ReturnsTo program linear rate body below context site pc temps part)
      (kept : NotesKept everywhere shapes base store) where
    abbrev callee : Context
    callee = record {
      handlers = context.handlers;
      activation = m;
      data_part = part_of frame;
      exception = no_exception;
      abnormal = false;
    }

    abbrev csite : Site
    csite = record {
      body = FunctionBody k;
      regions = [];
      below = below;
      exception = no_exception;
      held = held_below + (lf.surplus + lf.data_surplus);
    }

    abbrev ways : Ways
    ways = record (value_ways part (Within program linear rate body shapes base) context site)
        { held = held_below }

    abbrev base' : Store
    base' = record store { activations = store.activations ++ locals ∷ [] }

    abbrev left : Store → Store
    left s = record s { activations = take m s.activations }

    abbrev ended : State → State
    ended st = with_outermost m (let_go_surplus extra st)

    abbrev Kc : Kept
    Kc = Stays program linear rate body scope.names (shapes ++ new ∷ []) callee base'

    -- the same where a target has left it
    abbrev left_by_target : State → State
    left_by_target st = with_outermost m (record st { held = st.held + 1 })

    call_fits : scope.names.free ≡ new.own → (mid : State) (after : Store) → Kc mid after
        → Within program linear rate body shapes base (ended mid) (left after)
    call_fits e mid after p =
        let whole : NotesKept everywhere shapes base' after = λ j z h x l o.
        let low = slice_get_within shapes j z h in
        p.1 j z (get_pushed shapes new z j h) x l (λ q. absurd (omega (arith, q, same_m))) in (
          take_alike shapes new mid.memory mid.frames after m same_m p.0,
          kept_through everywhere shapes base store (left after) kept
              (call_kept everywhere shapes new store after locals m same_m same whole),
          record {
            functions_are = take_functions shapes new mid.functions m same_m p.2.functions_are;
            same_handlers = p.2.same_handlers;
            are_called = p.2.are_called;
          },
        )

    last_turn : (v done : ℕ) (mid : State) (after : Store) (j : ℕ)
        → HasAt linear (FunctionBody k) [] done (instructions.Return (Temporary 0) ∷ [])
        → exec linear (suc j) (conf callee csite done (v ∷ []) mid after)
        ≡ part v (ended mid) (left after) (exec linear j)
    unfolding with_some
    last_turn v done mid after j has = fetch linear rate (conf callee csite done (v ∷ []) mid after)
        (instructions.Return (Temporary 0)) j has.0
        ∙ to.returns (exec linear j) v (ended mid) (left after)

    returned_by : (s : Part) (st : State) (t x done v : ℕ) (mid : State) → scope.names.free
        ≡ new.own
        → HasAt linear (FunctionBody k) [] done (instructions.Return (Temporary 0) ∷ [])
        → Arrives linear rate s st (price t 0 x x) Kc csite.held mid
        (To (λ st store. at (conf callee csite done (v ∷ []) st store)))
        → Claim linear rate s st (price (1 + t) 0 x x) ways (Gives (Value v) (ended mid))
    returned_by s st t x done v mid e has a =
        let c = conf callee csite done (v ∷ []) mid a.store in
        record {
          store = left a.store;
          fits = call_fits e mid a.store a.fits;
          same = omega (arith, a.same, same_extra);
          reaches = reaches_after linear rate s (at c) (part v (ended mid) (left a.store)) st mid
              (ended mid) t 0 x 1 0 0 (1 + t) 0 x (omega arith) (omega arith) a.reaches
              (stepped linear rate c (part v (ended mid) (left a.store)) mid (ended mid) 1 0 0 refl
              (omega arith) (omega arith) refl (prefix_self mid.events)
              (λ j. last_turn v done mid a.store j has));
        }

    function_ends : (s : Part) (st : State) (t x done : ℕ) (o : Outcome) → scope.names.free
        ≡ new.own
        → HasAt linear (FunctionBody k) [] done (instructions.Return (Temporary 0) ∷ [])
        → Claim linear rate s st (price t 0 x x)
        (ended_ways program linear rate body callee csite Kc done) o
        → Claim linear rate s st (price (1 + t) 0 x x) ways (ended_call m extra o)
    unfolding ended_call
    function_ends s st t x done (Gives (Value v) mid) e has a = absurd a
    function_ends s st t x done (Gives Normal mid) e has a = returned_by s st t x done 0 mid e has a
    function_ends s st t x done (Gives (Returned v) mid) e has a =
        returned_by s st t x done v mid e has a
    function_ends s st t x done (Gives (Target level exc) mid) e has q =
        let target = target_of q.handler exc.code mid.held in
        let past = target_past (FunctionBody k) target in
        let low : q.handler.depth < length csite.below = handlers_below linear csite.below None
        level q.handler q.picked in
        record {
          handler = q.handler;
          picked = subst (λ fs. Picked fs level q.handler) to.same_found q.picked;
          temps = temps;
          pc = pc;
          store = left q.store;
          fits = call_fits e mid q.store q.fits;
          reaches =
              let r = q.reaches in
              let cost = r.most in let least = r.least in
              record {
                cost = r.cost;
                credit = r.credit;
                paid = r.paid;
                most = omega arith;
                least = r.least;
                low = r.low;
                grows = r.grows;
                prior = r.prior;
                by = λ i. let y = r.by i in (
                  y.0,
                  y.1,
                  y.2
                      ∙ leaves linear (exec linear i) target
                      (λ store. unwind linear (exec linear i) past csite.below None mid.events
                      store) (conf callee csite q.pc q.temps mid q.store) low
                      ∙ to.onward (exec linear i) past (left_by_target mid) (left q.store),
                );
              };
        }
    function_ends s st t x done (Gives r mid) e has a =
        attains_out linear rate s st mid (price t 0 x x) (price (1 + t) 0 x x) ways r (omega arith)
        (omega arith) a

  -- ---- a call

  pub call_runs : (same_globals : linear.globals ≡ program.globals) (n : ℕ)
      (bih : BodyRuns program linear rate body n) (k : ℕ) (fn : Function)
      (lf : LinearFunction) (vs : List ℕ) (below : List Item) (held_below : ℕ)
      (part : ℕ → State → Store → Part) (names : Names) (info : Bool) (z : Shape)
      (shapes : List Shape) (context : Context) (site : Site) (base : Store) (pc : ℕ)
      (temps : List ℕ) (st : State) (store : Store)
      → FunctionPlaced program linear rate body k fn lf → st.steps_left ≤ n
      → length vs ≡ length fn.parameters
      → ReturnsTo program linear rate body below context site pc temps part
      → Around program linear rate body names info z shapes context site base
      → Within program linear rate body shapes base st store → st.held ≡ held_below
      → Claim linear rate (λ next. deeper (depth_weight lf) held_below store st.events
      (next (begin_function k lf vs held_below below store st.events))) st (price 13 4 0 0)
      (record (value_ways part (Within program linear rate body shapes base) context site)
      { held = held_below }) (enter program (within program n) k (Some fn) vs context st)
  call_runs same_globals n bih k fn lf vs below held_below part names info z shapes context site
      base pc temps st store f steps len to around kept held =
      let w : Ways = record (value_ways part (Within program linear rate body shapes base) context
      site) { held = held_below } in
      let s = surplus fn in
      let x = statements_weight fn.body in
      let m = length st.frames in
      let scope = scope_of fn in
      let new : Shape = record { function = k; own = own_locals fn; all = lf.body.locals } in
      let shapes' = shapes ++ new ∷ [] in
      let given = vs ++ replicate (length fn.locals) 0 in
      let locals = vs ++ replicate (lf.body.locals - lf.parameters) 0 in
      let store' : Store = record store { activations = store.activations ++ locals ∷ [] } in
      let counted : State = count_steps s st in
      let st' : State = with_activation k given (hold_surplus s counted) in
      let inner : Context = record {
        handlers = context.handlers;
        activation = m;
        data_part = part_of fn.data_frame;
        exception = no_exception;
        abnormal = false;
      } in
      let csite : Site = record {
        body = FunctionBody k;
        regions = [];
        below = below;
        exception = no_exception;
        held = held_below + (lf.surplus + lf.data_surplus);
      } in
      let begins = begin_function k lf vs held_below below store st.events in
      let deep : length store.activations ≡ m = kept.0.activations ∙ sym kept.0.count in
      let here : conf inner csite 0 [] st' store' ≡ begins = ap (λ a. record {
        frame = record {
          body = FunctionBody k;
          next = 0;
          activation = a;
          exception = no_exception;
          held = held_below + (lf.surplus + lf.data_surplus);
          temporaries = [];
          landed = None;
        };
        below = below;
        store = store';
        events = st.events;
      }) (sym deep) in
      let roomy : own_locals fn ≤ lf.body.locals = omega (arith, f.locals) in
      let alike : FrameAlike new given locals = subst
      (λ p. FrameAlike new given (vs ++ replicate (lf.body.locals - p) 0)) (sym f.parameters)
      (begins_alike k (length fn.parameters) (length fn.locals) lf.body.locals vs len roomy) in
      let top : slice_get shapes' m ≡ Some new = ap (slice_get shapes') kept.0.count
      ∙ get_push_new shapes new in
      let standing : Surroundings program linear rate body scope.names new shapes' inner csite
      store' (statements_notes fn.body) = record {
        env = record {
          shape = top;
          code = refl;
          flag = refl;
          informed = λ e. absurd (cc);
          handlers =
              subst (λ a. Match program linear rate body (below_slot a (own_locals fn)) shapes'
              store' context.handlers (found linear rate inner csite)) (sym kept.0.count)
              (subst (λ fs. Match program linear rate body
              (below_slot (length shapes) (own_locals fn)) shapes' store' context.handlers fs)
              (sym to.same_found)
              (match_pushed shapes new store locals kept.0.activations context.handlers
              (found linear rate context site)
              (match_kept program linear rate body everywhere shapes base store context.handlers
              (found linear rate context site) kept.1 around.handlers)));
          functions = ap (λ fs. k ∷ fs) (to.same_functions ∙ around.functions)
              ∙ push_inwards shapes new;
        };
        past = omega arith;
        room = omega (arith, f.locals);
        plain = λ e. absurd (cc);
        part = refl;
        base_fits = base_of program linear rate body (own_locals fn) (length fn.parameters)
            fn.data_frame f.frame;
        globals = same_globals;
      } in
      let frame = fn.data_frame in
      let runs : ℕ → State → Outcome = λ m st. all (within program n) fn.body (record {
        handlers = context.handlers;
        activation = m;
        data_part = part_of frame;
        exception = no_exception;
        abnormal = false;
      }) st in
      let activation : State → Outcome = λ st. ended_call (length st.frames) s
      (close_part (part_of frame) (length st.frames)
      (open_frame program frame (length st.frames) (with_activation k given (hold_surplus s st))
      (runs (length st.frames)))) in
      let weighs : lf.surplus + lf.data_surplus ≡ s = omega (arith, f.weighs, f.data_weighs) in
      let light = f.light in
      let quick = f.quick in
      let few = f.few in
      let begin = body_start fn in
      let done = begin + statements_size fn.body in
      let Ki = Stays program linear rate body scope.names shapes' inner store' in
      let opened : Outcome = open_frame program frame m st' (runs m) in
      let first_kept : Ki st' store' = (
        push_alike shapes st.memory st.frames store new given locals alike kept.0,
        kept_itself (below_slot m (own_locals fn)) shapes' store',
        record {
          functions_are = push_functions shapes new st.functions kept.2.functions_are;
          same_handlers = kept.2.same_handlers;
          are_called = kept.2.are_called;
        },
      ) in
      let starts = separators_then linear rate (omega arith) inner csite store' s (asking fn) 1
      f.starts.2 in
      let takes = asking_within fn 8 (λ e. omega arith) few in
      let body_done : Claim linear rate (at (conf inner csite (1 + s) [] st' store')) st'
      (price 9 0 x x) (statement_ways program linear rate body scope inner csite Ki done) opened =
      passed_claim linear rate (omega arith) inner csite store' (1 + length fn.parameters) x
      (statement_ways program linear rate body scope inner csite Ki done) (asking fn) 9 (1 + s) st'
      opened (omega arith) starts.1
      (opened_claim program linear rate body same_globals scope.names new shapes' inner csite store'
      top (omega arith) fn f.frame f.opens st' store' x
      (statement_ways program linear rate body scope inner csite Ki done) (runs m) first_kept
      (omega (arith, held, weighs))
      (λ mid after left kept held.
      all_runs program linear rate body n bih scope new shapes' inner csite store' fn.body begin mid
      after (omega (arith, left)) quick f.placed
      (record { around = tt; exit = (omega arith, tt); loop_end = tt; loop_next = tt }) standing
      kept held)) in
      let whole : Claim linear rate (at (conf inner csite (1 + s) [] st' store')) st'
      (price 12 0 x x) w (ended_call m s (close_part (part_of frame) m opened)) =
      function_ends k lf scope new shapes context site base pc temps below held_below part m s frame
      store locals weighs kept.0.count kept.0.activations to kept.1
      (at (conf inner csite (1 + s) [] st' store'))
      st' 11 x (last_of frame done) (close_part (part_of frame) m opened) refl
      (last_has program linear rate body csite.body frame done f.ends)
      (closes program linear rate body inner csite Ki frame scope.names
      (at (conf inner csite (1 + s) [] st' store')) st' 9 x done opened
      (λ st store kept. closed_stays program linear rate body frame scope.names new
      (length fn.parameters) shapes' inner store' st store top f.frame kept) f.ends body_done) in
      let counts : Claim linear rate (at (conf inner csite 1 [] st store')) st
      (price 12 0 body body) w (counting s st activation) =
      separators_claim linear rate (omega arith) inner csite store' 12 body w s 1 st activation
      starts.0 (omega arith)
      (more linear rate (at (conf inner csite (1 + s) [] counted store')) counted (price 12 0 x x)
      (price 12 0 body body) w (activation counted) (omega arith, omega arith, omega arith)
      (sooner linear rate (at (conf inner csite (1 + s) [] counted store')) counted st'
      (price 12 0 x x) w (activation counted) refl (prefix_self st.events) whole)) in
      let all_of_it : Claim linear rate (at (conf inner csite 0 [] st store')) st
      (price 13 4 0 0) w (counting s st activation) =
      first linear rate (conf inner csite 0 [] st store') (at (conf inner csite 1 [] st store')) st
      st (price 12 0 body body) (price 13 4 0 0) w (counting s st activation)
      (omega arith, omega arith, omega arith) refl refl (prefix_self st.events)
      (λ j. fetch linear rate (conf inner csite 0 [] st store') instructions.Separator j
      f.starts.0) counts in
      subst (λ extra. Claim linear rate (λ next. deeper (1 + extra) held_below store st.events
      (next begins)) st (price 13 4 0 0) w
      (enter program (within program n) k (Some fn) vs context st))
      (sym weighs)
      (deep_claim linear rate (1 + s) held_below store (at begins) st (price 13 4 0 0) w
      (λ st. counting s st activation) deep held
      (subst (λ c. Claim linear rate (at c) st (price 13 4 0 0) w (counting s st activation))
      here all_of_it))
