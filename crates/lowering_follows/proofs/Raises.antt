-- A search asks the handlers that it finds, in order.
use Rattle.std.proofs.Common.{◌≡◌, ◌<◌, ◌≤◌, ℕ, suc, ◌+◌, ◌^◌, List, [], ◌∷◌, ◌++◌, length, refl, ap, sym, subst, ◌∙◌, arith, append_assoc}
use Rattle.std.specs.Prelude.{Bool, true, false, nat_eq, nat_lt, slice_get, Option, Some, None}
use Rattle.lowering_follows.specs.Words.{W32, low, signed, Expression, Filter, Always, Funclet, Program, Exception, State, Value, Normal, Target, Outcome, Gives, choose, emit, hold, let_go, with_value, Context, Handler, Eval, Raise, RunFilter, noncontinuable, within, Temporary, LinearProgram, LinearFunclet, FuncletBody, Resumption, Item, Waits, Store, pick, with_some, deeper, FilterOf, Searches, regions_at, handlers_in, handlers, target_past, unwind_body, unwind, left_store, target_of, begin_filter, raise, resumed, answered, accept, consult, search, end_funclet, exec, expression_size, expression_code, expression_weight, HasAt}
use Rattle.linear_machine.specs.Frames.{Next}
use Rattle.linear_code.specs.declared.instruction.Instruction.TheVariants.{Return}
use Rattle.seh_num.specs.declared.event.Event.TheVariants as events
use Rattle.source_meaning.specs.Raises as source
use Rattle.linear_code.specs.declared.program.FuncletKind.TheVariants as kinds
use Rattle.linear_machine.specs.Frames as machine
use Rattle.lowering_follows.proofs.Lemmas.{Part, at, Site, frame_of, conf, Picked, price, Price, Join, Ways, found, Reaches, Targets, Claim, value_ways, normal_ways, joins, more, attains_out, after, then_value, targets_more, still, stepped, fetch, sooner, deep_claim, prefix_self, picked_at, handlers_below, leaves}
use Rattle.linear_machine.proofs.Stretch.{Kept, unwound}
use Rattle.lowering_follows.proofs.NodeSettings.{NodeSetting}
use Rattle.lowering_follows.proofs.Stores.{everywhere}
use Rattle.lowering_follows.proofs.Places.{has_front, has_after}
use Rattle.lowering_follows.proofs.Lengths.{expression_length}
use Rattle.lowering_follows.proofs.Environments.{CodeBound, FilterFits, HowFits, Match, same_length, functions_at}
use Rattle.lowering_follows.proofs.TaskClaims.{CodePlace, pushed, Within, Around, resumes, answers_search}

module _ (program : Program) (linear : LinearProgram) (rate body : ℕ) where
  -- an unwinding from a place inside its regions
  pub unwound_is : (target : machine.Target) (context : Context) (site : Site) (pc : ℕ)
      (temps : List ℕ) (st : State) (store : Store) (next : Next)
      → regions_at linear site.body pc ≡ site.regions
      → unwind linear next target (Waits (frame_of context site pc temps) ∷ site.below) None
      st.events store ≡ unwound linear rate context site target temps st store pc next
  unwound_is target context site pc temps st store next t =
      ap (λ rs. unwind_body linear next target
      (λ store. unwind linear next (target_past site.body target) site.below None st.events store)
      rs (conf context site pc temps st store)) t

  -- a handler takes over for what was raised here
  accepted : (f : machine.Handler) (exc : Exception) (context : Context) (site : Site) (pc : ℕ)
      (temps : List ℕ) (st : State) (store : Store) (next : Next)
      → regions_at linear site.body pc ≡ site.regions → st.held ≡ site.held
      → accept linear f exc next (conf context site pc temps st store)
      ≡ unwound linear rate context site (target_of f exc.code st.held) temps st store pc next
  accepted f exc context site pc temps st store next t h =
      unwound_is (target_of f exc.code site.held) context site pc temps st store next t
      ∙ ap (λ k. unwound linear rate context site (target_of f exc.code k) temps st store pc next)
      (sym h)

  takes_over : (s : Part) (f : machine.Handler) (pre rest : List machine.Handler) (level r e : ℕ)
      (exc : Exception) (kept : Kept) (context : Context) (site : Site) (pc : ℕ) (temps : List ℕ)
      (st : State) (store : Store)
      → length rest ≡ level → found linear rate context site ≡ pre ++ f ∷ rest → e ≤ rate
      → regions_at linear site.body pc ≡ site.regions → st.held ≡ site.held → kept st store
      → ((next : Next) → s next ≡ accept linear f exc next (conf context site pc temps st store))
      → Targets linear rate s st (price r e 1 rate) kept context site level exc st
  takes_over s f pre rest level r e exc kept context site pc temps st store len w le t h fits same =
      record {
        handler = f;
        picked = subst (λ fs. Picked fs level f) (sym w) (picked_at pre f rest level len);
        temps = temps;
        pc = pc;
        store = store;
        fits = fits;
        reaches = still linear rate s (unwound linear rate context site
            (target_of f exc.code st.held)
            temps st store pc) st st r e rate refl le (prefix_self st.events)
            (λ k. same (exec linear k) ∙ accepted f exc context site pc temps st store
            (exec linear k) t h);
      }

  -- ---- out of a funclet, to the body that waits below it

  pub targets_out : (s : Part) (from : State) (p : Price) (kept : Kept) (j : ℕ)
      (inner context : Context) (isite site : Site) (pc : ℕ) (temps : List ℕ) (level : ℕ)
      (exc : Exception) (st : State)
      → isite.body ≡ FuncletBody j → isite.regions ≡ []
      → handlers linear isite.below None ≡ found linear rate context site
      → ((next : Next) (target : machine.Target) (st : State) (store : Store)
      → unwind linear next target isite.below None st.events store
      ≡ unwound linear rate context site target temps st store pc next)
      → Targets linear rate s from p kept inner isite level exc st
      → Targets linear rate s from p kept context site level exc st
  targets_out s from p kept j inner context isite site pc temps level exc st b e f onward q =
      record {
        handler = q.handler;
        picked = picked;
        temps = temps;
        pc = pc;
        store = q.store;
        fits = q.fits;
        reaches = record {
          cost = r.cost;
          credit = r.credit;
          paid = r.paid;
          most = r.most;
          least = r.least;
          low = r.low;
          grows = r.grows;
          prior = r.prior;
          by = λ k. let y = r.by k in (y.0, y.1, y.2 ∙ out (exec linear k));
        };
      }
    where
      target : machine.Target
      target = target_of q.handler exc.code st.held

      r : Reaches linear rate s (unwound linear rate inner isite target q.temps st q.store q.pc)
          from st p.turns p.extra p.out
      r = q.reaches

      inside : Picked (handlers linear isite.below None) level q.handler
      inside = subst (λ rs. Picked (handlers_in rs inner.activation (length isite.below)
          ++ handlers linear isite.below None) level q.handler) e q.picked

      picked : Picked (found linear rate context site) level q.handler
      picked = subst (λ fs. Picked fs level q.handler) f inside

      low : q.handler.depth < length isite.below
      low = handlers_below linear isite.below None level q.handler inside

      out : (next : Next) → unwound linear rate inner isite target q.temps st q.store q.pc next
          ≡ unwound linear rate context site target temps st q.store pc next
      out next =
          ap (λ rs. unwind_body linear next target
          (λ store. unwind linear next (target_past isite.body target) isite.below None st.events
          store) rs (conf inner isite q.pc q.temps st q.store)) e
          ∙ leaves linear next target (λ store. unwind linear next (target_past isite.body target)
          isite.below None st.events store) (conf inner isite q.pc q.temps st q.store) low
          ∙ ap (λ name. unwind linear next (target_past name target) isite.below None st.events
          (left_store name inner.activation q.store)) b
          ∙ onward next target st q.store

  -- a funclet of a number, with these items below it, of which a search and an unwinding make what
  -- they make of a place
  pub record IsFunclet (j : ℕ) (isite : Site) (context : Context) (site : Site) (pc : ℕ)
      (temps : List ℕ) : Type 0 where
    pub named : isite.body ≡ FuncletBody j
    pub bare : isite.regions ≡ []
    pub same_found : handlers linear isite.below None ≡ found linear rate context site
    pub same_functions : functions_at isite ≡ functions_at site
    pub onward : (next : Next) (target : machine.Target) (st : State) (store : Store)
        → unwind linear next target isite.below None st.events store
        ≡ unwound linear rate context site target temps st store pc next

  -- a value of a funclet, and what comes then in the body that waits
  pub then_value_out : (s : Part) (v : ℕ → State → Store → Part) (kept : Kept) (j : ℕ)
      (inner : Context) (isite : Site) (w : Ways) (pc : ℕ) (temps : List ℕ) (st : State)
      (p q r : Price) (o : Outcome) (k : ℕ → State → Outcome)
      → Join p q r → IsFunclet j isite w.context w.site pc temps
      → ((st : State) (store : Store) → kept st store → w.kept st store)
      → Claim linear rate s st p (value_ways v kept inner isite) o
      → ((x : ℕ) (mid : State) (store : Store) → mid.steps_left ≤ st.steps_left → kept mid store
      → mid.held ≡ isite.held → Claim linear rate (v x mid store) mid q w (k x mid))
      → Claim linear rate s st r w (with_value o k)
  unfolding with_value
  then_value_out s v kept j inner isite w pc temps st p q r (Gives (Value x) mid) k t f g a b =
      after linear rate s (v x mid a.store) st mid p.turns p.extra p.slack q r w (k x mid)
      (t.turns, t.slack, t.second_out) a.reaches (b x mid a.store a.reaches.low a.fits a.same)
  then_value_out s v kept j inner isite w pc temps st p q r
      (Gives (Target level exc) mid) k t f g a b =
      let lr = t.turns in
      let kept_target : Targets linear rate s st p w.kept inner isite level exc
      mid = record {
        handler = a.handler;
        picked = a.picked;
        temps = a.temps;
        pc = a.pc;
        store = a.store;
        fits = g mid a.store a.fits;
        reaches = a.reaches;
      } in
      targets_more linear rate s st mid p r w.kept w.context w.site level exc (omega arith)
      t.first_out (targets_out s st p w.kept j inner w.context isite w.site pc temps level exc mid
      f.named f.bare f.same_found f.onward kept_target)
  then_value_out s v kept j inner isite w pc temps st p q r (Gives x mid) k t f g a b =
      let lr = t.turns in attains_out linear rate s st mid p r w x (omega arith) t.first_out a

module _ (setting : NodeSetting) (resumption : Resumption) (pc : ℕ) (temps : List ℕ) where
  open setting use {program, linear, rate, body, n, ih, code_place, code_place.{shapes, context, site, base, around}}

  -- what continues where the exception was raised
  abbrev pub continuing : Ways
  continuing = normal_ways (resumes program linear rate body resumption context site pc temps)
      (Within program linear rate body shapes base) context site

  -- an exception is continued, unless it can't be
  pub continued_runs : (b : Bool) (st : State) (store : Store) → st.steps_left ≤ n
      → regions_at linear site.body pc ≡ site.regions
      → Within program linear rate body shapes base st store → st.held ≡ site.held
      → Claim linear rate (λ next. pick b (raise linear next noncontinuable resumption
      (conf context site pc temps st store))
      (next (resumed resumption (conf context site pc temps st store)))) st (price 0 0 1 rate)
      continuing
      (choose b (λ st. within program n (Raise noncontinuable) context st)
      (λ st. Gives Normal st) st)
  unfolding choose pick
  continued_runs true st store steps t kept held =
      ih.raised noncontinuable resumption code_place pc temps st store
      steps t kept held
  continued_runs false st store steps t kept held = record {
    store = store;
    fits = kept;
    same = held;
    reaches = still linear rate _ _ st st 0 0 1 refl (omega arith) (prefix_self st.events)
        (λ k. refl);
  }

  -- what a filter's answer comes to
  answered_runs : (b1 b2 b3 : Bool) (hs : List Handler) (f : machine.Handler)
      (pre rest : List machine.Handler) (exc : Exception) (st : State) (store : Store)
      → length rest ≡ length hs → regions_at linear site.body pc ≡ site.regions
      → found linear rate context site ≡ pre ++ f ∷ rest → 2 ≤ rate → st.steps_left ≤ n
      → Within program linear rate body shapes base st store → st.held ≡ site.held
      → Claim linear rate (λ next. search linear next rest exc resumption
      (conf context site pc temps st store)) st (price 0 1 1 rate)
      continuing
      (source.search (within program n) hs exc context st)
      → Claim linear rate (λ next. pick b1 (search linear next rest exc resumption
      (conf context site pc temps st store))
      (pick b2 (accept linear f exc next (conf context site pc temps st store))
      (pick b3 (raise linear next noncontinuable resumption (conf context site pc temps st store))
      (next (resumed resumption (conf context site pc temps st store))))))
      st (price 0 0 1 rate) continuing
      (choose b1 (λ st. source.search (within program n) hs exc context st)
      (choose b2 (λ st. Gives (Target (length hs) exc) st)
      (choose b3 (λ st. within program n (Raise noncontinuable) context st)
      (λ st. Gives Normal st))) st)
  unfolding choose pick
  answered_runs true b2 b3 hs f pre rest exc st store len t w le steps kept held h =
      more linear rate _ st (price 0 1 1 rate) (price 0 0 1 rate)
      continuing
      (source.search (within program n) hs exc context st) (
        omega arith,
        omega arith,
        omega arith,
      ) h
  answered_runs false true b3 hs f pre rest exc st store len t w le steps kept held h =
      takes_over program linear rate body
      (λ next. accept linear f exc next (conf context site pc temps st store)) f pre
      rest (length hs) 0 0 exc (Within program linear rate body shapes base) context site pc
      temps st store len w (omega arith) t held kept (λ next. refl)
  answered_runs false false b3 hs f pre rest exc st store len t w le steps kept held h =
      continued_runs b3 st store steps t kept held

  -- one handler
  consult_runs : (filter : Filter) (how : Option ℕ) (h : Handler) (hs : List Handler)
      (f : machine.Handler) (pre rest : List machine.Handler) (exc : Exception)
      (st : State) (store : Store)
      → HowFits program linear rate body everywhere shapes base h.activation h.abnormal filter how
      → h.activation ≡ f.activation → length rest ≡ length hs → st.steps_left ≤ n → 2 ≤ rate
      → regions_at linear site.body pc ≡ site.regions
      → found linear rate context site ≡ pre ++ f ∷ rest
      → Within program linear rate body shapes base st store → st.held ≡ site.held
      → ((st : State) (store : Store) → st.steps_left ≤ n
      → Within program linear rate body shapes base st store → st.held ≡ site.held
      → Claim linear rate (λ next. search linear next rest exc resumption
      (conf context site pc temps st store)) st (price 0 1 1 rate) continuing
      (source.search (within program n) hs exc context st))
      → Claim linear rate (λ next. consult linear how f rest exc resumption next
      (conf context site pc temps st store)) st (price 0 1 1 rate)
      continuing
      (source.search_by (within program n) filter h (length hs) exc context st
      (λ st. source.search (within program n) hs exc context st))
  consult_runs Always (Some j) h hs f pre rest exc st store fit a len steps le t w kept held go =
      absurd fit
  consult_runs (Funclet k e) None h hs f pre rest exc st store fit a len steps le t w kept held go =
      absurd fit
  consult_runs Always None h hs f pre rest exc st store fit a len steps le t w kept held go =
      takes_over program linear rate body
      (λ next. accept linear f exc next (conf context site pc temps st store)) f pre
      rest (length hs) 0 1 exc (Within program linear rate body shapes base) context site pc
      temps st store len w (omega arith) t held kept (λ next. refl)
  consult_runs (Funclet k e) (Some j) h hs f pre rest exc st store fit a len steps le t w kept held
      go =
      let light = fit.light in
      then_value linear rate _ (answers_search program linear rate body exc resumption f rest
      context site pc temps)
      continuing st
      (price 0 1 0 (2 + expression_weight e)) (price 0 0 1 rate) (price 0 1 1 rate)
      (within program n (RunFilter k e h exc) context st)
      (λ v st. source.answered (within program n) v (length hs) exc context st
      (λ st. source.search (within program n) hs exc context st))
      (joins (omega arith) (omega arith) (omega arith) (omega arith))
      (ih.filter k j e h f rest exc resumption code_place pc temps st store steps t a fit kept held)
      (λ v mid after lower fits same. answered_runs (nat_eq (low W32 v) 0)
      (nat_lt (low W32 v) (2 ^ 31)) exc.flag hs f pre rest exc mid after len t w le
      (omega arith) fits same (go mid after (omega arith) fits same))

  pub search_runs : (hs : List Handler) (pre rest : List machine.Handler) (exc : Exception)
      (st : State) (store : Store)
      → st.steps_left ≤ n → 2 ≤ rate → regions_at linear site.body pc ≡ site.regions
      → found linear rate context site ≡ pre ++ rest
      → Match program linear rate body everywhere shapes base hs rest
      → Within program linear rate body shapes base st store → st.held ≡ site.held
      → Claim linear rate (λ next. search linear next rest exc resumption
      (conf context site pc temps st store)) st (price 0 1 1 rate)
      continuing
      (source.search (within program n) hs exc context st)
  search_runs [] pre [] exc st store steps le t w m kept held =
      record { by = (0, omega arith, refl) }
  search_runs [] pre (f ∷ rest) exc st store steps le t w m kept held = absurd m
  search_runs (h ∷ hs) pre [] exc st store steps le t w m kept held = absurd m
  search_runs (h ∷ hs) pre (f ∷ rest) exc st store steps le t w m kept held =
      consult_runs h.filter f.filter h hs f pre rest exc st store m.0.1 m.0.0
      (same_length program linear rate body everywhere shapes base hs rest m.1) steps le t w
      kept held
      (λ st store steps kept held. search_runs hs (pre ++ f ∷ []) rest exc st store steps le t
      (w ∙ sym (append_assoc pre (f ∷ []) rest)) m.1 kept held)

  -- ---- a filter

  ends_filter : (e : Expression) (v j : ℕ) (funclet : LinearFunclet) (inner : Context)
      (f : machine.Handler) (rest : List machine.Handler) (exc : Exception)
      (mid : State) (store : Store)
      (k : ℕ) → slice_get linear.funclets j ≡ Some funclet → funclet.kind ≡ kinds.Filter
      → HasAt linear (FuncletBody j) [] (0 + expression_size e) (Return (Temporary 0) ∷ [])
      → exec linear (suc k) (conf inner (record {
        body = FuncletBody j;
        regions = [];
        below = Searches exc resumption (FilterOf f rest) ∷ Waits (frame_of context site pc temps)
            ∷ site.below;
        exception = exc;
        held = site.held + 2;
      }) (0 + expression_size e) (v ∷ []) mid store)
      ≡ answered linear (exec linear k) v exc resumption f rest
      (conf context site pc temps (emit (events.Answer (signed W32 v)) (let_go mid)) store)
  unfolding with_some
  ends_filter e v j funclet inner f rest exc mid store k there kind has =
      let c = conf inner (record {
        body = FuncletBody j;
        regions = [];
        below = Searches exc resumption (FilterOf f rest) ∷ Waits (frame_of context site pc temps)
            ∷ site.below;
        exception = exc;
        held = site.held + 2;
      }) (0 + expression_size e) (v ∷ [])
      mid store in
      fetch linear rate c (Return (Temporary 0)) k has.0
      ∙ ap (λ o. with_some mid.events o (λ x. end_funclet linear (exec linear k) x.kind v c))
      there
      ∙ ap (λ x. end_funclet linear (exec linear k) x v c) kind

  pub filter_runs : (k j : ℕ) (e : Expression) (h : Handler) (f : machine.Handler)
      (rest : List machine.Handler) (exc : Exception) (st : State) (store : Store)
      → st.steps_left ≤ n → expression_weight e + body + 4 ≤ rate
      → regions_at linear site.body pc ≡ site.regions → h.activation ≡ f.activation
      → FilterFits program linear rate body everywhere shapes base h.activation h.abnormal k j e
      → Within program linear rate body shapes base st store → st.held ≡ site.held
      → Claim linear rate (λ next. deeper 2 site.held store st.events
      (next (begin_filter j f rest exc resumption (conf context site pc temps st store)))) st
      (price 16 2 0 (2 + expression_weight e))
      (value_ways (answers_search program linear rate body exc resumption f rest context site pc
      temps) (Within program linear rate body shapes base) context site)
      (source.run_filter (within program n) k e h exc context st)
  filter_runs k j e h f rest exc st store steps light t a fit kept held =
      let below : List Item = Searches exc resumption (FilterOf f rest)
      ∷ Waits (frame_of context site pc temps) ∷ site.below in
      let isite : Site = record {
        body = FuncletBody j;
        regions = [];
        below = below;
        exception =
            exc;
        held = site.held + 2;
      } in
      let inner : Context = record {
        handlers = context.handlers;
        activation = h.activation;
        data_part = None;
        exception = exc;
        abnormal = h.abnormal;
      } in
      let asked : State = emit (events.Filter k) (hold st) in
      let w = value_ways (answers_search program linear rate body exc resumption f rest context
      site pc temps) (Within program linear rate body shapes base) context site in
      let keep : ℕ → State → Outcome = λ v st. Gives (Value v)
      (emit (events.Answer (signed W32 v)) (let_go st)) in
      let o = with_value (within program n (Eval e) inner asked) keep in
      let place : ℕ → ℕ → machine.Configuration = λ act m. record {
        frame = record {
          body = FuncletBody j;
          next = 0;
          activation = act;
          exception = exc;
          held = site.held + 2;
          temporaries = [];
          landed = None;
        };
        below = below;
        store = store;
        events = st.events ++ events.Filter m ∷ [];
      } in
      let same : place h.activation k ≡ place f.activation (j + 1) = ap (λ x. place x k) a
      ∙ ap (λ m. place f.activation m) fit.number in
      let code = expression_code fit.names e 0 0 in
      let walked : handlers linear below None
      ≡ found linear rate context site = ap
      (λ rs. handlers_in rs context.activation (length site.below)
      ++ handlers linear site.below None) t in
      let env : Around program linear rate body fit.names true fit.shape shapes inner isite base =
      record {
        shape = fit.has_shape;
        code = subst (λ x. CodeBound everywhere fit.shape x inner exc base) (sym fit.source) refl;
        flag = fit.flag;
        informed = λ i. refl;
        handlers = subst (λ fs. Match program linear rate body everywhere shapes base
            context.handlers fs) (sym walked) around.handlers;
        functions = around.functions;
      } in
      let inside : CodePlace program linear rate body = record {
        names = fit.names;
        info = true;
        z = fit.shape;
        shapes = shapes;
        context = inner;
        site = isite;
        base = base;
        around = env;
      } in
      let out : IsFunclet program linear rate body j isite context site pc
      temps = record {
        named = refl;
        bare = refl;
        same_found = walked;
        same_functions = refl;
        onward = λ next target st store. unwound_is program linear rate body target context site pc
            temps st store next t;
      } in
      let deep : length store.activations ≡ length st.frames = kept.0.activations
      ∙ sym kept.0.count in
      deep_claim linear rate 2 site.held store (at (place f.activation (j + 1))) st
      (price 16 2 0 (2 + expression_weight e)) w
      (λ st. with_value (within program n (Eval e) (record {
        handlers = context.handlers;
        activation = h.activation;
        data_part = None;
        exception = exc;
        abnormal = h.abnormal;
      }) (emit (events.Filter k) (hold st)))
      (λ v st. Gives (Value v) (emit (events.Answer (signed W32 v)) (let_go st))))
      deep held
      (sooner linear rate (at (place f.activation (j + 1))) st asked
      (price 16 2 0 (2 + expression_weight e)) w o refl (events.Filter k ∷ [], refl)
      (subst (λ c. Claim linear rate (at c) asked (price 16 2 0 (2 + expression_weight e)) w o)
      same (then_value_out program linear rate body (at (place h.activation k))
      (pushed inner isite (0 + expression_size e) [])
      (Within program linear rate body shapes base) j inner isite w pc temps asked
      (price 0 0 (expression_weight e) (expression_weight e)) (price 16 rate 0 0)
      (price 16 2 0 (2 + expression_weight e)) (within program n (Eval e) inner asked) keep
      (joins (omega arith) (omega arith) (omega arith) (omega arith)) out (λ st store q. q)
      (ih.eval e inside 0 [] asked store steps light
      fit.fits (has_front linear (FuncletBody j) [] 0 code (Return (Temporary 0) ∷ []) fit.code)
      kept (ap (λ x. x + 2) held)) (λ v mid after lower fits same_held.
      let answer = events.Answer (signed W32 v) in
      let ended : State = emit answer (let_go mid) in
      record {
        store = after;
        fits = fits;
        same = omega (arith, same_held);
        reaches =
            stepped linear rate (conf inner isite (0 + expression_size e) (v ∷ []) mid after)
            (answers_search program linear rate body exc resumption f rest context site pc temps
            v ended after) mid ended 16 rate 0 refl (omega arith) (omega arith) refl
            (answer ∷ [], refl)
            (λ i. ends_filter e v j fit.funclet inner f rest exc mid after i fit.there fit.kind
            (has_after linear (FuncletBody j) [] 0 (expression_size e) code
            (Return (Temporary 0) ∷ []) (expression_length fit.names e 0 0) fit.code));
      }))))
