-- A raise asks the vectored handlers in order, and then the handlers that a search finds.
use Rattle.std.proofs.Common.{◌≡◌, ◌<◌, ◌≤◌, ℕ, ◌+◌, ◌^◌, List, [], ◌∷◌, ◌++◌, length, refl, ap, sym, subst, ◌∙◌, arith}
use Rattle.std.proofs.lemmas.Bool.{lt-ltb, ltb-true}
use Rattle.std.specs.Prelude.{Bool, true, false, nat_lt, slice_get, Option, Some, None}
use Rattle.lowering_follows.specs.Words.{W32, low, Function, Exception, State, Outcome, choose, emit, hold, let_go, with_value, enter, raise_event, handler_arguments, within, LinearFunction, Resumption, VectoredAt, Item, Waits, Searches, Store, Seen, Finished, pick, with_some, deeper, regions_at, handlers_in, handlers, begin_function, ask_vectored, ask_at, ask_from, raise, continued, search, exec, IsCalled}
use Rattle.linear_code.specs.Program.{depth_weight}
use Rattle.seh_num.specs.declared.event.Event.{Event}
use Rattle.source_meaning.specs.Raises as source
use Rattle.source_meaning.specs.State as model
use Rattle.linear_machine.specs.Frames as machine
use Rattle.source_meaning.specs.declared.ended.Ended.TheVariants.{Deep}
use Rattle.lowering_follows.proofs.Lemmas.{Part, frame_of, conf, found, price, joins, Claim, more, after, then_value_held, still, sooner, deep_claim, prefix_self}
use Rattle.lowering_follows.proofs.NodeSettings.{NodeSetting}
use Rattle.lowering_follows.proofs.Handlers.{each_at}
use Rattle.lowering_follows.proofs.TaskClaims.{Within, ReturnsTo, answers_vectored}
use Rattle.lowering_follows.proofs.Raises.{unwound_is, continuing, continued_runs, search_runs}

-- at a depth that grows by two numbers at once
deeper_twice : (a b held : ℕ) (store : Store) (es : List Event) (seen : Seen)
    → deeper (a + b) held store es seen
    ≡ deeper a held store es (deeper b (held + a) store es seen)
unfolding pick
deeper_twice a b held store es seen = by_test (nat_lt 1000 (n + a)) refl
  where
    n : ℕ
    n = length store.activations + held

    deep : Seen
    deep = Finished (Deep 1001) es

    by_test : (c : Bool) → nat_lt 1000 (n + a) ≡ c
        → pick (nat_lt 1000 (n + (a + b))) deep seen
        ≡ pick (nat_lt 1000 (n + a)) deep
        (pick (nat_lt 1000 (length store.activations + (held + a) + b)) deep seen)
    by_test true e =
        let far : 1000 < n + a = ltb-true 1000 (n + a) e in
        ap (λ d. pick d deep seen) (lt-ltb 1000 (n + (a + b)) (omega arith))
        ∙ sym (ap (λ d. pick d deep
        (pick (nat_lt 1000 (length store.activations + (held + a) + b)) deep seen)) e)
    by_test false e =
        let same : n + (a + b) ≡ length store.activations + (held + a) + b = omega arith in
        ap (λ k. pick (nat_lt 1000 k) deep seen) same
        ∙ sym (ap (λ d. pick d deep
        (pick (nat_lt 1000 (length store.activations + (held + a) + b)) deep seen)) e)

module _ (setting : NodeSetting) (resumption : Resumption) (pc : ℕ) (temps : List ℕ) where
  open setting use {program, linear, rate, body, n, ih, code_place, code_place.{shapes, context, site, base, around}}

  -- the one at a place, or past their end the handlers around the frame
  ask_runs : (handler : Option ℕ) (place : ℕ) (exc : Exception) (st : State) (store : Store)
      → ((f : ℕ) → handler ≡ Some f → IsCalled program f 2) → st.steps_left ≤ n → 2 ≤ rate
      → regions_at linear site.body pc ≡ site.regions
      → Within program linear rate body shapes base st store → st.held ≡ site.held
      → Claim linear rate (λ next. ask_at linear next handler place exc resumption
      (conf context site pc temps st store)) st (price 0 1 1 rate)
      (continuing setting resumption pc temps)
      (source.ask_at (within program n) handler place exc context st)
  ask_runs None place exc st store called steps le t kept held =
      subst (λ rs. Claim linear rate (λ next. search linear next
      (handlers_in rs context.activation (length site.below) ++ handlers linear site.below None)
      exc resumption (conf context site pc temps st store)) st (price 0 1 1 rate)
      (continuing setting resumption pc temps)
      (source.search (within program n) context.handlers exc context st)) (sym t)
      (search_runs setting resumption pc temps context.handlers []
      (found linear rate context site) exc st store steps le t refl around.handlers kept held)
  ask_runs (Some f) place exc st store called steps le t kept held =
      ih.asked f place exc resumption code_place pc temps st store
      (called f refl) steps t kept held

  -- those from a place on
  from_runs : (place : ℕ) (exc : Exception) (st : State) (store : Store)
      → st.steps_left ≤ n → 2 ≤ rate → regions_at linear site.body pc ≡ site.regions
      → Within program linear rate body shapes base st store → st.held ≡ site.held
      → Claim linear rate (λ next. ask_from linear next place exc resumption
      (conf context site pc temps st store)) st (price 0 1 1 rate)
      (continuing setting resumption pc temps)
      (source.ask_from (within program n) place exc context st)
  from_runs place exc st store steps le t kept held =
      subst (λ fs. Claim linear rate (λ next. ask_at linear next (slice_get fs place) place exc
      resumption (conf context site pc temps st store)) st (price 0 1 1 rate)
      (continuing setting resumption pc temps)
      (source.ask_from (within program n) place exc context st)) (sym kept.2.same_handlers)
      (ask_runs (slice_get st.vectored place) place exc st store
      (λ f e. each_at (λ f. IsCalled program f 2) st.vectored place f kept.2.are_called e) steps le
      t kept held)

  pub raise_runs : (exc : Exception) (st : State) (store : Store)
      → st.steps_left ≤ n → 2 ≤ rate → regions_at linear site.body pc ≡ site.regions
      → Within program linear rate body shapes base st store → st.held ≡ site.held
      → Claim linear rate (λ next. raise linear next exc resumption
      (conf context site pc temps st store)) st (price 16 1 1 rate)
      (continuing setting resumption pc temps)
      (source.ask_from (within program n) 0 exc context (emit (raise_event exc) st))
  raise_runs exc st store steps le t kept held =
      let w = (continuing setting resumption pc temps) in
      let raised : State = emit (raise_event exc) st in
      let o = source.ask_from (within program n) 0 exc context raised in
      let part : Part = λ next. raise linear next exc resumption
      (conf context site pc temps st store) in
      more linear rate part st (price 0 1 1 rate) (price 16 1 1 rate) w o
      (omega arith, omega arith, omega arith)
      (sooner linear rate part st raised (price 0 1 1 rate) w o refl (raise_event exc ∷ [], refl)
      (from_runs 0 exc raised store steps le t kept held))

  -- what the answer of one comes to
  answered_runs : (others : Bool) (place : ℕ) (exc : Exception) (st : State) (store : Store)
      → st.steps_left ≤ n → 2 ≤ rate → regions_at linear site.body pc ≡ site.regions
      → Within program linear rate body shapes base st store → st.held ≡ site.held
      → Claim linear rate (λ next. pick others
      (ask_from linear next (place + 1) exc resumption (conf context site pc temps st store))
      (continued linear next exc resumption (conf context site pc temps st store))) st
      (price 0 0 1 rate)
      (continuing setting resumption pc temps)
      (choose others (λ st. source.ask_from (within program n) (place + 1) exc context st)
      (λ st. source.continued (within program n) exc context st) st)
  unfolding choose pick
  answered_runs true place exc st store steps le t kept held =
      more linear rate _ st (price 0 1 1 rate) (price 0 0 1 rate)
      (continuing setting resumption pc temps)
      (source.ask_from (within program n) (place + 1) exc context st)
      (omega arith, omega arith, omega arith)
      (from_runs (place + 1) exc st store steps le t kept held)
  answered_runs false place exc st store steps le t kept held =
      continued_runs setting resumption pc temps exc.flag st store steps t kept held

  -- one is asked
  pub vectored_runs : (f place : ℕ) (fn : Function) (lf : LinearFunction) (exc : Exception)
      (st : State)
      (store : Store)
      → slice_get program.functions f ≡ Some fn → slice_get linear.functions f ≡ Some lf
      → 2 ≡ length fn.parameters → st.steps_left ≤ n → 2 ≤ rate
      → regions_at linear site.body pc ≡ site.regions
      → Within program linear rate body shapes base st store → st.held ≡ site.held
      → Claim linear rate (λ next. ask_vectored linear next f place exc resumption
      (conf context site pc temps st store)) st (price 16 2 1 rate)
      (continuing setting resumption pc temps)
      (source.ask_vectored program (within program n) f place exc context st)
  unfolding with_some
  vectored_runs f place fn lf exc st store there here takes steps le t kept held =
      let w = (continuing setting resumption pc temps) in
      let vs = handler_arguments exc in
      let below : List Item = Searches exc resumption (VectoredAt place)
      ∷ Waits (frame_of context site pc temps) ∷ site.below in
      let held_below = site.held + 2 in
      let begins : LinearFunction → machine.Configuration = λ lf. begin_function f lf vs held_below
      below store st.events in
      let called : Part = λ next. deeper (depth_weight lf) held_below store st.events
      (next (begins lf)) in
      let part : Part = λ next. ask_vectored linear next f place exc resumption
      (conf context site pc temps st store) in
      let inner : Part = λ next. deeper 2 site.held store st.events (called next) in
      let answers : ℕ → State → Outcome = λ v st. source.vectored_answered (within program n) v
      place exc context (let_go st) in
      let go : Option Function → State → Outcome = λ o st. with_value
      (enter program (within program n) f o vs context (hold st)) answers in
      let to : ReturnsTo program linear rate body below context site pc temps
      (answers_vectored program linear rate body place exc resumption context site pc
      temps) = record {
        same_found = ap (λ rs. handlers_in rs context.activation (length site.below)
            ++ handlers linear site.below None) t;
        same_functions = refl;
        onward = λ next target st store. unwound_is program linear rate body target context site pc
            temps st store next t;
        returns = λ next v st store. refl;
      } in
      let deep : length store.activations ≡ length st.frames = kept.0.activations
      ∙ sym kept.0.count in
      let asks : (k : ℕ) → part (exec linear k) ≡ inner (exec linear k) = λ k.
      ap (λ o. with_some st.events o (λ lf. deeper (2 + depth_weight lf) site.held store st.events
      (exec linear k (begins lf)))) here
      ∙ deeper_twice 2 (depth_weight lf) site.held store st.events (exec linear k (begins lf)) in
      subst (λ o. Claim linear rate part st (price 16 2 1 rate) w
      (model.deeper 2 st (go o))) (sym there)
      (after linear rate part inner st st 0 0 0 (price 16 2 1 rate) (price 16 2 1 rate) w
      (model.deeper 2 st (go (Some fn))) (omega arith, omega arith, omega arith)
      (still linear rate part inner st st 0 0 0 refl (omega arith) (prefix_self st.events) asks)
      (deep_claim linear rate 2 site.held store called st (price 16 2 1 rate) w (go (Some fn)) deep
      held (sooner linear rate called st (hold st) (price 16 2 1 rate) w (go (Some fn) st) refl
      (prefix_self st.events)
      (then_value_held linear rate called (answers_vectored program linear rate body place exc
      resumption context site pc temps) held_below w (hold st) (price 13 4 0 0) (price 0 0 1 rate)
      (price 16 2 1 rate) (enter program (within program n) f (Some fn) vs context (hold st))
      answers (joins (omega arith) (omega arith) (omega arith) (omega arith))
      (ih.call f fn lf vs below held_below (answers_vectored program linear rate body place exc
      resumption context site pc temps) code_place pc temps (hold st)
      store steps there here takes to kept (ap (λ k. k + 2) held)) (λ v mid store lower fits same.
      sooner linear rate _ mid (let_go mid) (price 0 0 1 rate) w (answers v mid) refl
      (prefix_self mid.events)
      (answered_runs (nat_lt (low W32 v) (2 ^ 31)) place exc (let_go mid) store
      (omega arith) le t fits (omega (arith, same))))))))
