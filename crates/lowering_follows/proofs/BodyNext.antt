-- What is claimed of statements holds one step deeper.
use Rattle.std.proofs.Common.{◌≡◌, ◌≤◌, ℕ, zero, suc, ◌+◌, List, [], ◌∷◌, ◌++◌, length, refl, ap, sym, subst, ◌∙◌, arith}
use Rattle.std.specs.Prelude.{◌-◌, Bool, true, false, Option, Some, None}
use Rattle.seh_num.specs.declared.event.Event.TheVariants as events
use Rattle.lowering_follows.specs.Words.{LoweringContext, Statements, Program, State, Normal, Target, Outcome, Gives, emit, hold, let_go, and_then, Context, DataPart, reset_pointer_if, Run, ForIteration, DoIteration, TryBody, RunFinally, of_test, no_exception, all, perform, within, LinearProgram, FuncletBody, Item, Store, Configuration, with_some, set_local, local_of, deeper, begin_finally, end_funclet, end_finally, exec, Names, finally_names, finally_scope, statement_size, statements_size, statements_notes, expression_weight, optional_weight, statement_weight, statements_weight, HasAt, finally_begin, HasFunclet, FinallyPlaced, for_end, do_end}
use Rattle.linear_code.specs.declared.slot.Slot.TheVariants.{Local}
use Rattle.linear_code.specs.declared.instruction.Instruction.TheVariants as instructions
use Rattle.linear_code.specs.declared.program.FuncletKind.TheVariants as kinds
use Rattle.lowering_follows.proofs.Lemmas.{Part, at, Site, conf, Ways, price, Targets, Claim, normal_ways, more, after, attains_out, reaches_after, targets_more, stepped, fetch, sooner, counted_claim, deep_claim, shown_deep, prefix_self, prefix_less, from_none}
use Rattle.linear_machine.proofs.Stretch.{Kept}
use Rattle.lowering_follows.proofs.Stores.{Shape, note_read}
use Rattle.lowering_follows.proofs.TaskClaims.{Runs}
use Rattle.lowering_follows.proofs.Raises.{targets_out, IsFunclet}
use Rattle.lowering_follows.proofs.BodyClaims.{finally_site, statement_ways, Stays, Surroundings, BodyRuns}
use Rattle.lowering_follows.proofs.BodySequences.{all_runs}
use Rattle.lowering_follows.proofs.BodySteps.{for_runs, do_runs}
use Rattle.lowering_follows.proofs.BodyStatements.{statement_runs}
use Rattle.lowering_follows.proofs.StackPointers.{reset_store_if, reset_stays_if, finally_reach}
use Rattle.lowering_follows.proofs.Tries.{surroundings_finally, noted_kept, noted_stays, stays_out}
use Rattle.lowering_follows.proofs.StatementSettings.{StatementSetting, statement_setting}

reset_asked : (flag : Bool) (part : Option DataPart) (activation k : ℕ) (st : State)
    → reset_pointer_if flag part activation (emit (events.Finally k flag) (hold st))
    ≡ emit (events.Finally k flag) (hold (reset_pointer_if flag part activation st))
reset_asked false part activation k st = refl
reset_asked true None activation k st = refl
reset_asked true (Some part) activation k st = refl

reset_keeps : (flag : Bool) (part : Option DataPart) (activation k : ℕ) (st : State)
    → let asked = emit (events.Finally k flag) (hold (reset_pointer_if flag part activation st)) in
    (asked.held ≡ st.held + 2) × (asked.steps_left ≡ st.steps_left)
reset_keeps false part activation k st = (refl, refl)
reset_keeps true None activation k st = (refl, refl)
reset_keeps true (Some part) activation k st = (refl, refl)

module _ (program : Program) (linear : LinearProgram) (rate body : ℕ) where
  -- ---- the end of a `__finally` block

  block_ends : (j : ℕ) (names : Names) (below : List Item) (held : ℕ) (context : Context) (done : ℕ)
      (mid : State) (store : Store) (i : ℕ) → HasFunclet linear j
      (λ funclet. funclet.kind ≡ kinds.Finally names.free)
      → HasAt linear (FuncletBody j) [] done (instructions.Return (Local names.free) ∷ [])
      → exec linear (suc i) (conf context (finally_site j below held) done [] mid store)
      ≡ end_finally linear (exec linear i) below mid.events store
  unfolding with_some
  block_ends j names below held context done mid store i f has =
      let c = conf context (finally_site j below held) done [] mid store in
      let v = local_of store context.activation names.free in
      fetch linear rate c (instructions.Return (Local names.free)) i has.0
      ∙ ap (λ o. with_some mid.events o (λ x. end_funclet linear (exec linear i) x.kind v c)) f.1
      ∙ ap (λ kd. end_funclet linear (exec linear i) kd v c) f.2

  module _ (j : ℕ) (names : Names) (below : List Item) (held : ℕ) (flag : Bool) (context : Context)
      (site : Site) (pc : ℕ) (temps : List ℕ) (kept' kept : Kept) (done : ℕ)
      (out : (st : State) (store : Store) → kept' st store → kept st store)
      (out' : (st : State) (store : Store) → kept' st store → kept (let_go st) store)
      (f : HasFunclet linear j (λ funclet. funclet.kind ≡ kinds.Finally names.free))
      (has : HasAt linear (FuncletBody j) [] done (instructions.Return (Local names.free) ∷ []))
      (isf : IsFunclet program linear rate body j (finally_site j below held) context site pc
      temps) where
    final_end : (s : Part) (st : State) (x : ℕ) (o : Outcome)
        → Claim linear rate s st (price 0 0 x x)
        (statement_ways program linear rate body (finally_scope names)
        (record context { abnormal = flag }) (finally_site j below held) kept' done) o
        → Claim linear rate s st (price 1 0 x x)
        (record (normal_ways (λ st store next. end_finally linear next below st.events store) kept
        context site) { held = held }) (and_then o (λ st. Gives Normal (let_go st)))
    unfolding and_then
    final_end s st x (Gives Normal mid) a = record {
      store = a.store;
      fits = out' mid a.store a.fits;
      same = omega (arith, a.same);
      reaches = reaches_after linear rate s (at
          (conf (record context { abnormal = flag }) (finally_site j below held) done [] mid
          a.store))
          (λ next. end_finally linear next below mid.events a.store) st mid (let_go mid) 0 0 x 1 0 0
          1
          0 x (omega arith) (omega arith) a.reaches
          (stepped linear rate (conf (record context { abnormal = flag })
          (finally_site j below held) done [] mid a.store)
          (λ next. end_finally linear next below mid.events a.store) mid (let_go mid) 1 0 0 refl
          (omega arith) (omega arith) refl (prefix_self mid.events)
          (λ i. block_ends j names below held (record context { abnormal = flag }) done mid a.store
          i f has));
    }
    final_end s st x (Gives (Target level exc) mid) a =
        let moved : Targets linear rate s st (price 0 0 x x) kept
        (record context { abnormal = flag }) (finally_site j below held) level exc mid =
        record {
          handler = a.handler;
          picked = a.picked;
          temps = a.temps;
          pc = a.pc;
          store = a.store;
          fits = out mid a.store a.fits;
          reaches = a.reaches;
        } in
        targets_more linear rate s st mid (price 0 0 x x) (price 1 0 x x) kept context site level
        exc (omega arith) (omega arith)
        (targets_out program linear rate body s st (price 0 0 x x) kept j
        (record context { abnormal = flag }) context (finally_site j below held) site pc temps
        level exc mid isf.named isf.bare isf.same_found isf.onward moved)
    final_end s st x (Gives r mid) a = attains_out linear rate s st mid (price 0 0 x x)
        (price 1 0 x x) (record (normal_ways (λ st store next. end_finally linear next below
        st.events store) kept context site) { held = held }) r (omega arith) (omega arith) a

  module _ (roomy : 4 ≤ rate) (n : ℕ) (ih : Runs program linear rate body n)
      (bih : BodyRuns program linear rate body n) where
    finally_next : (k : ℕ) (last : Statements) (flag : Bool) (held : ℕ) (below : List Item)
        (names : Names) (z : Shape) (shapes : List Shape) (context : Context) (site : Site)
        (base : Store) (pc : ℕ) (temps : List ℕ) (st : State) (store : Store)
        → st.steps_left ≤ suc n → 1 + statements_weight last + body + 4 ≤ rate
        → FinallyPlaced program linear rate body z.own names k last
        → IsFunclet program linear rate body (k - 1) (finally_site (k - 1) below held) context site
        pc temps
        → Surroundings program linear rate body names z shapes context site base
        (1 + statements_notes last) → Stays program linear rate body names shapes context base st
        store → st.held ≡ held
        → Claim linear rate (λ next. deeper 2 held store st.events
        (next (begin_finally (k - 1) names.free flag held below
        (conf context site pc temps st store)))) st
        (price 0 0 (1 + statements_weight last) (1 + statements_weight last))
        (record (normal_ways (λ st store next. end_finally linear next below st.events store)
        (Stays program linear rate body names shapes context base) context site) { held = held })
        (within program (suc n) (RunFinally k last flag) context st)
    finally_next k last flag held below names z shapes context site base pc temps st store steps
        light placed isf standing kept same_held =
        let j = k - 1 in
        let x = statements_weight last in
        let y = 1 + statements_weight last in
        let w : Ways = record (normal_ways (λ st store next. end_finally linear next below st.events
        store) (Stays program linear rate body names shapes context base) context site)
        { held = held } in
        let inner : Context = record context { abnormal = flag } in
        let fsite = finally_site j below held in
        let base' = set_local store context.activation names.free (of_test flag) in
        let names' = finally_names names in
        let begins : Configuration = begin_finally j names.free flag held below
        (conf context site pc temps st store) in
        let place : ℕ → Configuration = λ m. record {
          frame = record {
            body = FuncletBody j;
            next = 0;
            activation = context.activation;
            exception = no_exception;
            held = held + 2;
            temporaries = [];
            landed = None;
          };
          below = below;
          store = base';
          events = st.events ++ events.Finally m flag ∷ [];
        } in
        let same : place k ≡ place (j + 1) = ap place placed.numbered in
        let stays = noted_stays program linear rate body names z shapes context site base
        (1 + statements_notes last) (of_test flag) store standing kept.1 in
        let out = stays_out program linear rate body names names' shapes context base base' refl
        stays in
        let room = standing.room in
        let noted : local_of base' context.activation names.free ≡ of_test flag =
        note_read z store context.activation names.free (of_test flag) shapes st.memory st.frames
        standing.env.shape (omega arith) kept.0 in
        let deep : length store.activations ≡ length st.frames = kept.0.activations
        ∙ sym kept.0.count in
        counted_claim linear rate (λ next. deeper 2 held store st.events (next begins)) w st 0 y y
        (λ st. perform program (within program n) (RunFinally k last flag) context st)
        (omega arith)
        (shown_deep linear rate 2 held store st.events (exec linear zero begins)
        (prefix_less st.events _ (events.Finally (j + 1) flag) (from_none linear zero begins)))
        (λ m less.
        let low : State = record st { steps_left = m } in
        let first_asked : State = emit (events.Finally k flag) (hold low) in
        let asked : State = emit (events.Finally k flag)
        (hold (reset_pointer_if flag context.data_part context.activation low)) in
        let asked' : State = reset_pointer_if flag context.data_part context.activation first_asked
        in
        let store' = reset_store_if flag context.data_part context.activation base' in
        let reset_is : asked' ≡ asked = reset_asked flag context.data_part context.activation k low
        in
        let same_left = reset_keeps flag context.data_part context.activation k low in
        let held_is : asked.held ≡ held + 2 = same_left.0 ∙ ap (λ h. h + 2) same_held in
        let o = and_then (all (within program n) last inner asked)
        (λ st. Gives Normal (let_go st)) in
        deep_claim linear rate 2 held store (at (place (j + 1))) low (price 16 1 y y) w
        (λ st. and_then (all (within program n) last inner (emit (events.Finally k flag)
        (hold (reset_pointer_if flag context.data_part context.activation st))))
        (λ st. Gives Normal (let_go st))) deep same_held
        (sooner linear rate (at (place (j + 1))) low first_asked (price 16 1 y y) w o refl
        (events.Finally k flag ∷ [], refl)
        (subst (λ c. Claim linear rate (at c) first_asked (price 16 1 y y) w o) same
        (after linear rate (at (place k)) (at (conf inner fsite 3 [] asked' store')) first_asked
        asked' 3 0 0 (price 1 0 x x) (price 16 1 y y) w o (omega arith, omega arith, omega arith)
        (finally_reach program linear rate body inner fsite flag context.data_part names.free
        first_asked base' noted
        (subst (λ part. HasAt linear (FuncletBody j) [] 0 (finally_begin part names.free))
        standing.part placed.begins))
        (subst (λ q. Claim linear rate (at (conf inner fsite 3 [] q store')) q (price 1 0 x x) w o)
        (sym reset_is) (final_end j names below held flag context site pc temps
        (Stays program linear rate body names' shapes inner base')
        (Stays program linear rate body names shapes context base) (3 + statements_size last) out
        (λ st store p. out st store p) placed.funclet placed.returns isf
        (at (conf inner fsite 3 [] asked store')) asked x (all (within program n) last inner asked)
        (all_runs program linear rate body n bih (finally_scope names) z shapes inner fsite base'
        last 3 asked store' (omega (arith, same_left.1)) (omega arith) placed.code
        (record { around = tt; exit = tt; loop_end = tt; loop_next = tt })
        (surroundings_finally program linear rate body names z shapes context site fsite base
        (statements_notes last) flag st store standing kept isf.same_found isf.same_functions)
        (subst (λ q. Stays program linear rate body names' shapes inner base' q store') reset_is
        (reset_stays_if program linear rate body flag names' shapes inner base' z
        context.data_part first_asked base' standing.env.shape standing.base_fits
        (noted_kept program linear rate body names names' z shapes context base (of_test flag) st
        store refl standing.env.shape standing.past kept))) held_is)))))))

    abbrev inside : (scope : LoweringContext) (z : Shape) (shapes : List Shape) (context : Context)
        (site : Site) (base : Store) → StatementSetting
    inside scope z shapes context site base =
        statement_setting program linear rate body n ih bih scope z shapes context site base

    pub body_next : BodyRuns program linear rate body (suc n)
    body_next = record {
      run = λ s scope z shapes context site base pc st store steps light has inner standing kept
          held.
          counted_claim linear rate (at (conf context site pc [] st store))
          (statement_ways program linear rate body scope context site
          (Stays program linear rate body scope.names shapes context base)
          (pc + statement_size s)) st 0 (statement_weight s) (statement_weight s)
          (λ st. perform program (within program n) (Run s) context st) (omega arith)
          (from_none linear zero (conf context site pc [] st store))
          (λ m less. statement_runs (inside scope z shapes context site base) roomy s pc
          (record st { steps_left = m }) store (omega arith) light has inner
          standing kept held);
      for_run = λ c next s scope z shapes context site base pc st store steps light has inner
          standing kept held.
          let wi = 1 + optional_weight c + statement_weight s + optional_weight next in
          counted_claim linear rate (at (conf context site pc [] st store))
          (statement_ways program linear rate body scope context site
          (Stays program linear rate body scope.names shapes context base) (for_end c next s pc))
          st 0 wi wi
          (λ st. perform program (within program n) (ForIteration c next s) context st)
          (omega arith) (from_none linear zero (conf context site pc [] st store))
          (λ m less. for_runs (inside scope z shapes context site base) roomy c next s pc
          (record st { steps_left = m }) store (omega arith) light has inner
          standing kept held);
      do_run = λ s c scope z shapes context site base pc st store steps light has inner standing
          kept held.
          let wi = 1 + statement_weight s + expression_weight c in
          counted_claim linear rate (at (conf context site pc [] st store))
          (statement_ways program linear rate body scope context site
          (Stays program linear rate body scope.names shapes context base) (do_end s c pc)) st 0
          wi wi
          (λ st. perform program (within program n) (DoIteration s c) context st) (omega arith)
          (from_none linear zero (conf context site pc [] st store))
          (λ m less. do_runs (inside scope z shapes context site base) roomy s c pc
          (record st { steps_left = m }) store (omega arith) light has inner standing
          kept held);
      try_run = λ ss scope z shapes context site base pc st store steps light has inner standing
          kept held.
          let x = statements_weight ss in
          let w = statement_ways program linear rate body scope context site
          (Stays program linear rate body scope.names shapes context base)
          (pc + statements_size ss) in
          counted_claim linear rate (at (conf context site pc [] st store)) w st 0 (1 + x) (1 + x)
          (λ st. perform program (within program n) (TryBody ss) context st) (omega arith)
          (from_none linear zero (conf context site pc [] st store))
          (λ m less.
          let low : State = record st { steps_left = m } in
          more linear rate (at (conf context site pc [] low store)) low (price 0 0 x x)
          (price 16 1 (1 + x) (1 + x)) w (all (within program n) ss context low)
          (omega arith, omega arith, omega arith)
          (all_runs program linear rate body n bih scope z shapes context site base ss pc low store
          (omega arith) (omega arith) has inner standing kept held));
      finally_run = finally_next;
    }
