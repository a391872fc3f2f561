-- A `__finally` block runs for every result of the body on its way out.
use Rattle.std.proofs.Common.{◌≡◌, inl, inr, ◌<◌, ◌≤◌, ℕ, ◌+◌, List, [], ◌∷◌, ◌++◌, length, refl, ap, sym, ◌∙◌, arith}
use Rattle.std.specs.Prelude.{◌-◌, Bool, true, false, Some, None}
use Rattle.lowering_follows.specs.Words.{Statements, Program, State, Value, Normal, Returned, Broke, Continued, LeftTry, Target, End, Outcome, Gives, and_then, Result, Context, RunFinally, finally_after, within, CallFinally, Separator, Region, LinearProgram, Item, Waits, Store, Configuration, Finished, with_some, deeper, Unwinds, handlers_in, handlers, begin_finally, target_past, unwind, flag_in, flag_of, run_finally, target_of, exec, Names, LoweringContext, Nowhere, Jumps, in_guarded, region, statements_notes, statements_weight, HasAt, HasFunclet, FinallyPlaced}
use Rattle.linear_machine.specs.Frames.{Next}
use Rattle.linear_code.specs.declared.program.RegionKind.TheVariants as regions
use Rattle.linear_code.specs.declared.program.FuncletKind.TheVariants as kinds
use Rattle.linear_machine.specs.Frames as machine
use Rattle.lowering_follows.proofs.Lemmas.{Part, at, Site, frame_of, conf, Way, Never, To, Out, Ways, Price, price, Join, found, Reaches, Arrives, Claim, normal_ways, joins, more, attains_out, after, finishes_more, stops_more, then_held, onto, still, stepped, first, fetch, prefix_self, Outward, starts}
use Rattle.linear_machine.proofs.Stretch.{Kept, unwound}
use Rattle.lowering_expressions.specs.declared.scope.Way.TheVariants.{Unwinds as UnwindsTo}
use Rattle.lowering_expressions.specs.declared.scope.Way as jumps
use Rattle.lowering_expressions.specs.Scope as scopes
use Rattle.lowering_follows.proofs.Stores.{Shape}
use Rattle.lowering_follows.proofs.Raises.{unwound_is, IsFunclet}
use Rattle.lowering_follows.proofs.BodyClaims.{JumpFits, Inner, comes_there, own_target, finally_site, exit_way, jump_way, statement_ways, Stays, Surroundings, BodyRuns}
use Rattle.lowering_follows.proofs.Tries.{within_region}
use Rattle.lowering_follows.proofs.TryEnds.{outward}

module _ (program : Program) (linear : LinearProgram) (rate body : ℕ) where
  -- a normal end, beside which only a target or an end may come, continues elsewhere
  pub plain_then : (s : Part) (t : State → Store → Part) (w : Ways) (st : State) (p q r : Price)
      (o : Outcome) → Join p q r → Claim linear rate s st p
      (record (normal_ways t w.kept w.context w.site) { held = w.held }) o
      → ((mid : State) (store : Store) → mid.steps_left ≤ st.steps_left → w.kept mid store
      → mid.held ≡ w.held → Claim linear rate (t mid store) mid q w (Gives Normal mid))
      → Claim linear rate s st r w o
  plain_then s t w st p q r (Gives Normal mid) j a b = after linear rate s (t mid a.store) st mid
      p.turns p.extra p.slack q r w (Gives Normal mid) (j.turns, j.slack, j.second_out) a.reaches
      (b mid a.store a.reaches.low a.fits a.same)
  plain_then s t w st p q r (Gives x mid) j a b = let lr = j.turns in
      attains_out linear rate s st mid p r w x (omega arith) j.first_out a

  -- the block begins
  run_is : (k : ℕ) (names : Names) (flag : Bool) (held : ℕ) (below : List Item) (next : Next)
      (c : Configuration) → HasFunclet linear (k - 1)
      (λ funclet. funclet.kind ≡ kinds.Finally names.free)
      → run_finally linear (k - 1) flag held below next c
      ≡ deeper 2 held c.store c.events (next (begin_finally (k - 1) names.free flag held below c))
  unfolding with_some
  run_is k names flag held below next c f =
      ap (λ o. with_some c.events (flag_of o)
      (λ x. deeper 2 held c.store c.events (next (begin_finally (k - 1) x flag held below c))))
      f.1
      ∙ ap (λ kd. with_some c.events (flag_in kd)
      (λ x. deeper 2 held c.store c.events (next (begin_finally (k - 1) x flag held below c))))
      f.2

  module _ (n : ℕ) (bih : BodyRuns program linear rate body n) (k : ℕ) (last : Statements)
      (begin end hi : ℕ) (forth : begin ≤ end + 1) (le : end + 1 < hi) (scope : LoweringContext)
      (z : Shape) (shapes : List Shape) (context : Context) (site : Site) (base : Store)
      (placed : FinallyPlaced program linear rate body z.own scope.names k last)
      (standing : Surroundings program linear rate body scope.names z shapes context site base
      (1 + statements_notes last)) (light : 1 + statements_weight last + body + 4 ≤ rate) where
    abbrev R : Region
    R = region begin (end + 1) (regions.Finally (k - 1))

    abbrev inside : Site
    inside = within_region (region begin (end + 1) (regions.Finally (k - 1))) site

    abbrev Kf : Kept
    Kf = Stays program linear rate body scope.names shapes context base

    abbrev y : ℕ
    y = 1 + statements_weight last

    abbrev begun : Bool → ℕ → List Item → (pc : ℕ) (temps : List ℕ) (st : State) (store : Store)
        → Part
    begun flag held below pc temps st store next = deeper 2 held store st.events
        (next (begin_finally (k - 1) scope.names.free flag held below
        (conf context site pc temps st store)))

    -- it runs for an unwinding, and then that continues
    unwinds_on : (s : Part) (from : State) (x pc : ℕ) (temps : List ℕ) (to : machine.Target)
        (how : Result) (st : State) (store : Store) (w : Ways) → st.steps_left ≤ n → st.held ≡
        to.held
        → Kf st store → Outward to R (length site.below)
        → Reaches linear rate s (unwound linear rate context inside to temps st store pc) from st 0
        0 x
        → ((mid : State) (store' : Store) → mid.steps_left ≤ st.steps_left → Kf mid store'
        → mid.held ≡ to.held → Claim linear rate
        (unwound linear rate context site to temps mid store' pc) mid (price 1 0 0 0)
        (record w { context = context; site = site; kept = Kf }) (Gives how mid))
        → Claim linear rate s from (price 1 0 (x + y) (x + y))
        (record w { context = context; site = site; kept = Kf })
        (and_then (within program n (RunFinally k last true) context st) (λ st. Gives how st))
    unwinds_on s from x pc temps to how st store w steps held kept o p go =
        let below : List Item = Unwinds site.regions to ∷ Waits (frame_of context site pc temps)
        ∷ site.below in
        let s' : Part = begun true to.held below pc temps st store in
        let w' : Ways = record w { context = context; site = site; kept = Kf } in
        let isf : IsFunclet program linear rate body (k - 1) (finally_site (k - 1) below to.held)
        context site pc temps = record {
          named = refl;
          bare = refl;
          same_found = refl;
          same_functions = refl;
          onward = λ next target st store. refl;
        } in
        after linear rate s s' from st 0 0 x (price 1 0 y y) (price 1 0 (x + y) (x + y)) w'
        (and_then (within program n (RunFinally k last true) context st) (λ st. Gives how st))
        (omega arith, omega arith, omega arith)
        (onto linear rate s (unwound linear rate context inside to temps st store pc) s' from st 0 0
        x
        (λ j. starts linear (exec linear j) to
        (λ store. unwind linear (exec linear j) (target_past site.body to) site.below None
        st.events store) begin (end + 1) (k - 1) site.regions
        (conf context site pc temps st store) forth o
        ∙ run_is k scope.names true to.held below (exec linear j)
        (conf context site pc temps st store) placed.funclet) p)
        (then_held linear rate s' (λ mid store'. unwound linear rate context site to temps mid
        store' pc) to.held w' st (price 0 0 y y) (price 1 0 0 0) (price 1 0 y y)
        (within program n (RunFinally k last true) context st) (λ st. Gives how st)
        (joins (omega arith) (omega arith) (omega arith) (omega arith))
        (bih.finally_run k last true to.held below scope.names z shapes context site base pc temps
        st store steps light placed isf standing kept held) go)

    -- it runs at a body's normal end
    called : (st : State) (store : Store) → st.steps_left ≤ n
        → HasAt linear site.body site.regions (end + 1) (CallFinally (k - 1) ∷ Separator ∷ [])
        → Kf st store → st.held ≡ site.held
        → Claim linear rate (at (conf context site (end + 1) [] st store)) st (price 2 0 y y)
        (statement_ways program linear rate body scope context site Kf (end + 1 + 1 + 1))
        (within program n (RunFinally k last false) context st)
    called st store steps has kept held =
        let pc = end + 1 in
        let below : List Item = Waits (frame_of context site pc []) ∷ site.below in
        let s' : Part = begun false site.held below pc [] st store in
        let w = statement_ways program linear rate body scope context site Kf (end + 1 + 1 + 1) in
        let walked : handlers linear below None
        ≡ found linear rate context site = ap
        (λ rs. handlers_in rs context.activation (length site.below)
        ++ handlers linear site.below None) has.1 in
        let isf : IsFunclet program linear rate body (k - 1) (finally_site (k - 1) below site.held)
        context site pc [] = record {
          named = refl;
          bare = refl;
          same_found = walked;
          same_functions = refl;
          onward = λ next target st store. unwound_is program linear rate body target context site
              pc [] st store next has.1;
        } in
        first linear rate (conf context site pc [] st store) s' st st (price 1 0 y y)
        (price 2 0 y y) w (within program n (RunFinally k last false) context st)
        (omega arith, omega arith, omega arith) refl refl (prefix_self st.events)
        (λ j. fetch linear rate (conf context site pc [] st store) (CallFinally (k - 1)) j has.0
        ∙ run_is k scope.names false site.held below (exec linear j)
        (conf context site pc [] st store) placed.funclet)
        (plain_then s' (λ st store. at (conf context site (pc + 1) [] st store)) w st
        (price 0 0 y y) (price 1 0 0 0) (price 1 0 y y)
        (within program n (RunFinally k last false) context st)
        (joins (omega arith) (omega arith) (omega arith) (omega arith))
        (bih.finally_run k last false site.held below scope.names z shapes context site base pc []
        st store steps light placed isf standing kept held)
        (λ mid store' low kept' held'. record {
          store = store';
          fits = kept';
          same = held';
          reaches = stepped linear rate (conf context site (pc + 1) [] mid store')
              (at (conf context site (end + 1 + 1 + 1) [] mid store')) mid mid 1 0 0 refl
              (omega arith) (omega arith) refl (prefix_self mid.events)
              (λ j. fetch linear rate (conf context site (pc + 1) [] mid store') Separator j
              has.2.0);
        }))

    -- the separator after the body, and then the block
    ended_body : (st : State) (store : Store) → st.steps_left ≤ n
        → HasAt linear site.body (R ∷ site.regions) end (Separator ∷ [])
        → HasAt linear site.body site.regions (end + 1) (CallFinally (k - 1) ∷ Separator ∷ [])
        → Kf st store → st.held ≡ site.held
        → Claim linear rate (at (conf context site end [] st store)) st (price 3 0 y y)
        (statement_ways program linear rate body scope context site Kf (end + 1 + 1 + 1))
        (within program n (RunFinally k last false) context st)
    ended_body st store steps parted has kept held =
        first linear rate (conf context site end [] st store)
        (at (conf context site (end + 1) [] st store)) st st (price 2 0 y y) (price 3 0 y y)
        (statement_ways program linear rate body scope context site Kf (end + 1 + 1 + 1))
        (within program n (RunFinally k last false) context st)
        (omega arith, omega arith, omega arith) refl refl (prefix_self st.events)
        (λ j. fetch linear rate (conf context site end [] st store) Separator j parted.0)
        (called st store steps has kept held)

    by_exit : (s : Part) (from : State) (x : ℕ) (way : jumps.Way) (v done : ℕ) (st : State)
        → st.steps_left ≤ n → JumpFits site.regions hi way
        → Arrives linear rate s from (price 0 0 x x) Kf site.held st
        (exit_way program linear rate body context inside (scopes.unwound way) v)
        → Claim linear rate s from (price 1 0 (x + y) (x + y))
        (statement_ways program linear rate body (record scope { exit = way }) context site Kf
        done) (and_then (within program n (RunFinally k last true) context st)
        (λ st. Gives (Returned v) st))
    by_exit s from x Nowhere v done st steps f p = absurd p
    by_exit s from x (Jumps label) v done st steps f p =
        let to = own_target site label in
        let w = statement_ways program linear rate body (record scope { exit = Jumps label })
        context site Kf done in
        let far = f.0 in
        unwinds_on s from x p.0 (v ∷ []) to (Returned v) st p.1.store w steps p.1.same p.1.fits
        (inr (inl (omega arith))) p.1.reaches
        (λ mid store' low kept held. record {
          store = store';
          fits = kept;
          same = held;
          reaches = still linear rate (unwound linear rate context site to (v ∷ []) mid store' p.0)
              (at (conf context site label (v ∷ []) mid store')) mid mid 1 0 0 refl (omega arith)
              (prefix_self mid.events)
              (λ j. comes_there linear (exec linear j) to
              (λ store. unwind linear (exec linear j) (target_past site.body to) site.below None
              mid.events store) site.regions (conf context site p.0 (v ∷ []) mid store') refl f.1);
        })
    by_exit s from x (UnwindsTo label) v done st steps f p =
        let to = own_target site label in
        let w = statement_ways program linear rate body (record scope { exit = UnwindsTo label })
        context site Kf done in
        unwinds_on s from x p.0 (v ∷ []) to (Returned v) st p.1.store w steps p.1.same p.1.fits
        (inr (inl (omega arith))) p.1.reaches
        (λ mid store' low kept held. (
          p.0,
          record {
            store = store';
            fits = kept;
            same = held;
            reaches = still linear rate (unwound linear rate context site to (v ∷ []) mid store'
                p.0) (unwound linear rate context site to (v ∷ []) mid store' p.0) mid mid 1 0 0
                refl
                (omega arith) (prefix_self mid.events) (λ j. refl);
          },
        ))

    -- what leads to a place of a loop
    by_jump : (s : Part) (from : State) (x : ℕ) (way : jumps.Way) (how : Result) (st : State)
        (w : Ways) → st.steps_left ≤ n → JumpFits site.regions hi way
        → Arrives linear rate s from (price 0 0 x x) Kf site.held st
        (jump_way program linear rate body context inside (scopes.unwound way))
        → ((p : Part) (mid : State) → Arrives linear rate p mid (price 1 0 0 0) Kf site.held mid
        (jump_way program linear rate body context site way)
        → Claim linear rate p mid (price 1 0 0 0)
        (record w { context = context; site = site; kept = Kf }) (Gives how mid))
        → Claim linear rate s from (price 1 0 (x + y) (x + y))
        (record w { context = context; site = site; kept = Kf })
        (and_then (within program n (RunFinally k last true) context st) (λ st. Gives how st))
    by_jump s from x Nowhere how st w steps f p go = absurd p
    by_jump s from x (Jumps label) how st w steps f p go =
        let to = own_target site label in
        let far = f.0 in
        unwinds_on s from x p.0 [] to how st p.1.store w steps p.1.same p.1.fits
        (inr (inl (omega arith))) p.1.reaches
        (λ mid store' low kept held. go (unwound linear rate context site to [] mid store' p.0) mid
        (record {
          store = store';
          fits = kept;
          same = held;
          reaches = still linear rate (unwound linear rate context site to [] mid store' p.0)
              (at (conf context site label [] mid store')) mid mid 1 0 0 refl (omega arith)
              (prefix_self mid.events)
              (λ j. comes_there linear (exec linear j) to
              (λ store. unwind linear (exec linear j) (target_past site.body to) site.below None
              mid.events store) site.regions (conf context site p.0 [] mid store') refl f.1);
        }))
    by_jump s from x (UnwindsTo label) how st w steps f p go =
        let to = own_target site label in
        unwinds_on s from x p.0 [] to how st p.1.store w steps p.1.same p.1.fits
        (inr (inl (omega arith))) p.1.reaches
        (λ mid store' low kept held. go (unwound linear rate context site to [] mid store' p.0)
        mid (
          p.0,
          record {
            store = store';
            fits = kept;
            same = held;
            reaches = still linear rate (unwound linear rate context site to [] mid store' p.0)
                (unwound linear rate context site to [] mid store' p.0) mid mid 1 0 0 refl
                (omega arith)
                (prefix_self mid.events) (λ j. refl);
          },
        ))

    -- an arrival has no more steps
    lower : (s : Part) (from : State) (x : ℕ) (way : Way) (st : State) → from.steps_left ≤ n
        → Arrives linear rate s from (price 0 0 x x) Kf site.held st way → st.steps_left ≤ n
    lower s from x Never st le p = absurd p
    lower s from x (To t) st le p = let low = p.reaches.low in omega arith
    lower s from x (Out t) st le p = let low = p.1.reaches.low in omega arith

    -- the end of a `__try` with a `__finally`
    pub finally_ends : (lo x : ℕ) (s : Part) (from : State) (o : Outcome) → from.steps_left ≤ n
        → Inner scope site.regions lo hi
        → HasAt linear site.body (R ∷ site.regions) end (Separator ∷ [])
        → HasAt linear site.body site.regions (end + 1) (CallFinally (k - 1) ∷ Separator ∷ [])
        → Claim linear rate s from (price 0 0 x x)
        (statement_ways program linear rate body (in_guarded end scope) context inside Kf end) o
        → Claim linear rate s from (price 3 0 (x + y) (x + y))
        (statement_ways program linear rate body scope context site Kf (end + 1 + 1 + 1))
        (finally_after o (λ flag st. within program n (RunFinally k last flag) context st))
    unfolding finally_after
    finally_ends lo x s from (Gives (Value v) st) steps fits parted has p = absurd p
    finally_ends lo x s from (Gives Normal st) steps fits parted has p =
        let low = p.reaches.low in
        after linear rate s (at (conf context site end [] st p.store)) from st 0 0 x (price 3 0 y y)
        (price 3 0 (x + y) (x + y)) (statement_ways program linear rate body scope context site Kf
        (end + 1 + 1 + 1)) (within program n (RunFinally k last false) context st)
        (omega arith, omega arith, omega arith) p.reaches
        (ended_body st p.store (omega arith) parted has p.fits p.same)
    finally_ends lo x s from (Gives LeftTry st) steps fits parted has p =
        let low = p.reaches.low in
        after linear rate s (at (conf context site end [] st p.store)) from st 0 0 x (price 3 0 y y)
        (price 3 0 (x + y) (x + y)) (statement_ways program linear rate body scope context site Kf
        (end + 1 + 1 + 1)) (within program n (RunFinally k last false) context st)
        (omega arith, omega arith, omega arith) p.reaches
        (ended_body st p.store (omega arith) parted has p.fits p.same)
    finally_ends lo x s from (Gives (End (Some e)) st) steps fits parted has p = finishes_more
        linear rate s from st 0 3 (Finished e st.events) (omega arith) p
    finally_ends lo x s from (Gives (End None) st) steps fits parted has p = stops_more linear rate
        s from st 0 0 x 3 0 (x + y) (omega arith) (omega arith) p
    finally_ends lo x s from (Gives (Returned v) st) steps fits parted has p =
        more linear rate s from (price 1 0 (x + y) (x + y)) (price 3 0 (x + y) (x + y))
        (statement_ways program linear rate body scope context site Kf (end + 1 + 1 + 1))
        (and_then (within program n (RunFinally k last true) context st)
        (λ st. Gives (Returned v) st)) (omega arith, omega arith, omega arith)
        (by_exit s from x scope.exit v (end + 1 + 1 + 1) st
        (lower s from x (exit_way program linear rate body context inside
        (scopes.unwound scope.exit) v) st steps p) fits.exit p)
    finally_ends lo x s from (Gives Broke st) steps fits parted has p =
        let w = statement_ways program linear rate body scope context site Kf (end + 1 + 1 + 1) in
        more linear rate s from (price 1 0 (x + y) (x + y)) (price 3 0 (x + y) (x + y)) w
        (and_then (within program n (RunFinally k last true) context st) (λ st. Gives Broke st))
        (omega arith, omega arith, omega arith)
        (by_jump s from x scope.loop_end Broke st w
        (lower s from x (jump_way program linear rate body context inside
        (scopes.unwound scope.loop_end)) st steps p) fits.loop_end p (λ t mid a. a))
    finally_ends lo x s from (Gives Continued st) steps fits parted has p =
        let w = statement_ways program linear rate body scope context site Kf (end + 1 + 1 + 1) in
        more linear rate s from (price 1 0 (x + y) (x + y)) (price 3 0 (x + y) (x + y)) w
        (and_then (within program n (RunFinally k last true) context st)
        (λ st. Gives Continued st)) (omega arith, omega arith, omega arith)
        (by_jump s from x scope.loop_next Continued st w
        (lower s from x (jump_way program linear rate body context inside
        (scopes.unwound scope.loop_next)) st steps p) fits.loop_next p (λ t mid a. a))
    finally_ends lo x s from (Gives (Target level exc) st) steps fits parted has p =
        let to = target_of p.handler exc.code st.held in
        let low = p.reaches.low in
        let w = statement_ways program linear rate body scope context site Kf (end + 1 + 1 + 1) in
        more linear rate s from (price 1 0 (x + y) (x + y)) (price 3 0 (x + y) (x + y)) w
        (and_then (within program n (RunFinally k last true) context st)
        (λ st. Gives (Target level exc) st)) (omega arith, omega arith, omega arith)
        (unwinds_on s from x p.pc p.temps to (Target level exc) st p.store w (omega arith) refl
        p.fits (outward program linear rate body context site lo hi level p.handler exc.code
        st.held R fits.around (omega arith) p.picked) p.reaches
        (λ mid store' low kept held. record {
          handler = p.handler;
          picked = p.picked;
          temps = p.temps;
          pc = p.pc;
          store = store';
          fits = kept;
          reaches = still linear rate (unwound linear rate context site to p.temps mid store' p.pc)
              (unwound linear rate context site (target_of p.handler exc.code mid.held) p.temps mid
              store' p.pc) mid mid 1 0 0 refl (omega arith) (prefix_self mid.events)
              (λ j. ap (λ h. unwound linear rate context site (target_of p.handler exc.code h)
              p.temps mid store' p.pc (exec linear j)) (sym held));
        }))
