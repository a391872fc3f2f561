-- The ends of `__try` statements.
use Rattle.std.proofs.Common.{◌≡◌, ◌⊎◌, inl, inr, ◌<◌, ◌≤◌, ℕ, suc, ◌+◌, List, [], ◌∷◌, ◌++◌, length, refl, ap, sym, subst, ◌∙◌, arith}
use Rattle.std.proofs.lemmas.Bool.{eq-eqb, ne_eqb}
use Rattle.std.specs.Prelude.{Bool, true, false, nat_eq, Some, None}
use Rattle.seh_num.specs.declared.event.Event.TheVariants as events
use Rattle.lowering_follows.specs.Words.{Filter, Program, Exception, State, Value, Normal, Returned, Broke, Continued, LeftTry, Target, End, Outcome, Gives, choose, emit, Context, landing, Jump, Landing, Region, LinearProgram, Store, Configuration, Finished, with_some, set_local, Unwinds, handlers_in, handlers, target_past, unwind, target_of, exec, Names, LoweringContext, Nowhere, Jumps, in_try, except_kind, region, HasAt}
use Rattle.linear_code.specs.declared.slot.Slot.TheVariants.{Local}
use Rattle.lowering_expressions.specs.declared.scope.Way.TheVariants.{Unwinds}
use Rattle.linear_machine.specs.Frames as machine
use Rattle.lowering_follows.proofs.Lemmas.{Part, at, Site, conf, Picked, Price, price, found, Reaches, Arrives, Claim, after, reaches_after, reaches_more, arrives_more, finishes_more, stops_more, onto, stepped, first, fetch, sooner, prefix_self, Around, Outward, FindsRegions, finds_own, picked_less, picked_inside, skips, lands}
use Rattle.linear_machine.proofs.Stretch.{Kept, unwound}
use Rattle.linear_machine.proofs.Walks.{Inside}
use Rattle.lowering_expressions.specs.declared.scope.Way as jumps
use Rattle.lowering_follows.proofs.Stores.{Shape}
use Rattle.lowering_follows.proofs.Turns.{jump_turn}
use Rattle.lowering_follows.proofs.BodyClaims.{JumpFits, Inner, own_target, exit_way, jump_way, statement_ways}
use Rattle.lowering_follows.proofs.Tries.{within_region, is_except, is_block, picked_of, elsewhere}

module _ (program : Program) (linear : LinearProgram) (rate body : ℕ) where
  -- a target leaves a region that ends before the regions around it do
  pub outward : (context : Context) (site : Site) (lo hi level : ℕ) (f : machine.Handler)
      (code held : ℕ) (r : Region) → Around site.regions lo hi → r.end ≤ hi
      → Picked (found linear rate context site) level f
      → Outward (target_of f code held) r (length site.below)
  outward context site lo hi level f code held r around le p = go
      (picked_inside linear site.regions context.activation lo hi site.below level f around p)
    where
      go : Inside (length site.below) hi f → Outward (target_of f code held) r (length site.below)
      go (inl q) = inl q
      go (inr q) = let t = q.1 in inr (inl (omega arith))

  -- ---- `__except`

  module _ (filter : Filter) (begin target hi : ℕ) (forth : begin ≤ target) (le : target < hi)
      (context : Context) (site : Site) (kept : Kept) where
    abbrev R : Region
    R = region begin target (except_kind filter target)

    abbrev inner : Context
    inner = elsewhere context (record {
      filter = filter;
      activation = context.activation;
      abnormal = context.abnormal;
    } ∷ context.handlers) context.exception

    abbrev inside : Site
    inside = within_region (region begin target (except_kind filter target)) site

    skip_region : (s : Part) (from : State) (r e d : ℕ) (to : machine.Target) (temps : List ℕ)
        (st : State) (store : Store) (pc : ℕ) → Outward to R (length site.below)
        → Reaches linear rate s (unwound linear rate inner inside to temps st store pc) from st r e
        d → Reaches linear rate s (unwound linear rate context site to temps st store pc) from st
        r e d
    skip_region s from r e d to temps st store pc o p =
        onto linear rate s (unwound linear rate inner inside to temps st store pc)
        (unwound linear rate context site to temps st store pc) from st r e d
        (λ j. skips linear (exec linear j) to
        (λ store. unwind linear (exec linear j) (target_past site.body to) site.below None
        st.events store) R target site.regions (conf context site pc temps st store)
        (is_except filter target) (is_block filter target) forth o) p

    skip_exit : (s : Part) (from : State) (p : Price) (way : jumps.Way) (v : ℕ) (st : State)
        → JumpFits site.regions hi way
        → Arrives linear rate s from p kept site.held st
        (exit_way program linear rate body inner inside way v)
        → Arrives linear rate s from p kept site.held st
        (exit_way program linear rate body context site way v)
    skip_exit s from p Nowhere v st f q = q
    skip_exit s from p (Jumps label) v st f q =
        record { store = q.store; fits = q.fits; same = q.same; reaches = q.reaches }
    skip_exit s from p (Unwinds label) v st f q = (
      q.0,
      record {
        store = q.1.store;
        fits = q.1.fits;
        same = q.1.same;
        reaches = skip_region s from p.turns p.extra p.slack (own_target site label) (v ∷ []) st
            q.1.store q.0 (inr (inl (omega arith))) q.1.reaches;
      },
    )

    skip_jump : (s : Part) (from : State) (p : Price) (way : jumps.Way) (st : State)
        → JumpFits site.regions hi way
        → Arrives linear rate s from p kept site.held st
        (jump_way program linear rate body inner inside way)
        → Arrives linear rate s from p kept site.held st
        (jump_way program linear rate body context site way)
    skip_jump s from p Nowhere st f q = q
    skip_jump s from p (Jumps label) st f q =
        record { store = q.store; fits = q.fits; same = q.same; reaches = q.reaches }
    skip_jump s from p (Unwinds label) st f q = (
      q.0,
      record {
        store = q.1.store;
        fits = q.1.fits;
        same = q.1.same;
        reaches = skip_region s from p.turns p.extra p.slack (own_target site label) [] st
            q.1.store q.0 (inr (inl (omega arith))) q.1.reaches;
      },
    )

    -- the block's first instruction keeps the code
    abbrev landed_at : Exception → State → Store → Configuration
    landed_at exc st store = record {
      frame = record {
        body = site.body;
        next = target;
        activation = context.activation;
        exception = site.exception;
        held = site.held;
        temporaries = [];
        landed = Some exc.code;
      };
      below = site.below;
      store = store;
      events = st.events ++ events.Except (record { 0 = exc.code }) ∷ [];
    }

    landing_turn : (free : ℕ) (exc : Exception) (st : State) (store : Store) (k : ℕ)
        → HasAt linear site.body site.regions target (Landing (Local free) ∷ [])
        → exec linear (suc k) (landed_at exc st store)
        ≡ exec linear k (conf context site (target + 1) []
        (emit (events.Except (record { 0 = exc.code })) (record st { held = site.held }))
        (set_local store context.activation free exc.code))
    unfolding with_some
    landing_turn free exc st store k has = fetch linear rate (landed_at exc st store)
        (Landing (Local free)) k has.0

    -- the end of a `__try` with an `__except`
    pub except_ends : (done x y lo free : ℕ) (names : Names) (scope : LoweringContext) (z : Shape)
        (shapes : List Shape) (base : Store) (notes : ℕ) (s : Part) (from : State) (pc : ℕ)
        (o : Outcome) (go : Exception → State → Outcome)
        → Inner scope site.regions lo hi
        → length (found linear rate context site) ≡ length context.handlers
        → HasAt linear site.body (R ∷ site.regions) pc (Jump done ∷ [])
        → HasAt linear site.body site.regions target (Landing (Local free) ∷ [])
        → ((exc : Exception) (st : State) (store : Store) → st.steps_left ≤ from.steps_left
        → kept st store → st.held ≡ site.held
        → Claim linear rate (at (conf context site (target + 1) [] st
        (set_local store context.activation free exc.code))) st (price 1 0 y y)
        (statement_ways program linear rate body scope context site kept done) (go exc st))
        → ((e : State) (store : Store) → kept e store → (f : State) → f.memory ≡ e.memory
        → f.frames ≡ e.frames → f.functions ≡ e.functions → f.vectored ≡ e.vectored → kept f store)
        → Claim linear rate s from (price 0 0 x x)
        (statement_ways program linear rate body (in_try done scope) inner inside kept pc) o
        → Claim linear rate s from (price 3 0 (x + y) (x + y))
        (statement_ways program linear rate body scope context site kept done)
        (landing (length context.handlers) site.held o go)
    unfolding landing choose
    except_ends done x y lo free names scope z shapes base notes s from pc (Gives (Value v) st) go
        fits same has lands_has g alike p =
        absurd p
    except_ends done x y lo free names scope z shapes base notes s from pc (Gives Normal st) go fits
        same has lands_has g alike p =
        record {
          store = p.store;
          fits = p.fits;
          same = p.same;
          reaches = reaches_after linear rate s (at (conf context site pc [] st p.store))
              (at (conf context site done [] st p.store)) from st st 0 0 x 1 0 0 3 0 (x + y)
              (omega arith)
              (omega arith) p.reaches
              (stepped linear rate (conf context site pc [] st p.store)
              (at (conf context site done [] st p.store)) st st 1 0 0 refl (omega arith)
              (omega arith)
              refl (prefix_self st.events)
              (λ j. jump_turn linear rate context inside done pc [] st p.store j has));
        }
    except_ends done x y lo free names scope z shapes base notes s from pc (Gives (Returned v) st)
        go fits same has lands_has g alike p =
        arrives_more linear rate s from st (price 0 0 x x) (price 3 0 (x + y) (x + y)) kept
        site.held (exit_way program linear rate body context site scope.exit v) (omega arith)
        (omega arith) (skip_exit s from (price 0 0 x x) scope.exit v st fits.exit p)
    except_ends done x y lo free names scope z shapes base notes s from pc (Gives Broke st) go fits
        same has lands_has g alike p =
        arrives_more linear rate s from st (price 0 0 x x) (price 3 0 (x + y) (x + y)) kept
        site.held (jump_way program linear rate body context site scope.loop_end) (omega arith)
        (omega arith) (skip_jump s from (price 0 0 x x) scope.loop_end st fits.loop_end p)
    except_ends done x y lo free names scope z shapes base notes s from pc (Gives Continued st) go
        fits same has lands_has g alike p =
        arrives_more linear rate s from st (price 0 0 x x) (price 3 0 (x + y) (x + y)) kept
        site.held (jump_way program linear rate body context site scope.loop_next) (omega arith)
        (omega arith) (skip_jump s from (price 0 0 x x) scope.loop_next st fits.loop_next p)
    except_ends done x y lo free names scope z shapes base notes s from pc (Gives LeftTry st) go
        fits same has lands_has g alike p =
        record {
          store = p.store;
          fits = p.fits;
          same = p.same;
          reaches = reaches_more linear rate s (at (conf context site done [] st p.store)) from st 0
              0 x 3 0 (x + y) (omega arith) (omega arith) p.reaches;
        }
    except_ends done x y lo free names scope z shapes base notes s from pc (Gives (End (Some e)) st)
        go fits same has lands_has g alike p =
        finishes_more linear rate s from st 0 3
        (Finished e st.events) (omega arith) p
    except_ends done x y lo free names scope z shapes base notes s from pc (Gives (End None) st) go
        fits same has lands_has g alike p =
        stops_more linear rate s from st 0 0 x 3 0 (x + y)
        (omega arith) (omega arith) p
    except_ends done x y lo free names scope z shapes base notes s from pc
        (Gives (Target level exc) st) go fits same has lands_has g alike p =
        pick_one (picked_of (except_kind filter target) target context.activation
        (length site.below) (handlers_in site.regions context.activation (length site.below))
        (handlers linear site.below None) level p.handler (is_except filter target) p.picked)
      where
        landed : State
        landed = emit (events.Except (record { 0 = exc.code })) (record st { held = site.held })

        O : Bool → Outcome
        O b = choose b (λ st. go exc (emit (events.Except (record { 0 = exc.code }))
            (record st { held = site.held }))) (λ st. Gives (Target level exc) st) st

        by_test : (b : Bool) → nat_eq level (length context.handlers) ≡ b
            → Claim linear rate s from (price 3 0 (x + y) (x + y))
            (statement_ways program linear rate body scope context site kept done) (O b)
            → Claim linear rate s from (price 3 0 (x + y) (x + y))
            (statement_ways program linear rate body scope context site kept done)
            (O (nat_eq level (length context.handlers)))
        by_test b e q = subst (λ b. Claim linear rate s from (price 3 0 (x + y) (x + y))
            (statement_ways program linear rate body scope context site kept done) (O b)) (sym e) q

        pick_one : ((length (found linear rate context site) ≡ level)
            × (p.handler.depth ≡ length site.below) × (p.handler.target ≡ target))
            ⊎ Picked (found linear rate context site) level p.handler
            → Claim linear rate s from (price 3 0 (x + y) (x + y))
            (statement_ways program linear rate body scope context site kept done)
            (O (nat_eq level (length context.handlers)))
        pick_one (inl q) =
            let f = p.handler in
            let low = p.reaches.low in
            let e : level ≡ length context.handlers = sym q.0 ∙ same in
            let own : machine.Target = target_of f exc.code st.held in
            let finds_handlers : FindsRegions f.target (R ∷ site.regions) = subst
            (λ t. FindsRegions t (R ∷ site.regions)) (sym q.2)
            (finds_own R target site.regions (is_except filter target)) in
            let come : Reaches linear rate s (at (landed_at exc st p.store)) from st 0 0 x =
            onto linear rate s (unwound linear rate inner inside own p.temps st p.store p.pc)
            (at (landed_at exc st p.store)) from st 0 0 x
            (λ j. lands linear (exec linear j) own
            (λ store. unwind linear (exec linear j) (target_past site.body own) site.below None
            st.events store) (R ∷ site.regions) (conf context site p.pc p.temps st p.store) q.1
            finds_handlers ∙ ap (λ t. exec linear j (at_target t)) q.2) p.reaches in
            by_test true (eq-eqb level (length context.handlers) e)
            (after linear rate s (at (landed_at exc st p.store)) from st 0 0 x (price 2 0 y y)
            (price 3 0 (x + y) (x + y)) (statement_ways program linear rate body scope context
            site kept done) (go exc landed) (omega arith, omega arith, omega arith) come
            (sooner linear rate (at (landed_at exc st p.store)) st landed (price 2 0 y y)
            (statement_ways program linear rate body scope context site kept done) (go exc landed)
            refl (events.Except (record { 0 = exc.code }) ∷ [], refl)
            (first linear rate (landed_at exc st p.store)
            (at (conf context site (target + 1) [] landed
            (set_local p.store context.activation free exc.code))) landed landed (price 1 0 y y)
            (price 2 0 y y) (statement_ways program linear rate body scope context site kept done)
            (go exc landed)
            (omega arith, omega arith, omega arith) refl refl
            (prefix_self landed.events)
            (λ j. landing_turn free exc st p.store j lands_has)
            (g exc landed p.store low (alike st p.store p.fits landed refl refl refl refl) refl))))
          where
            at_target : ℕ → Configuration
            at_target t = record (landed_at exc st p.store)
                { frame = record (landed_at exc st p.store).frame { next = t } }
        pick_one (inr q) =
            let less = picked_less (found linear rate context site) level p.handler q in
            by_test false (ne_eqb level (length context.handlers) (λ e. omega arith))
            (record {
              handler = p.handler;
              picked = q;
              temps = p.temps;
              pc = p.pc;
              store = p.store;
              fits = p.fits;
              reaches = reaches_more linear rate s
                  (unwound linear rate context site (target_of p.handler exc.code st.held) p.temps
                  st
                  p.store p.pc) from st 0 0 x 3 0 (x + y) (omega arith) (omega arith)
                  (skip_region s from 0 0 x (target_of p.handler exc.code st.held) p.temps st
                  p.store p.pc (outward context site lo hi level p.handler exc.code st.held R
                  fits.around (omega arith) q) p.reaches);
            })
