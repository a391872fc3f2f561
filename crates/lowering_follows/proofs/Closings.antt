-- A function gives its part of the data stack back before it returns.
use Rattle.std.proofs.Common.{◌≡◌, ℕ, ◌+◌, List, [], ◌∷◌, ◌++◌, refl, ◌∙◌, arith}
use Rattle.std.specs.Prelude.{slice_get, Option, Some, None}
use Rattle.lowering_follows.specs.Words.{DataFrame, BodyName, Program, State, Normal, Returned, Outcome, Gives, Context, close, close_part, part_of, point_above, Temporary, LinearProgram, Store, Names, LoweringContext, Jumps, Nowhere, constant, close_code, HasAt, FrameFits}
use Rattle.linear_code.specs.declared.instruction.Instruction.TheVariants.{Return}
use Rattle.lowering_follows.proofs.Lemmas.{Part, at, Site, conf, Ways, price, Claim, attains_more, reaches_after, still, stepped, prefix_self}
use Rattle.linear_machine.proofs.Stretch.{Kept, Never, To, Reaches}
use Rattle.lowering_follows.proofs.Stores.{Shape}
use Rattle.lowering_follows.proofs.Turns.{constant_turn}
use Rattle.lowering_follows.proofs.StackPointers.{pointing, pointing_alike, pointing_turn}
use Rattle.lowering_follows.proofs.BodyClaims.{statement_ways, Stays}

abbrev pub closed : Option DataFrame → (activation : ℕ) → State → State
closed None k st = st
closed (Some d) k st = point_above d.base 0 k st

abbrev pub closed_store : Option DataFrame → (activation : ℕ) → Store → Store
closed_store None k store = store
closed_store (Some d) k store = pointing d.base 0 k store

-- where a function returns: after its end, and what its part of the data stack needs
abbrev pub last_of : Option DataFrame → ℕ → ℕ
last_of None done = done + 1
last_of (Some d) done = done + 1 + 1

pub closed_same : (frame : Option DataFrame) (k : ℕ) (st : State)
    → ((closed frame k st).steps_left ≡ st.steps_left) × ((closed frame k st).held ≡ st.held)
closed_same None k st = (refl, refl)
closed_same (Some d) k st = (refl, refl)

module _ (program : Program) (linear : LinearProgram) (rate body : ℕ) where
  pub closed_stays : (frame : Option DataFrame) (names : Names) (z : Shape) (parameters : ℕ)
      (shapes : List Shape) (context : Context) (base : Store) (st : State) (store : Store)
      → slice_get shapes context.activation ≡ Some z → FrameFits z.own parameters frame
      → Stays program linear rate body names shapes context base st store
      → Stays program linear rate body names shapes context base
      (closed frame context.activation st) (closed_store frame context.activation store)
  closed_stays None names z parameters shapes context base st store h f kept = kept
  closed_stays (Some d) names z parameters shapes context base st store h f kept = (
    pointing_alike shapes st store d.base 0 context.activation z h f.0 kept.0,
    kept.1,
    kept.2,
  )

  -- the instruction that returns
  pub last_has : (b : BodyName) (frame : Option DataFrame) (done : ℕ)
      → HasAt linear b [] done
      (constant 0 0 ∷ (close_code frame ++ Return (Temporary 0) ∷ []))
      → HasAt linear b [] (last_of frame done) (Return (Temporary 0) ∷ [])
  last_has b None done h = h.2
  last_has b (Some d) done h = h.2.2

  module _ (context : Context) (site : Site) (kept : Kept) where
    -- at its return, with the number that it returns
    abbrev pub ended_ways : ℕ → Ways
    ended_ways last = record {
      context = context;
      site = site;
      held = site.held;
      kept = kept;
      value = λ x. Never;
      normal = To (λ st store. at (conf context site last (0 ∷ []) st store));
      returned = λ v. To (λ st store. at (conf context site last (v ∷ []) st store));
      broke = Never;
      again = Never;
      left = Never;
    }

    abbrev Keeps : Option DataFrame → Type 0
    Keeps frame = (st : State) (store : Store) → kept st store
        → kept (closed frame context.activation st)
        (closed_store frame context.activation store)

    -- the part is given back
    closing : (frame : Option DataFrame) (done v : ℕ) (mid : State) (store : Store)
        → HasAt linear site.body site.regions (done + 1)
        (close_code frame ++ Return (Temporary 0) ∷ [])
        → Reaches linear rate (at (conf context site (done + 1) (v ∷ []) mid store))
        (at (conf context site (last_of frame done) (v ∷ [])
        (closed frame context.activation mid)
        (closed_store frame context.activation store))) mid (closed frame context.activation mid)
        1 0 0
    closing None done v mid store has =
        let c = conf context site (done + 1) (v ∷ []) mid store in
        still linear rate (at c) (at c) mid mid 1 0 0 refl (omega arith) (prefix_self mid.events)
        (λ j. refl)
    closing (Some d) done v mid store has =
        let k = context.activation in
        let mid' = closed (Some d) k mid in
        let store' = closed_store (Some d) k store in
        stepped linear rate (conf context site (done + 1) (v ∷ []) mid store)
        (at (conf context site (done + 1 + 1) (v ∷ []) mid' store')) mid mid' 1 0 0 refl
        (omega arith) (omega arith) refl (prefix_self mid.events)
        (λ j. pointing_turn program linear rate body context site d.base 0 (done + 1) (v ∷ []) mid
        store j (has.0, has.1, tt))

    abbrev Ending : LoweringContext → ℕ → Ways
    Ending scope done = statement_ways program linear rate body scope context site kept done

    abbrev scope_at : Names → ℕ → LoweringContext
    scope_at names done = record {
      names = names;
      exit = Jumps (done + 1);
      loop_end = Nowhere;
      loop_next = Nowhere;
      leave = None;
    }

    abbrev Return' : Option DataFrame → ℕ → Type 0
    Return' frame done = HasAt linear site.body site.regions done
        (constant 0 0 ∷ (close_code frame ++ Return (Temporary 0) ∷ []))

    normal_closed : (frame : Option DataFrame) (names : Names) (s : Part) (st : State)
        (t x done : ℕ) (mid : State) → Keeps frame → Return' frame done
        → Claim linear rate s st (price t 0 x x) (Ending (scope_at names done) done)
        (Gives Normal mid)
        → Claim linear rate s st (price (2 + t) 0 x x) (ended_ways (last_of frame done))
        (Gives Normal (closed frame context.activation mid))
    normal_closed frame names s st t x done mid keeps has a =
        let k = context.activation in
        let mid' = closed frame k mid in
        let store' = closed_store frame k a.store in
        let c0 = conf context site done [] mid a.store in
        let c1 = conf context site (done + 1) (0 ∷ []) mid a.store in
        let c2 = conf context site (last_of frame done) (0 ∷ []) mid' store' in
        record {
          store = store';
          fits = keeps mid a.store a.fits;
          same = (closed_same frame k mid).1 ∙ a.same;
          reaches = reaches_after linear rate s (at c0) (at c2) st mid mid' t 0 x 2 0 0 (2 + t) 0 x
              (omega arith) (omega arith) a.reaches
              (reaches_after linear rate (at c0) (at c1) (at c2) mid mid mid' 1 0 0 1 0 0 2 0 0
              (omega arith) (omega arith)
              (stepped linear rate c0 (at c1) mid mid 1 0 0 refl (omega arith) (omega arith) refl
              (prefix_self mid.events)
              (λ j. constant_turn linear rate context site 0 0 (0 ∷ []) done [] mid a.store j
              (omega arith) (has.0, has.1, tt) refl))
              (closing frame done 0 mid a.store has.2));
        }

    returned_closed : (frame : Option DataFrame) (names : Names) (s : Part) (st : State)
        (t x done v : ℕ) (mid : State) → Keeps frame → Return' frame done
        → Claim linear rate s st (price t 0 x x) (Ending (scope_at names done) done)
        (Gives (Returned v) mid)
        → Claim linear rate s st (price (2 + t) 0 x x) (ended_ways (last_of frame done))
        (Gives (Returned v) (closed frame context.activation mid))
    returned_closed frame names s st t x done v mid keeps has a =
        let k = context.activation in
        let mid' = closed frame k mid in
        let store' = closed_store frame k a.store in
        let c1 = conf context site (done + 1) (v ∷ []) mid a.store in
        let c2 = conf context site (last_of frame done) (v ∷ []) mid' store' in
        record {
          store = store';
          fits = keeps mid a.store a.fits;
          same = (closed_same frame k mid).1 ∙ a.same;
          reaches = reaches_after linear rate s (at c1) (at c2) st mid mid' t 0 x 1 0 0 (2 + t) 0 x
              (omega arith) (omega arith) a.reaches (closing frame done v mid a.store has.2);
        }

    -- at the end of the body, or where a `return` leads
    pub closes : (frame : Option DataFrame) (names : Names) (s : Part) (st : State)
        (t x done : ℕ) (o : Outcome) → Keeps frame → Return' frame done
        → Claim linear rate s st (price t 0 x x)
        (Ending (scope_at names done) done) o
        → Claim linear rate s st (price (2 + t) 0 x x) (ended_ways (last_of frame done))
        (close_part (part_of frame) context.activation o)
    unfolding close
    closes None names s st t x done (Gives Normal mid) keeps has a =
        normal_closed None names s st t x done mid keeps has a
    closes None names s st t x done (Gives (Returned v) mid) keeps has a =
        returned_closed None names s st t x done v mid keeps has a
    closes None names s st t x done (Gives r mid) keeps has a =
        attains_more linear rate s st mid (price t 0 x x) (price (2 + t) 0 x x)
        (ended_ways (done + 1)) r (omega arith, omega arith, omega arith) a
    closes (Some d) names s st t x done (Gives Normal mid) keeps has a =
        normal_closed (Some d) names s st t x done mid keeps has a
    closes (Some d) names s st t x done (Gives (Returned v) mid) keeps has a =
        returned_closed (Some d) names s st t x done v mid keeps has a
    closes (Some d) names s st t x done (Gives r mid) keeps has a =
        attains_more linear rate s st mid (price t 0 x x) (price (2 + t) 0 x x)
        (ended_ways (done + 1 + 1)) r (omega arith, omega arith, omega arith) a
