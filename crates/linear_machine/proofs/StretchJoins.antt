-- Two stretches one after another, and what a dearer price allows.
use Rattle.std.proofs.Common.{◌≡◌, ℕ, zero, suc, ◌+◌, ◌*◌, ◌≤◌, List, refl, ap, ◌∙◌, subst, arith, sym}
use native.Mathlib.Nat.{mul-add}
use Rattle.std.specs.Prelude.{Some, None}
use Rattle.linear_machine.specs.Words.{Event, Exception, State, Result, Value, Normal, Returned, Broke, Continued, LeftTry, End, Outcome, Gives, with_value, and_then, Context, IsPrefixOf, LinearProgram, Store, Seen, Finished, target_of, exec}
use Rattle.source_meaning.specs.State.{Target}
use Rattle.linear_machine.proofs.Lemmas.{prefix_then}
use Rattle.linear_machine.proofs.RunLengths.{events_of}
use Rattle.linear_machine.proofs.Stretch.{Part, Site, Way, Never, To, Out, Ways, Kept, no_ways, value_ways, normal_ways, first_ways, Before, Price, price, Join, Dearer, Reaches, Finishes, Stops, unwound, Arrival, Arrives, Targets, Attains, Claim}

module _ (linear : LinearProgram) (rate : ℕ) where
  before_more : (seen : Seen) (es es' : List Event) → Before seen es → IsPrefixOf es es'
      → Before seen es'
  before_more seen es es' b p = (b.0, b.1, prefix_then b.0 es es' b.2 p)

  -- the turn before the last, of two stretches
  prior_after : (s t : Part) (mid end : List Event) (c d : ℕ)
      → ((i : ℕ) → suc i ≡ c → Before (s (exec linear i)) mid)
      → ((k : ℕ) → (j : ℕ) × (j ≡ c + k) × (s (exec linear j) ≡ t (exec linear k)))
      → IsPrefixOf mid end → ((i : ℕ) → suc i ≡ d → Before (t (exec linear i)) end) → (i : ℕ)
      → suc i ≡ c + d → Before (s (exec linear i)) end
  prior_after s t mid end c zero p by g q i e = before_more (s (exec linear i)) mid end
      (p i (omega arith)) g
  prior_after s t mid end c (suc d) p by g q i e =
      let y = by d in
      let same : y.0 ≡ i = omega (arith, y.1) in
      let b = q d refl in
      (b.0, ap (λ k. s (exec linear k)) (sym same) ∙ y.2 ∙ b.1, b.2)

  pub reaches_after : (s t u : Part) (st mid end : State) (r1 e1 d1 r2 e2 d2 r e d : ℕ)
      → r1 + r2 ≤ r → e + d1 + d2 ≤ e1 + e2 + d → Reaches linear rate s t st mid r1 e1 d1
      → Reaches linear rate t u mid end r2 e2 d2 → Reaches linear rate s u st end r e d
  reaches_after s t u st mid end r1 e1 d1 r2 e2 d2 r e d lr le p q = record {
    cost = p.cost + q.cost;
    credit = p.credit + q.credit;
    paid = ap (λ n. n + q.credit) p.paid ∙ ap (λ n. rate * p.cost + n) q.paid
        ∙ sym (mul-add rate p.cost q.cost);
    most = let x = p.most in let y = q.most in omega arith;
    least = let x = p.least in let y = q.least in omega arith;
    low = let x = p.low in let y = q.low in omega arith;
    grows = prefix_then st.events mid.events end.events p.grows q.grows;
    prior = prior_after s t mid.events end.events p.cost q.cost p.prior p.by q.grows q.prior;
    by = λ k. let y = q.by k in let x = p.by y.0 in (x.0, omega (arith, x.1, y.1), x.2 ∙ y.2);
  }

  -- ---- a claim is carried by what carries its stretches

  -- what leads from a part, at a state, to an end leads there from another too, at another price
  record Carries (s : Part) (st : State) (p : Price) (s' : Part) (st' : State) (r : Price)
      (end : State) : Type 0 where
    slack : (t : Part) → Reaches linear rate s t st end p.turns p.extra p.slack
        → Reaches linear rate s' t st' end r.turns r.extra r.slack
    out : (t : Part) → Reaches linear rate s t st end p.turns p.extra p.out
        → Reaches linear rate s' t st' end r.turns r.extra r.out
    finishes : (seen : Seen) → Finishes linear rate s st end p.turns seen
        → Finishes linear rate s' st' end r.turns seen
    stops : Stops linear rate s st end p.turns p.extra p.out
        → Stops linear rate s' st' end r.turns r.extra r.out

  module _ (s : Part) (st : State) (p : Price) (s' : Part) (st' : State) (r : Price) (end : State)
      (kept kept' : Kept) (fits : (store : Store) → kept end store → kept' end store) where
    arrival_by : ((t : Part) → Reaches linear rate s t st end p.turns p.extra p.slack
        → Reaches linear rate s' t st' end r.turns r.extra r.slack) → (held : ℕ)
        (t : Store → Part)
        → Arrival linear rate s st p.turns p.extra p.slack kept held end t
        → Arrival linear rate s' st' r.turns r.extra r.slack kept' held end t
    arrival_by carry held t a = record {
      store = a.store;
      fits = fits a.store a.fits;
      same = a.same;
      reaches = carry (t a.store) a.reaches;
    }

    arrives_by : ((t : Part) → Reaches linear rate s t st end p.turns p.extra p.slack
        → Reaches linear rate s' t st' end r.turns r.extra r.slack) → (held : ℕ) (way : Way)
        → Arrives linear rate s st p kept held end way
        → Arrives linear rate s' st' r kept' held end way
    arrives_by carry held Never a = a
    arrives_by carry held (To u) a = arrival_by carry held (u end) a
    arrives_by carry held (Out u) a = (
      a.0,
      arrival_by carry held (λ store. u end store a.0) a.1,
    )

    targets_by : ((t : Part) → Reaches linear rate s t st end p.turns p.extra p.out
        → Reaches linear rate s' t st' end r.turns r.extra r.out) → (context : Context)
        (site : Site) (level : ℕ) (exc : Exception)
        → Targets linear rate s st p kept context site level exc end
        → Targets linear rate s' st' r kept' context site level exc end
    targets_by carry context site level exc a = record {
      handler = a.handler;
      picked = a.picked;
      temps = a.temps;
      pc = a.pc;
      store = a.store;
      fits = fits a.store a.fits;
      reaches = carry (unwound linear rate context site
          (target_of a.handler exc.code end.held) a.temps end a.store a.pc) a.reaches;
    }

  module _ (s : Part) (st : State) (p : Price) (s' : Part) (st' : State) (r : Price) (end : State)
      (carries : Carries s st p s' st' r end) (w : Ways) (kept : Kept)
      (fits : (store : Store) → w.kept end store → kept end store) where
    arrives : (way : Way) → Arrives linear rate s st p w.kept w.held end way
        → Arrives linear rate s' st' r kept w.held end way
    arrives = arrives_by s st p s' st' r end w.kept kept fits carries.slack w.held

    -- whatever the result is
    attains_by : (x : Result) → Attains linear rate s st p w end x
        → Attains linear rate s' st' r (record w { kept = kept }) end x
    attains_by (Value x) a = arrives (w.value x) a
    attains_by Normal a = arrives w.normal a
    attains_by (Returned v) a = arrives (w.returned v) a
    attains_by Broke a = arrives w.broke a
    attains_by Continued a = arrives w.again a
    attains_by LeftTry a = arrives w.left a
    attains_by (Target level exc) a = targets_by s st p s' st' r end w.kept kept fits carries.out
        w.context w.site level exc a
    attains_by (End (Some e)) a = carries.finishes (Finished e end.events) a
    attains_by (End None) a = carries.stops a

  -- ---- after a stretch

  abbrev pub Joined : ℕ → ℕ → ℕ → Price → Price → Type 0
  Joined r1 e1 d1 q r = (r1 + q.turns ≤ r.turns) × (r.extra + d1 + q.slack ≤ e1 + q.extra + r.slack)
      × (r.extra + d1 + q.out ≤ e1 + q.extra + r.out)

  finishes_after : (s t : Part) (st mid end : State) (r1 e1 d1 r2 r : ℕ) (seen : Seen) → r1 + r2 ≤ r
      → Reaches linear rate s t st mid r1 e1 d1 → Finishes linear rate t mid end r2 seen
      → Finishes linear rate s st end r seen
  finishes_after s t st mid end r1 e1 d1 r2 r seen lr a b =
      let y = b.by in let x = a.by y.0 in let m = a.most in
      record { by = (x.0, omega (arith, x.1, y.1), x.2 ∙ y.2) }

  stops_after : (s t : Part) (st mid end : State) (r1 e1 d1 r2 e2 o2 r e o : ℕ) → r1 + r2 ≤ r
      → e + d1 + o2 ≤ e1 + e2 + o → Reaches linear rate s t st mid r1 e1 d1
      → Stops linear rate t mid end r2 e2 o2 → Stops linear rate s st end r e o
  stops_after s t st mid end r1 e1 d1 r2 e2 o2 r e o lr le a b =
      let x = a.by b.cost in
      record {
        cost = a.cost + b.cost;
        credit = a.credit + b.credit;
        paid = ap (λ n. n + b.credit) a.paid ∙ ap (λ n. rate * a.cost + n) b.paid
            ∙ sym (mul-add rate a.cost b.cost);
        most = let m = a.most in let n = b.most in omega arith;
        least = let m = a.least in let n = b.least in omega arith;
        grows = prefix_then st.events mid.events end.events a.grows b.grows;
        prior = prior_after s t mid.events end.events a.cost b.cost a.prior a.by b.grows b.prior;
        shown = subst (IsPrefixOf end.events)
            (ap events_of (sym x.2) ∙ ap (λ k. events_of (s (exec linear k))) x.1) b.shown;
      }

  pub after : (s t : Part) (st mid : State) (r1 e1 d1 : ℕ) (q r : Price) (w : Ways) (o : Outcome)
      → Joined r1 e1 d1 q r → Reaches linear rate s t st mid r1 e1 d1
      → Claim linear rate t mid q w o → Claim linear rate s st r w o
  after s t st mid r1 e1 d1 q r w (Gives x end) j a b =
      attains_by t mid q s st r end
      (record {
        slack = λ u. reaches_after s t u st mid end r1 e1 d1 q.turns q.extra q.slack r.turns r.extra
            r.slack j.0 j.1 a;
        out = λ u. reaches_after s t u st mid end r1 e1 d1 q.turns q.extra q.out r.turns r.extra
            r.out j.0 j.2 a;
        finishes = λ seen. finishes_after s t st mid end r1 e1 d1 q.turns r.turns seen j.0 a;
        stops = stops_after s t st mid end r1 e1 d1 q.turns q.extra q.out r.turns r.extra r.out j.0
            j.2 a;
      }) w w.kept (λ store fits. fits) x b

  -- ---- another price, or more steps left at the beginning

  reaches_from : (s t : Part) (st st' end : State) (r e d r' e' d' : ℕ) → st'.events ≡ st.events
      → st.steps_left ≤ st'.steps_left → 16 * st.steps_left + r ≤ 16 * st'.steps_left + r'
      → st'.steps_left + e' + d ≤ st.steps_left + e + d' → Reaches linear rate s t st end r e d
      → Reaches linear rate s t st' end r' e' d'
  reaches_from s t st st' end r e d r' e' d' same left turns slack p = record {
    cost = p.cost;
    credit = p.credit;
    paid = p.paid;
    most = let x = p.most in omega arith;
    least = let x = p.least in omega arith;
    low = let x = p.low in omega arith;
    grows = subst (λ es. IsPrefixOf es end.events) (sym same) p.grows;
    prior = p.prior;
    by = p.by;
  }

  pub finishes_more : (s : Part) (st end : State) (r r' : ℕ) (seen : Seen) → r ≤ r'
      → Finishes linear rate s st end r seen → Finishes linear rate s st end r' seen
  finishes_more s st end r r' seen lr a = let y = a.by in
      record { by = (y.0, omega (arith, y.1), y.2) }

  stops_from : (s : Part) (st st' end : State) (r e o r' e' o' : ℕ) → st'.events ≡ st.events
      → 16 * st.steps_left + r ≤ 16 * st'.steps_left + r'
      → st'.steps_left + e' + o ≤ st.steps_left + e + o'
      → Stops linear rate s st end r e o → Stops linear rate s st' end r' e' o'
  stops_from s st st' end r e o r' e' o' same turns out a = record {
    cost = a.cost;
    credit = a.credit;
    paid = a.paid;
    most = let x = a.most in omega arith;
    least = let x = a.least in omega arith;
    grows = subst (λ es. IsPrefixOf es end.events) (sym same) a.grows;
    prior = a.prior;
    shown = a.shown;
  }

  -- what is allowed at a state allows as much at one with as many steps left or more, and as much
  -- shown
  record Allows (st : State) (p : Price) (st' : State) (r : Price) : Type 0 where
    same : st'.events ≡ st.events
    left : st.steps_left ≤ st'.steps_left
    turns : 16 * st.steps_left + p.turns ≤ 16 * st'.steps_left + r.turns
    slack : st'.steps_left + r.extra + p.slack ≤ st.steps_left + p.extra + r.slack
    out : st'.steps_left + r.extra + p.out ≤ st.steps_left + p.extra + r.out

  allowed : (s : Part) (st st' end : State) (p r : Price) → Allows st p st' r
      → Carries s st p s st' r end
  allowed s st st' end p r j = record {
    slack = λ t. reaches_from s t st st' end p.turns p.extra p.slack r.turns r.extra r.slack j.same
        j.left j.turns j.slack;
    out = λ t. reaches_from s t st st' end p.turns p.extra p.out r.turns r.extra r.out j.same j.left
        j.turns j.out;
    finishes = λ seen a. (let y = a.by in let turns = j.turns in
        record { by = (y.0, omega (arith, y.1), y.2) });
    stops = stops_from s st st' end p.turns p.extra p.out r.turns r.extra r.out j.same j.turns
        j.out;
  }

  claim_from : (s : Part) (st st' : State) (p r : Price) (w : Ways) (o : Outcome)
      → Allows st p st' r → Claim linear rate s st p w o → Claim linear rate s st' r w o
  claim_from s st st' p r w (Gives x end) j a = attains_by s st p s st' r end
      (allowed s st st' end p r j) w w.kept (λ store fits. fits) x a

  -- a step less is left
  pub claim_stepped : (s : Part) (st : State) (n x slack out : ℕ) (w : Ways) → suc n ≡ st.steps_left
      → (o : Outcome) → Claim linear rate s (record st { steps_left = n })
      (price 16 (1 + x) slack out) w o
      → Claim linear rate s st (price 0 x slack out) w o
  claim_stepped s st n x slack out w e o a =
      claim_from s (record st { steps_left = n }) st (price 16 (1 + x) slack out)
      (price 0 x slack out) w o
      (record {
        same = refl;
        left = omega arith;
        turns = omega arith;
        slack = omega arith;
        out = omega arith;
      }) a

  -- ---- the same state

  pub reaches_more : (s t : Part) (st end : State) (r e d r' e' d' : ℕ) → r ≤ r' → e' + d ≤ e + d'
      → Reaches linear rate s t st end r e d → Reaches linear rate s t st end r' e' d'
  reaches_more s t st end r e d r' e' d' lr le p = reaches_from s t st st end r e d r' e' d' refl
      (omega arith) (omega arith) (omega arith) p

  pub stops_more : (s : Part) (st end : State) (r e o r' e' o' : ℕ) → r ≤ r' → e' + o ≤ e + o'
      → Stops linear rate s st end r e o → Stops linear rate s st end r' e' o'
  stops_more s st end r e o r' e' o' lr le a = stops_from s st st end r e o r' e' o' refl
      (omega arith) (omega arith) a

  pub arrives_more : (s : Part) (st end : State) (p r : Price) (kept : Kept) (held : ℕ) (way : Way)
      → p.turns ≤ r.turns → r.extra + p.slack ≤ p.extra + r.slack
      → Arrives linear rate s st p kept held end way → Arrives linear rate s st r kept held end way
  arrives_more s st end p r kept held way lr le a = arrives_by s st p s st r end kept kept
      (λ store fits. fits) (λ t. reaches_more s t st end p.turns p.extra p.slack r.turns r.extra
      r.slack lr le) held way a

  pub targets_more : (s : Part) (st end : State) (p r : Price) (kept : Kept) (context : Context)
      (site : Site) (level : ℕ) (exc : Exception) → p.turns ≤ r.turns
      → r.extra + p.out ≤ p.extra + r.out
      → Targets linear rate s st p kept context site level exc end
      → Targets linear rate s st r kept context site level exc end
  targets_more s st end p r kept context site level exc lr le a = targets_by s st p s st r end kept
      kept (λ store fits. fits) (λ t. reaches_more s t st end p.turns p.extra p.out r.turns r.extra
      r.out lr le) context site level exc a

  dearer : (s : Part) (st end : State) (p r : Price) → Dearer p r → Carries s st p s st r end
  dearer s st end p r j = let turns = j.0 in let slack = j.1 in let out = j.2 in
      allowed s st st end p r (record {
        same = refl;
        left = omega arith;
        turns = omega arith;
        slack = omega arith;
        out = omega arith;
      })

  -- a dearer price is enough for each result
  pub attains_more : (s : Part) (st end : State) (p r : Price) (w : Ways) (x : Result) → Dearer p r
      → Attains linear rate s st p w end x → Attains linear rate s st r w end x
  attains_more s st end p r w x j a = attains_by s st p s st r end (dearer s st end p r j) w w.kept
      (λ store fits. fits) x a

  pub more : (s : Part) (st : State) (p r : Price) (w : Ways) (o : Outcome) → Dearer p r
      → Claim linear rate s st p w o → Claim linear rate s st r w o
  more s st p r w (Gives x end) j a = attains_more s st end p r w x j a

  -- a target or an end, where no other result may come, is one whatever else may come
  pub attains_out : (s : Part) (st end : State) (p r : Price) (w : Ways) (x : Result)
      → p.turns ≤ r.turns → r.extra + p.out ≤ p.extra + r.out
      → Attains linear rate s st p (no_ways w.kept w.context w.site) end x
      → Attains linear rate s st r w end x
  attains_out s st end p r w (Target level exc) lr le a = targets_more s st end p r w.kept w.context
      w.site level exc lr le a
  attains_out s st end p r w (End (Some e)) lr le a = finishes_more s st end p.turns r.turns
      (Finished e end.events) lr a
  attains_out s st end p r w (End None) lr le a = stops_more s st end p.turns p.extra p.out r.turns
      r.extra r.out lr le a
  attains_out s st end p r w x lr le a = absurd a

  -- more stores may be there
  pub claim_kept : (s : Part) (st : State) (p : Price) (w : Ways) (kept : Kept) (o : Outcome)
      → ((st : State) (store : Store) → w.kept st store → kept st store)
      → Claim linear rate s st p w o → Claim linear rate s st p (record w { kept = kept }) o
  claim_kept s st p w kept (Gives x end) fits a = attains_by s st p s st p end
      (record { slack = λ t a. a; out = λ t a. a; finishes = λ seen a. a; stops = λ a. a }) w kept
      (fits end) x a

  joined : (p q r : Price) → Join p q r → Joined p.turns p.extra p.slack q r
  joined p q r j = (j.turns, j.slack, j.second_out)

  -- ---- one thing after another

  abbrev pub ThenValue : (v : ℕ → State → Store → Part) → Ways → State → Price
      → (ℕ → State → Outcome) → Type 0
  ThenValue v w st q k = (x : ℕ) (mid : State) (store : Store) → mid.steps_left ≤ st.steps_left
      → w.kept mid store → mid.held ≡ w.site.held
      → Claim linear rate (v x mid store) mid q w (k x mid)

  abbrev pub ThenNormal : (t : State → Store → Part) → Ways → State → Price → (State → Outcome)
      → Type 0
  ThenNormal t w st q k = (mid : State) (store : Store) → mid.steps_left ≤ st.steps_left
      → w.kept mid store → mid.held ≡ w.held → Claim linear rate (t mid store) mid q w (k mid)

  -- a value, with which so much is held
  pub then_value_held : (s : Part) (v : ℕ → State → Store → Part) (held : ℕ) (w : Ways) (st : State)
      (p q r : Price) (o : Outcome) (k : ℕ → State → Outcome) → Join p q r
      → Claim linear rate s st p (record (value_ways v w.kept w.context w.site) { held = held }) o
      → ((x : ℕ) (mid : State) (store : Store) → mid.steps_left ≤ st.steps_left
      → w.kept mid store → mid.held ≡ held → Claim linear rate (v x mid store) mid q w (k x mid))
      → Claim linear rate s st r w (with_value o k)
  unfolding with_value
  then_value_held s v held w st p q r (Gives (Value x) mid) k j a b = after s (v x mid a.store) st
      mid p.turns p.extra p.slack q r w (k x mid) (joined p q r j) a.reaches
      (b x mid a.store a.reaches.low a.fits a.same)
  then_value_held s v held w st p q r (Gives x mid) k j a b = let lr = j.turns in
      attains_out s st mid p r w x (omega arith) j.first_out a

  pub then_value : (s : Part) (v : ℕ → State → Store → Part) (w : Ways) (st : State) (p q r : Price)
      (o : Outcome) (k : ℕ → State → Outcome) → Join p q r
      → Claim linear rate s st p (value_ways v w.kept w.context w.site) o → ThenValue v w st q k
      → Claim linear rate s st r w (with_value o k)
  then_value s v w st p q r o k j a b = then_value_held s v w.site.held w st p q r o k j a b

  -- what is left where the first part of a block ends otherwise
  abbrev pub Passes : Price → Price → Type 0
  Passes p r = r.extra + p.slack ≤ p.extra + r.slack

  pub then_normal : (s : Part) (t : State → Store → Part) (w : Ways) (st : State) (p q r : Price)
      (o : Outcome) (k : State → Outcome) → Join p q r → Passes p r
      → Claim linear rate s st p (first_ways t w) o → ThenNormal t w st q k
      → Claim linear rate s st r w (and_then o k)
  unfolding and_then
  then_normal s t w st p q r (Gives (Value x) mid) k j l a b = absurd a
  then_normal s t w st p q r (Gives Normal mid) k j l a b = after s (t mid a.store) st mid p.turns
      p.extra p.slack q r w (k mid) (joined p q r j) a.reaches
      (b mid a.store a.reaches.low a.fits a.same)
  then_normal s t w st p q r (Gives x mid) k j l a b = let lr = j.turns in
      attains_more s st mid p r (first_ways t w) x (omega arith, l, j.first_out) a

  -- the same where only a normal end, with so much held, a target or an end may come
  pub then_held : (s : Part) (t : State → Store → Part) (held : ℕ) (w : Ways) (st : State)
      (p q r : Price) (o : Outcome) (k : State → Outcome) → Join p q r
      → Claim linear rate s st p (record (normal_ways t w.kept w.context w.site) { held = held }) o
      → ((mid : State) (store : Store) → mid.steps_left ≤ st.steps_left → w.kept mid store
      → mid.held ≡ held → Claim linear rate (t mid store) mid q w (k mid))
      → Claim linear rate s st r w (and_then o k)
  unfolding and_then
  then_held s t held w st p q r (Gives Normal mid) k j a b = after s (t mid a.store) st mid p.turns
      p.extra p.slack q r w (k mid) (joined p q r j) a.reaches
      (b mid a.store a.reaches.low a.fits a.same)
  then_held s t held w st p q r (Gives x mid) k j a b = let lr = j.turns in
      attains_out s st mid p r w x (omega arith) j.first_out a

  pub then_plain : (s : Part) (t : State → Store → Part) (w : Ways) (st : State) (p q r : Price)
      (o : Outcome) (k : State → Outcome) → Join p q r
      → Claim linear rate s st p (normal_ways t w.kept w.context w.site) o
      → ((mid : State) (store : Store) → mid.steps_left ≤ st.steps_left → w.kept mid store
      → mid.held ≡ w.site.held → Claim linear rate (t mid store) mid q w (k mid))
      → Claim linear rate s st r w (and_then o k)
  then_plain s t w st p q r o k j a b = then_held s t w.site.held w st p q r o k j a b
