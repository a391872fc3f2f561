-- Stretches of one turn or none, steps of tasks, and claims at a depth that may be too large.
use Rattle.std.proofs.Common.{◌≡◌, ℕ, zero, suc, ◌+◌, ◌≤◌, List, length, refl, ap, ◌∙◌, subst, arith, sym}
use native.Mathlib.Nat.{mul-zero, mul-one}
use Rattle.std.specs.Prelude.{Bool, true, false, nat_lt, Some, None}
use Rattle.linear_machine.specs.Words.{Event, State, End, Outcome, Gives, choose, depth, counted, IsPrefixOf, Instruction, LinearProgram, Store, Configuration, Seen, Finished, pick, with_some, act, instruction_at, exec}
use Rattle.source_meaning.specs.declared.ended.Ended.TheVariants.{Deep}
use Rattle.source_meaning.specs.State.{deeper}
use Rattle.linear_machine.proofs.Lemmas.{prefix_self}
use Rattle.linear_machine.specs.Frames.{deeper as deeper'}
use Rattle.linear_machine.proofs.RunLengths.{events_of}
use Rattle.linear_machine.proofs.Stretch.{Part, at, Ways, Before, Price, price, Reaches, Stops, Claim}
use Rattle.linear_machine.proofs.StretchJoins.{Joined, after, claim_stepped}

module _ (linear : LinearProgram) (rate : ℕ) where
  none_prior : (s : Part) (es : List Event) (i : ℕ) → suc i ≡ 0 → Before (s (exec linear i)) es
  none_prior s es i e = absurd (omega arith)

  one_prior : (s : Part) (es : List Event) → Before (s (exec linear 0)) es → (i : ℕ) → suc i ≡ 1
      → Before (s (exec linear i)) es
  one_prior s es b zero e = b
  one_prior s es b (suc i) e = absurd (omega arith)

  -- no turn
  pub still : (s t : Part) (st end : State) (r e d : ℕ) → end.steps_left ≡ st.steps_left → e ≤ d
      → IsPrefixOf st.events end.events → ((k : ℕ) → s (exec linear k) ≡ t (exec linear k))
      → Reaches linear rate s t st end r e d
  still s t st end r e d same le g h = record {
    cost = 0;
    credit = 0;
    paid = sym (mul-zero rate);
    most = omega arith;
    least = omega arith;
    low = omega arith;
    grows = g;
    prior = none_prior s end.events;
    by = λ k. (k, omega arith, h k);
  }

  -- one turn
  pub turned : (s t : Part) (st end : State) (r e d : ℕ) → end.steps_left ≡ st.steps_left → 1 ≤ r
      → e ≤ rate + d → Before (s (exec linear 0)) end.events → IsPrefixOf st.events end.events
      → ((k : ℕ) → s (exec linear (suc k)) ≡ t (exec linear k))
      → Reaches linear rate s t st end r e d
  turned s t st end r e d same lr le b g h = record {
    cost = 1;
    credit = rate;
    paid = sym (mul-one rate);
    most = omega arith;
    least = omega arith;
    low = omega arith;
    grows = g;
    prior = one_prior s end.events b;
    by = λ k. (suc k, omega arith, h k);
  }

  before_first : (c : Configuration) (st mid : State) → c.events ≡ st.events
      → IsPrefixOf st.events mid.events → Before (exec linear 0 c) mid.events
  unfolding exec
  before_first c st mid e g = (c.events, refl, subst (λ es. IsPrefixOf es mid.events) (sym e) g)

  -- one turn from a place
  pub stepped : (c : Configuration) (t : Part) (st mid : State) (r e d : ℕ)
      → mid.steps_left ≡ st.steps_left → 1 ≤ r → e ≤ rate + d → c.events ≡ st.events
      → IsPrefixOf st.events mid.events
      → ((k : ℕ) → exec linear (suc k) c ≡ t (exec linear k))
      → Reaches linear rate (at c) t st mid r e d
  stepped c t st mid r e d same lr le same_events g h = turned (at c) t st mid r e d same lr le
      (before_first c st mid same_events g) g h

  -- one turn from a place, and what comes then
  pub first : (c : Configuration) (t : Part) (st mid : State) (q r : Price) (w : Ways) (o : Outcome)
      → Joined linear rate 1 rate 0 q r → mid.steps_left ≡ st.steps_left → c.events ≡ st.events
      → IsPrefixOf st.events mid.events
      → ((k : ℕ) → exec linear (suc k) c ≡ t (exec linear k)) → Claim linear rate t mid q w o
      → Claim linear rate (at c) st r w o
  first c t st mid q r w o j same e g h p = after linear rate (at c) t st mid 1 rate 0 q r w o j
      (stepped c t st mid 1 rate 0 same (omega arith) (omega arith) e g h) p

  -- the instruction at a place
  pub fetch : (c : Configuration) (i : Instruction) (k : ℕ) → instruction_at linear c ≡ Some i
      → exec linear (suc k) c ≡ act linear i (exec linear k) c
  unfolding exec with_some
  fetch c i k h = ap (λ o. with_some c.events o (λ i. act linear i (exec linear k) c)) h

  -- nothing was done, as no step is left
  pub stopped : (s : Part) (st : State) (r e o : ℕ) → st.steps_left + e ≤ o
      → IsPrefixOf st.events (events_of (s (exec linear 0)))
      → Stops linear rate s st st r e o
  stopped s st r e o le shown = record {
    cost = 0;
    credit = 0;
    paid = sym (mul-zero rate);
    most = omega arith;
    least = omega arith;
    grows = prefix_self st.events;
    prior = none_prior s st.events;
    shown = shown;
  }

  -- ---- a task's step

  pub counted_claim : (s : Part) (w : Ways) (st : State) (x slack out : ℕ) (k : State → Outcome)
      → x ≤ out → IsPrefixOf st.events (events_of (s (exec linear 0)))
      → ((n : ℕ) → suc n ≡ st.steps_left → Claim linear rate s (record st { steps_left = n })
      (price 16 (1 + x) slack out) w (k (record st { steps_left = n })))
      → Claim linear rate s st (price 0 x slack out) w (counted st k)
  unfolding counted
  counted_claim s w st x slack out k small shown h = by_left st.steps_left refl
    where
      by_left : (l : ℕ) → l ≡ st.steps_left → Claim linear rate s st (price 0 x slack out) w
          (elim l [ zero ↦ Gives (End None) st | suc n ↦ k (record st { steps_left = n }) ])
      by_left zero e = stopped s st 0 x out (omega arith) shown
      by_left (suc n) e = claim_stepped linear rate s st n x slack out w e
          (k (record st { steps_left = n })) (h n e)

  -- the same, seen from a state with less shown
  pub sooner : (s : Part) (st mid : State) (p : Price) (w : Ways) (o : Outcome)
      → mid.steps_left ≡ st.steps_left → IsPrefixOf st.events mid.events
      → Claim linear rate s mid p w o
      → Claim linear rate s st p w o
  sooner s st mid p w o e g a = after linear rate s s st mid 0 0 0 p p w o
      (omega arith, omega arith, omega arith) (still s s st mid 0 0 0 e (omega arith) g (λ k. refl))
      a

  -- a part by another name
  pub onto : (s t u : Part) (st end : State) (r e d : ℕ)
      → ((k : ℕ) → t (exec linear k) ≡ u (exec linear k)) → Reaches linear rate s t st end r e d
      → Reaches linear rate s u st end r e d
  onto s t u st end r e d h p = record {
    cost = p.cost;
    credit = p.credit;
    paid = p.paid;
    most = p.most;
    least = p.least;
    low = p.low;
    grows = p.grows;
    prior = p.prior;
    by = λ k. let y = p.by k in (y.0, y.1, y.2 ∙ h k);
  }

  -- ---- at a depth that may be too large

  deep_by : (b : Bool) (s : Part) (st : State) (p : Price) (w : Ways) (go : State → Outcome)
      → Claim linear rate s st p w (go st)
      → Claim linear rate (λ next. pick b (Finished (Deep 1001) st.events) (s next)) st p w
      (choose b (λ st. Gives (End (Some (Deep 1001))) st) go st)
  unfolding pick choose
  deep_by true s st p w go a = record { by = (0, omega arith, refl) }
  deep_by false s st p w go a = a

  pub deep_claim : (n held : ℕ) (store : Store) (s : Part) (st : State) (p : Price) (w : Ways)
      (go : State → Outcome) → length store.activations ≡ length st.frames → st.held ≡ held
      → Claim linear rate s st p w (go st)
      → Claim linear rate (λ next. deeper' n held store st.events (s next)) st p w (deeper n st go)
  unfolding deeper
  deep_claim n held store s st p w go same held_same a =
      let e : nat_lt 1000 (depth st + n) ≡ nat_lt 1000 (length store.activations + held + n) =
      ap (λ k. nat_lt 1000 (k + st.held + n)) (sym same)
      ∙ ap (λ k. nat_lt 1000 (length store.activations + k + n)) held_same in
      subst (λ b. Claim linear rate (λ next. pick b (Finished (Deep 1001) st.events) (s next)) st p
      w (choose (nat_lt 1000 (depth st + n)) (λ st. Gives (End (Some (Deep 1001))) st) go st)) e
      (deep_by (nat_lt 1000 (depth st + n)) s st p w go a)

  shown_by : (b : Bool) (es : List Event) (seen : Seen)
      → IsPrefixOf es (events_of seen)
      → IsPrefixOf es (events_of (pick b (Finished (Deep 1001) es) seen))
  unfolding pick
  shown_by true es seen p = prefix_self es
  shown_by false es seen p = p

  pub shown_deep : (n held : ℕ) (store : Store) (es : List Event) (seen : Seen)
      → IsPrefixOf es (events_of seen)
      → IsPrefixOf es (events_of (deeper' n held store es seen))
  shown_deep n held store es seen p = shown_by (nat_lt 1000 (length store.activations + held + n))
      es seen p

  -- a condition
  pub chosen : (b : Bool) (c : Configuration) (t u : Part) (q r : Price) (w : Ways)
      (f g : State → Outcome) (st : State) → (1 + q.turns ≤ r.turns)
      × (r.extra + q.slack ≤ rate + q.extra + r.slack) × (r.extra + q.out ≤ rate + q.extra + r.out)
      → c.events ≡ st.events
      → ((k : ℕ) → exec linear (suc k) c ≡ pick b (t (exec linear k)) (u (exec linear k)))
      → Claim linear rate t st q w (f st) → Claim linear rate u st q w (g st)
      → Claim linear rate (at c) st r w (choose b f g st)
  unfolding choose pick
  chosen true c t u q r w f g st j e h x y = let a = j.1 in let b = j.2 in
      first c t st st q r w (f st) (j.0, omega arith, omega arith) refl e (prefix_self st.events) h
      x
  chosen false c t u q r w f g st j e h x y = let a = j.1 in let b = j.2 in
      first c u st st q r w (g st) (j.0, omega arith, omega arith) refl e (prefix_self st.events) h
      y
