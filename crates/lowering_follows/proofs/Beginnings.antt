-- A function's beginning: its separators are the steps that its activation counts above 1.
use Rattle.std.proofs.Common.{◌≡◌, ◌⊎◌, inl, inr, ◌<◌, ◌≤◌, ℕ, zero, suc, ◌+◌, [], refl, ap, sym, subst, arith}
use Rattle.std.proofs.lemmas.Bool.{cases_lt, lt-ltb, le-ltb}
use Rattle.std.proofs.lemmas.List.{length-replicate, replicate-append-replicate}
use Rattle.std.specs.Prelude.{replicate}
use Rattle.lowering_follows.specs.Words.{State, Outcome, Context, LinearProgram, Separator, Store, HasAt, exec, count_steps}
use Rattle.source_meaning.specs.State.{counting}
use Rattle.source_meaning.proofs.Counting.{too_few, enough}
use Rattle.lowering_follows.proofs.Places.{has_front, has_after}
use Rattle.lowering_follows.proofs.Lemmas.{Part, at, Site, conf, Ways, price, Claim, Reaches, reaches_after, after, fetch, still, stepped, stopped, prefix_self, from_none}

module _ (linear : LinearProgram) (rate : ℕ) (roomy : 1 ≤ rate) (context : Context) (site : Site)
    (store : Store) where
  abbrev place : ℕ → State → Part
  place pc st = at (conf context site pc [] st store)

  -- a turn for each separator
  separators_turn : (n pc : ℕ) (st : State)
      → HasAt linear site.body site.regions pc (replicate n Separator)
      → Reaches linear rate (place pc st) (place (pc + n) st) st st n n 0
  separators_turn zero pc st has = still linear rate (place pc st) (place (pc + 0) st) st st 0 0 0
      refl (omega arith) (prefix_self st.events)
      (λ k. ap (λ p. exec linear k (conf context site p [] st store)) (omega arith))
  separators_turn (suc n) pc st has =
      let end : pc + 1 + n ≡ pc + suc n = omega arith in
      reaches_after linear rate (place pc st) (place (pc + 1) st) (place (pc + suc n) st) st st st 1
      1 0 n n 0 (suc n) (suc n) 0 (omega arith) (omega arith)
      (stepped linear rate (conf context site pc [] st store) (place (pc + 1) st) st st 1 1 0 refl
      (omega arith) (omega arith) refl (prefix_self st.events)
      (λ k. fetch linear rate (conf context site pc [] st store) Separator k has.0))
      (subst (λ p. Reaches linear rate (place (pc + 1) st) (place p st) st st n n 0) end
      (separators_turn n (pc + 1) st has.2))

  -- so many separators, and so many more after them
  pub separators_then : (n k pc : ℕ)
      → HasAt linear site.body site.regions pc (replicate (n + k) Separator)
      → HasAt linear site.body site.regions pc (replicate n Separator)
      × HasAt linear site.body site.regions (pc + n) (replicate k Separator)
  separators_then n k pc has =
      let all = subst (HasAt linear site.body site.regions pc)
      (sym (replicate-append-replicate n k Separator)) has in (
        has_front linear site.body site.regions pc (replicate n Separator) (replicate k Separator)
            all,
        has_after linear site.body site.regions pc n (replicate n Separator)
            (replicate k Separator) (length-replicate n Separator) all,
      )

  -- steps before a stretch pay for as many turns of it
  steps_pay : (s t : Part) (n : ℕ) (st : State) → n ≤ st.steps_left
      → Reaches linear rate s t (count_steps n st) (count_steps n st) n n 0
      → Reaches linear rate s t st (count_steps n st) 0 0 0
  steps_pay s t n st le p = record {
    cost = p.cost;
    credit = p.credit;
    paid = p.paid;
    most = let x = p.most in omega arith;
    least = let x = p.least in omega arith;
    low = omega arith;
    grows = p.grows;
    prior = p.prior;
    by = p.by;
  }

  pub separators_reach : (n pc : ℕ) (st : State) → n ≤ st.steps_left
      → HasAt linear site.body site.regions pc (replicate n Separator)
      → Reaches linear rate (place pc st) (place (pc + n) (count_steps n st)) st (count_steps n st)
      0 0 0
  separators_reach n pc st le has = steps_pay (place pc st) (place (pc + n) (count_steps n st)) n st
      le (separators_turn n pc (count_steps n st) has)

  module _ (turns slack : ℕ) (w : Ways) where
    abbrev Comes : Part → State → Outcome → Type 0
    Comes s st o = Claim linear rate s st (price turns 0 slack slack) w o

    -- as many steps as separators; where fewer are left, they end before the separators do
    pub separators_claim : (n pc : ℕ) (st : State) (go : State → Outcome)
        → HasAt linear site.body site.regions pc (replicate n Separator) → n ≤ slack
        → Comes (place (pc + n) (count_steps n st)) (count_steps n st) (go (count_steps n st))
        → Comes (place pc st) st (counting n st go)
    separators_claim n pc st go has le a = by_left (cases_lt st.steps_left n)
      where
        by_left : (st.steps_left < n) ⊎ (n ≤ st.steps_left)
            → Comes (place pc st) st (counting n st go)
        by_left (inl few) = subst (λ o. Comes (place pc st) st o)
            (sym (too_few n st go (lt-ltb st.steps_left n few)))
            (stopped linear rate (place pc st) st turns 0 slack (omega arith)
            (from_none linear 0 (conf context site pc [] st store)))
        by_left (inr left) = subst (λ o. Comes (place pc st) st o)
            (sym (enough n st go (le-ltb st.steps_left n left)))
            (after linear rate (place pc st) (place (pc + n) (count_steps n st)) st
            (count_steps n st) 0 0 0 (price turns 0 slack slack) (price turns 0 slack slack) w
            (go (count_steps n st)) (omega arith, omega arith, omega arith)
            (separators_reach n pc st left has) a)

    -- so many separators more, which are no steps
    pub passed_claim : (n dearer pc : ℕ) (st : State) (o : Outcome) → n + turns ≤ dearer
        → HasAt linear site.body site.regions pc (replicate n Separator)
        → Comes (place (pc + n) st) st o
        → Claim linear rate (place pc st) st (price dearer 0 slack slack) w o
    passed_claim n dearer pc st o le has a = after linear rate (place pc st) (place (pc + n) st) st
        st n n 0 (price turns 0 slack slack) (price dearer 0 slack slack) w o
        (omega arith, omega arith, omega arith) (separators_turn n pc st has) a
