-- What more steps show begins with what fewer steps show, and an end stays.
use Rattle.std.proofs.Common.{◌≡◌, ℕ, zero, suc, ◌+◌, ◌-◌, ◌≤◌, List, ◌++◌, refl, sym, ap, ◌∙◌}
use Rattle.std.proofs.Common.{subst, arith, inl, inr}
use Rattle.std.proofs.lemmas.Bool.{cases_Bool, ltb-false, le-ltb}
use Rattle.std.specs.Prelude.{Bool, true, false, nat_lt, slice_get, ℤ, Option, Some, None, ◌⊎◌}
use Rattle.std.proofs.lemmas.Option.{none-some}
use Rattle.source_meaning.specs.Words.{Event, Program, State, Result, Value, End, Outcome, Gives, how_of, state_of, counting, counted, enter, perform, within, start, outside, main_arguments, ran, shows, meaning, is_calm, IsPrefixOf, ShowsMore, EndStays, CalmBefore, EventsGrow}
use Rattle.seh_num.specs.Shown.{Shown}
use Rattle.source_meaning.specs.declared.ended.Ended.{Ended}
use Rattle.source_meaning.proofs.Relations.{Relation, with_left}
use Rattle.source_meaning.proofs.Counting.{too_few, enough}
use Rattle.source_meaning.proofs.RelatedMeanings.{Related, perform_go, enter_go}
use Rattle.source_meaning.proofs.RemainingSteps.{enters_within}
use Rattle.source_meaning.proofs.Prefixes.{prefix_self, prefix_then}

abbrev events_of : Outcome → List Event
events_of o = (state_of o).events

-- ---- the relation, of k more steps, of which m at most are left

-- the same result, with k more steps left
record Alive (k m : ℕ) (o o' : Outcome) : Type 0 where
  same : o' ≡ Gives (how_of o) (with_left ((state_of o).steps_left + k) (state_of o))
  low : (state_of o).steps_left + k ≤ m

-- the first had no step left, and the second shows what it showed, and maybe more
record Dead (o o' : Outcome) : Type 0 where
  ended : how_of o ≡ End None
  front : IsPrefixOf (events_of o) (events_of o')

abbrev Kin : ℕ → ℕ → Outcome → Outcome → Type 0
Kin k m o o' = Alive k m o o' ⊎ Dead o o'

abbrev Claimed : Bool → Type 0 → Type 0
Claimed true P = P
Claimed false P = Unit {0}

abbrev Out : ℕ → ℕ → Bool → List Event → Outcome → Outcome → Type 0
Out k m a es o o' = IsPrefixOf es (events_of o') × Claimed a (Kin k m o o')

abbrev Near : ℕ → ℕ → Bool → ℕ → ℕ → Type 0
Near k m a l l' = Claimed a ((l' ≡ l + k) × (l' ≤ m))

module _ (k m : ℕ) where
  gives_claim : (a : Bool) (how : Result) (st : State) (l : ℕ) → Near k m a st.steps_left l
      → Claimed a (Kin k m (Gives how st) (Gives how (with_left l st)))
  gives_claim true how st l n =
      let e = n.0 in
      let le = n.1 in
      inl (record { same = ap (λ j. Gives how (with_left j st)) e; low = subst (λ j. j ≤ m) e le })
  gives_claim false how st l n = tt

  kin_gives : (a : Bool) (how : Result) (st : State) (l : ℕ) → Near k m a st.steps_left l
      → Out k m a st.events (Gives how st) (Gives how (with_left l st))
  kin_gives a how st l n = (prefix_self st.events, gives_claim a how st l n)

  kin_later : (a : Bool) (es more : List Event) (o o' : Outcome)
      → Out k m a (es ++ more) o o' → Out k m a es o o'
  kin_later a es more o o' s = (prefix_then es (es ++ more) (events_of o') (more, refl) s.0, s.1)

  abbrev Stops : (Outcome → Outcome) → Type 0
  Stops c = (st : State) → c (Gives (End None) st) ≡ Gives (End None) st

  abbrev Cases : (Outcome → Outcome) → (Outcome → Outcome) → Type 0
  Cases c c' =
      (a : Bool) (how : Result) (st : State) (l : ℕ) → Near k m a st.steps_left l
      → Out k m a st.events (c (Gives how st)) (c' (Gives how (with_left l st)))

  grows : (c c' : Outcome → Outcome) → Cases c c' → (o' : Outcome)
      → IsPrefixOf (events_of o') (events_of (c' o'))
  grows c c' cases (Gives how st) = (cases false how st st.steps_left tt).0

  alive_through : (c c' : Outcome → Outcome) → Cases c c' → (o o' : Outcome) → Alive k m o o'
      → Kin k m (c o) (c' o')
  alive_through c c' cases (Gives how st) o' s =
      let low = s.low in
      subst (λ x. Kin k m (c (Gives how st)) (c' x)) (sym s.same)
      (cases true how st (st.steps_left + k) (refl, low)).1

  dead_through : (c c' : Outcome → Outcome) → Stops c → (o o' : Outcome)
      → IsPrefixOf (events_of o') (events_of (c' o')) → Dead o o' → Kin k m (c o) (c' o')
  dead_through c c' stops (Gives how st) o' more s =
      let front : IsPrefixOf st.events (events_of (c' o')) =
      prefix_then st.events (events_of o') (events_of (c' o')) s.front more in
      let at_end : Kin k m (c (Gives (End None) st)) (c' o') =
      subst (λ x. Kin k m x (c' o')) (sym (stops st))
      (inr (record { ended = refl; front = front })) in
      subst (λ h. Kin k m (c (Gives h st)) (c' o')) (sym s.ended) at_end

  kin_through : (c c' : Outcome → Outcome) → Stops c → Cases c c' → (o o' : Outcome) → Kin k m o o'
      → Kin k m (c o) (c' o')
  kin_through c c' stops cases o o' s =
      elim s [
        | inl s ↦ alive_through c c' cases o o' s
        | inr s ↦ dead_through c c' stops o o' (grows c c' cases o') s
      ]

  claim_through : (c c' : Outcome → Outcome) → Stops c → Cases c c' → (a : Bool) (o o' : Outcome)
      → Claimed a (Kin k m o o') → Claimed a (Kin k m (c o) (c' o'))
  claim_through c c' stops cases true o o' s = kin_through c c' stops cases o o' s
  claim_through c c' stops cases false o o' s = tt

  -- ---- several steps at once

  abbrev Steps : (State → Outcome) → (State → Outcome) → Type 0
  Steps go go' =
      (a : Bool) (st : State) (l : ℕ) → Near k m a st.steps_left l
      → Out k m a st.events (go st) (go' (with_left l st))

  counting_grows : (n : ℕ) (go go' : State → Outcome) → Steps go go' → (st : State)
      → IsPrefixOf st.events (events_of (counting n st go'))
  counting_grows n go go' h st = by_test (cases_Bool (nat_lt st.steps_left n))
    where
      by_test : (nat_lt st.steps_left n ≡ true) ⊎ (nat_lt st.steps_left n ≡ false)
          → IsPrefixOf st.events (events_of (counting n st go'))
      by_test (inl e) =
          subst (λ o. IsPrefixOf st.events (events_of o)) (sym (too_few n st go' e))
          (prefix_self st.events)
      by_test (inr e) =
          let left = st.steps_left - n in
          subst (λ o. IsPrefixOf st.events (events_of o)) (sym (enough n st go' e))
          (h false (with_left left st) left tt).0

  counting_kin : (n : ℕ) (go go' : State → Outcome) → Steps go go' → (st : State)
      → st.steps_left + k ≤ m
      → Kin k m (counting n st go) (counting n (with_left (st.steps_left + k) st) go')
  counting_kin n go go' h st low = by_test (cases_Bool (nat_lt st.steps_left n))
    where
      more : State
      more = with_left (st.steps_left + k) st

      by_test : (nat_lt st.steps_left n ≡ true) ⊎ (nat_lt st.steps_left n ≡ false)
          → Kin k m (counting n st go) (counting n more go')
      by_test (inl e) =
          subst (λ o. Kin k m o (counting n more go')) (sym (too_few n st go e))
          (inr (record { ended = refl; front = counting_grows n go go' h more }))
      by_test (inr e) =
          let left = st.steps_left - n in
          let fits : n ≤ st.steps_left = ltb-false st.steps_left n e in
          let there : nat_lt (st.steps_left + k) n ≡ false =
          le-ltb (st.steps_left + k) n (omega arith) in
          let both : (st.steps_left + k) - n ≡ left + k = omega arith in
          let less : left + k ≤ m = omega arith in
          subst (λ o. Kin k m o (counting n more go')) (sym (enough n st go e))
          (subst (λ o. Kin k m (go (with_left left st)) o) (sym (enough n more go' there))
          (subst (λ j. Kin k m (go (with_left left st)) (go' (with_left j st))) (sym both)
          (h true (with_left left st) (left + k) (refl, less)).1))

  counting_claim : (n : ℕ) (go go' : State → Outcome) → Steps go go' → (a : Bool) (st : State)
      (l : ℕ) → Near k m a st.steps_left l
      → Claimed a (Kin k m (counting n st go) (counting n (with_left l st) go'))
  counting_claim n go go' h true st l near =
      subst (λ l. Kin k m (counting n st go) (counting n (with_left l st) go')) (sym near.0)
      (counting_kin n go go' h st (subst (λ j. j ≤ m) near.0 near.1))
  counting_claim n go go' h false st l near = tt

  kin : Relation
  kin =
      record {
        near = Near k m;
        out = Out k m;
        gives = kin_gives;
        later = kin_later;
        counts = λ n go go' h a st l near. (
          counting_grows n go go' h (with_left l st),
          counting_claim n go go' h a st l near,
        );
        through = λ c c' stops cases a es o o' s. (
          prefix_then es (events_of o') (events_of (c' o')) s.0 (grows c c' cases o'),
          claim_through c c' stops cases a o o' s.1,
        );
      }

-- ---- tasks, with one bound on both sides

counted_grows : (st : State) (go : State → Outcome)
    → ((p : ℕ) → IsPrefixOf st.events (events_of (go (with_left p st))))
    → IsPrefixOf st.events (events_of (counted st go))
unfolding counted
counted_grows st go h = by_left st.steps_left
  where
    by_left : (l : ℕ) → IsPrefixOf st.events (events_of
        (elim l [ zero ↦ Gives (End None) st | suc n ↦ go (record st { steps_left = n }) ]))
    by_left zero = prefix_self st.events
    by_left (suc p) = h p

wider : (k m : ℕ) (o o' : Outcome) → Kin k m o o' → Kin k (suc m) o o'
wider k m o o' s =
    elim s [
      | inl s ↦ let low = s.low in inl (record { same = s.same; low = omega arith })
      | inr s ↦ inr s
    ]

counted_kin :
    (k m : ℕ) (st : State) (go : State → Outcome) (l : ℕ) → l ≡ st.steps_left + k → l ≤ suc m
    → IsPrefixOf st.events (events_of (counted (with_left l st) go))
    → ((p : ℕ) → p + k ≤ m → Kin k m (go (with_left p st)) (go (with_left (p + k) st)))
    → Kin k (suc m) (counted st go) (counted (with_left l st) go)
unfolding counted
counted_kin k m st go l e le more h = by_left st.steps_left l e le more
  where
    by_left :
        (i j : ℕ) → j ≡ i + k → j ≤ suc m → IsPrefixOf st.events
        (events_of
        (elim j [ zero ↦ Gives (End None) (with_left l st) | suc n ↦ go (with_left n st) ]))
        → Kin k (suc m) (elim i [ zero ↦ Gives (End None) st | suc n ↦ go (with_left n st) ])
        (elim j [ zero ↦ Gives (End None) (with_left l st) | suc n ↦ go (with_left n st) ])
    by_left zero j e le more = inr (record { ended = refl; front = more })
    by_left (suc p) zero e le more = absurd (omega arith)
    by_left (suc p) (suc q) e le more =
        let same : q ≡ p + k = omega arith in
        let low : p + k ≤ m = omega arith in
        wider k m _ _ (subst (λ j. Kin k m (go (with_left p st)) (go (with_left j st))) (sym same)
        (h p low))

within_alike : (k : ℕ) (program : Program) (m : ℕ)
    → Related (kin k m) (within program m) (within program m)
unfolding kin
within_alike k program zero task context true st l n =
    (prefix_self st.events, inr (record { ended = refl; front = prefix_self st.events }))
within_alike k program zero task context false st l n = (prefix_self st.events, tt)
within_alike k program (suc m) task context true st l n =
    let go : State → Outcome = perform program (within program m) task context in
    let inside : Related (kin k m) (perform program (within program m))
    (perform program (within program m)) =
    perform_go (kin k m) program (within program m) (within program m)
    (within_alike k program m) in
    let more : IsPrefixOf st.events (events_of (counted (with_left l st) go)) =
    counted_grows (with_left l st) go
    (λ p. (inside task context false (with_left p st) p tt).0) in (
      more,
      counted_kin k m st go l n.0 n.1 more
          (λ p low. (inside task context true (with_left p st) (p + k) (refl, low)).1),
    )
within_alike k program (suc m) task context false st l n =
    let go : State → Outcome = perform program (within program m) task context in
    let inside : Related (kin k m) (perform program (within program m))
    (perform program (within program m)) =
    perform_go (kin k m) program (within program m) (within program m)
    (within_alike k program m) in (
      counted_grows (with_left l st) go (λ p. (inside task context false (with_left p st) p tt).0),
      tt,
    )

pub events_grow : EventsGrow
unfolding kin
events_grow program task context st =
    (within_alike 0 program st.steps_left task context false st st.steps_left tt).0

-- ---- whole programs

ran_kin : (program : Program) (arg : ℤ) (n k : ℕ)
    → Kin k (n + k) (ran program arg n) (ran program arg (n + k))
unfolding kin
ran_kin program arg n k =
    let main = slice_get program.functions program.main in
    let args = main_arguments main arg in
    let low : n ≤ n + k = omega arith in
    let here_is : ran program arg n
    ≡ enter program (within program (n + k)) program.main main args outside (start program n) =
    enters_within program (n + k) program.main main args outside (start program n) low in
    let there_is : ran program arg (n + k)
    ≡ enter program (within program (n + k)) program.main main args outside
    (start program (n + k)) = enters_within program (n + k) program.main main args outside
    (start program (n + k)) (omega arith) in
    let kin_is = (enter_go (kin k (n + k)) program (within program (n + k)) (within program (n + k))
    (within_alike k program (n + k)) program.main main args outside true (start program n) (n + k)
    (refl, omega arith)).1 in
    subst (λ o. Kin k (n + k) o (ran program arg (n + k))) (sym here_is)
    (subst (λ o. Kin k (n + k)
    (enter program (within program (n + k)) program.main main args outside (start program n)) o)
    (sym there_is) kin_is)

shows_events : (o : Outcome) → (shows o).events ≡ events_of o
shows_events (Gives (Value v) st) = refl
shows_events (Gives (End e) st) = refl
shows_events (Gives how st) = refl

shows_alike : (how : Result) (st : State) (l : ℕ)
    → shows (Gives how (with_left l st)) ≡ shows (Gives how st)
shows_alike (Value v) st l = refl
shows_alike (End e) st l = refl
shows_alike how st l = refl

alive_shows : (k m : ℕ) (o o' : Outcome) → Alive k m o o' → shows o' ≡ shows o
alive_shows k m (Gives how st) o' s = ap shows s.same ∙ shows_alike how st (st.steps_left + k)

dead_end : (o : Outcome) → how_of o ≡ End None → (shows o).end ≡ None
dead_end (Gives how st) e = ap (λ h. (shows (Gives h st)).end) e

front_shown : (o o' : Outcome) → IsPrefixOf (events_of o) (events_of o')
    → IsPrefixOf (shows o).events (shows o').events
front_shown o o' h =
    subst (λ es. IsPrefixOf es (shows o').events) (sym (shows_events o))
    (subst (λ es. IsPrefixOf (events_of o) es) (sym (shows_events o')) h)

pub shows_more : ShowsMore meaning
shows_more program arg n k =
    elim (ran_kin program arg n k) [
      | inl s ↦ subst (λ x. IsPrefixOf (meaning program arg n).events x.events)
          (sym (alive_shows k (n + k) _ _ s)) (prefix_self _)
      | inr s ↦ front_shown (ran program arg n) (ran program arg (n + k)) s.front
    ]

pub end_stays : EndStays meaning
end_stays program arg n k e at =
    elim (ran_kin program arg n k) [
      | inl s ↦ alive_shows k (n + k) _ _ s
      | inr s ↦ absurd (none-some e (sym (dead_end (ran program arg n) s.ended) ∙ at))
    ]

pub calm_before : CalmBefore
calm_before program arg n k calm = by_end (meaning program arg n).end refl
  where
    by_end : (x : Option Ended) → (meaning program arg n).end ≡ x → is_calm x ≡ true
    by_end None at = refl
    by_end (Some e) at =
        subst (λ y. is_calm y ≡ true) at (subst (λ (s : Shown Ended). is_calm s.end ≡ true)
        (end_stays program arg n k e at) calm)
