-- A relation between what two meanings come to, from states that differ in the steps that are left,
-- and how it goes through what is done with an outcome.
use Rattle.std.proofs.Common.{◌≡◌, ℕ, ◌+◌, List, ◌++◌, Some, None, refl}
use Rattle.std.specs.Prelude.{Bool, true, false, nat_lt, nat_eq}
use Rattle.c_operations.specs.Performed as performing
use Rattle.source_meaning.specs.Words.{Event, Deep, Exception, State, Result, Value, Normal, Returned, Broke, Continued, LeftTry, Target, End, Outcome, Gives, choose, depth, deeper, counting, with_value, and_then, ended_call, in_loop, landing, finally_after, with_outermost, let_go_surplus, set_memory, given, close, point_above, Undefined}

abbrev pub with_left : ℕ → State → State
with_left l st = record st { steps_left = l }

-- `near` says which numbers of steps two states may have left, and `out` what is known of two
-- outcomes where the second began with these events; the flag says how much is claimed, so that a
-- relation can claim less where the first outcome came to nothing
pub record Relation : Type 1 where
  pub near : Bool → ℕ → ℕ → Type 0
  pub out : Bool → List Event → Outcome → Outcome → Type 0
  pub gives : (a : Bool) (how : Result) (st : State) (l : ℕ) → near a st.steps_left l
      → out a st.events (Gives how st) (Gives how (with_left l st))
  pub later : (a : Bool) (es more : List Event) (o o' : Outcome) → out a (es ++ more) o o'
      → out a es o o'
  -- what is done after so many steps at once
  pub counts :
      (n : ℕ) (k k' : State → Outcome)
      → ((a : Bool) (st : State) (l : ℕ) → near a st.steps_left l
      → out a st.events (k st) (k' (with_left l st)))
      → (a : Bool) (st : State) (l : ℕ) → near a st.steps_left l
      → out a st.events (counting n st k) (counting n (with_left l st) k')
  -- what is done with an outcome, where nothing is done once no step is left
  pub through :
      (c c' : Outcome → Outcome) → ((st : State) → c (Gives (End None) st) ≡ Gives (End None) st)
      → ((a : Bool) (how : Result) (st : State) (l : ℕ) → near a st.steps_left l
      → out a st.events (c (Gives how st)) (c' (Gives how (with_left l st))))
      → (a : Bool) (es : List Event) (o o' : Outcome) → out a es o o' → out a es (c o) (c' o')

module _ (R : Relation) where
  abbrev pub Go : (State → Outcome) → (State → Outcome) → Type 0
  Go k k' =
      (a : Bool) (st : State) (l : ℕ) → R.near a st.steps_left l
      → R.out a st.events (k st) (k' (with_left l st))

  abbrev pub GoWith : (A : Type 0) → (A → State → Outcome) → (A → State → Outcome) → Type 0
  GoWith A k k' = (v : A) → Go (k v) (k' v)

  pub give : (how : Result) → Go (λ st. Gives how st) (λ st. Gives how st)
  give how a st l n = R.gives a how st l n

  value_cases : (k k' : ℕ → State → Outcome) → GoWith ℕ k k'
      → (a : Bool) (how : Result) (st : State) (l : ℕ) → R.near a st.steps_left l
      → R.out a st.events (with_value (Gives how st) k) (with_value (Gives how (with_left l st)) k')
  unfolding with_value
  value_cases k k' h a (Value v) st l n = h v a st l n
  value_cases k k' h a how st l n = give how a st l n

  pub value_go : (k k' : ℕ → State → Outcome) → GoWith ℕ k k'
      → (a : Bool) (es : List Event) (o o' : Outcome) → R.out a es o o'
      → R.out a es (with_value o k) (with_value o' k')
  unfolding with_value
  value_go k k' h =
      R.through (λ o. with_value o k) (λ o. with_value o k') (λ st. refl) (value_cases k k' h)

  then_cases : (k k' : State → Outcome) → Go k k' → (a : Bool) (how : Result) (st : State) (l : ℕ)
      → R.near a st.steps_left l → R.out a st.events (and_then (Gives how st) k)
      (and_then (Gives how (with_left l st)) k')
  unfolding and_then
  then_cases k k' h a Normal st l n = h a st l n
  then_cases k k' h a how st l n = give how a st l n

  pub then_go : (k k' : State → Outcome) → Go k k' → (a : Bool) (es : List Event) (o o' : Outcome)
      → R.out a es o o' → R.out a es (and_then o k) (and_then o' k')
  unfolding and_then
  then_go k k' h =
      R.through (λ o. and_then o k) (λ o. and_then o k') (λ st. refl) (then_cases k k' h)

  loop_cases : (k k' : State → Outcome) → Go k k' → (a : Bool) (how : Result) (st : State) (l : ℕ)
      → R.near a st.steps_left l → R.out a st.events (in_loop (Gives how st) k)
      (in_loop (Gives how (with_left l st)) k')
  unfolding in_loop
  loop_cases k k' h a Normal st l n = h a st l n
  loop_cases k k' h a Continued st l n = h a st l n
  loop_cases k k' h a Broke st l n = give Normal a st l n
  loop_cases k k' h a how st l n = give how a st l n

  pub loop_go : (k k' : State → Outcome) → Go k k' → (a : Bool) (es : List Event) (o o' : Outcome)
      → R.out a es o o' → R.out a es (in_loop o k) (in_loop o' k')
  unfolding in_loop
  loop_go k k' h = R.through (λ o. in_loop o k) (λ o. in_loop o k') (λ st. refl) (loop_cases k k' h)

  pub choice_go : (c : Bool) (k k' m m' : State → Outcome) → Go k k' → Go m m'
      → Go (choose c k m) (choose c k' m')
  unfolding choose
  choice_go true k k' m m' h i a st l n = h a st l n
  choice_go false k k' m m' h i a st l n = i a st l n

  pub deeper_go : (d : ℕ) (k k' : State → Outcome) → Go k k'
      → Go (λ st. deeper d st k) (λ st. deeper d st k')
  unfolding deeper
  deeper_go d k k' h a st l n =
      choice_go (nat_lt 1000 (depth st + d)) _ _ _ _ (give (End (Some (Deep 1001)))) h a st l n

  landing_cases : (level held : ℕ) (k k' : Exception → State → Outcome) → GoWith Exception k k'
      → (a : Bool) (how : Result) (st : State) (l : ℕ) → R.near a st.steps_left l
      → R.out a st.events (landing level held (Gives how st) k)
      (landing level held (Gives how (with_left l st)) k')
  unfolding landing
  landing_cases level held k k' h a LeftTry st l n = give Normal a st l n
  landing_cases level held k k' h a (Target to exc) st l n =
      choice_go (nat_eq to level) _ _ _ _ (λ a st l n. R.later a _ _ _ _ (h exc a _ l n))
      (give (Target to exc)) a st l n
  landing_cases level held k k' h a how st l n = give how a st l n

  pub landing_go : (level held : ℕ) (k k' : Exception → State → Outcome) → GoWith Exception k k'
      → (a : Bool) (es : List Event) (o o' : Outcome) → R.out a es o o'
      → R.out a es (landing level held o k) (landing level held o' k')
  unfolding landing
  landing_go level held k k' h =
      R.through (λ o. landing level held o k) (λ o. landing level held o k') (λ st. refl)
      (landing_cases level held k k' h)

  finally_cases : (k k' : Bool → State → Outcome) → GoWith Bool k k'
      → (a : Bool) (how : Result) (st : State) (l : ℕ) → R.near a st.steps_left l
      → R.out a st.events (finally_after (Gives how st) k)
      (finally_after (Gives how (with_left l st)) k')
  unfolding finally_after
  finally_cases k k' h a (End e) st l n = give (End e) a st l n
  finally_cases k k' h a Normal st l n = h false a st l n
  finally_cases k k' h a LeftTry st l n = h false a st l n
  finally_cases k k' h a how st l n =
      then_go (λ st. Gives how st) (λ st. Gives how st) (give how) a _ _ _ (h true a st l n)

  pub finally_go : (k k' : Bool → State → Outcome) → GoWith Bool k k'
      → (a : Bool) (es : List Event) (o o' : Outcome) → R.out a es o o'
      → R.out a es (finally_after o k) (finally_after o' k')
  unfolding finally_after
  finally_go k k' h =
      R.through (λ o. finally_after o k) (λ o. finally_after o k') (λ st. refl)
      (finally_cases k k' h)

  pub counting_go : (n : ℕ) (k k' : State → Outcome) → Go k k'
      → Go (λ st. counting n st k) (λ st. counting n st k')
  counting_go n k k' h a st l near = R.counts n k k' h a st l near

  ended_cases : (d s : ℕ) (a : Bool) (how : Result) (st : State) (l : ℕ) → R.near a st.steps_left l
      → R.out a st.events (ended_call d s (Gives how st))
      (ended_call d s (Gives how (with_left l st)))
  unfolding ended_call
  ended_cases d s a (End e) st l n = give (End e) a st l n
  ended_cases d s a Normal st l n = give (Value 0) a (with_outermost d (let_go_surplus s st)) l n
  ended_cases d s a (Returned v) st l n =
      give (Value v) a (with_outermost d (let_go_surplus s st)) l n
  ended_cases d s a (Target to exc) st l n =
      give (Target to exc) a (with_outermost d (record st { held = st.held + 1 })) l n
  ended_cases d s a how st l n = give how a (with_outermost d (let_go_surplus s st)) l n

  pub ended_go : (d s : ℕ) (a : Bool) (es : List Event) (o o' : Outcome) → R.out a es o o'
      → R.out a es (ended_call d s o) (ended_call d s o')
  unfolding ended_call
  ended_go d s = R.through (ended_call d s) (ended_call d s) (λ st. refl) (ended_cases d s)

  -- ---- the data stack

  pub given_go : (x : performing.OperationResult) (k k' : ℕ → State → Outcome) → GoWith ℕ k k'
      → Go (λ st. given x st k) (λ st. given x st k')
  unfolding given
  given_go (performing.Gives v memory) k k' h a st l n = h v a (set_memory st memory) l n
  given_go (performing.Raises code access) k k' h a st l n = give (End None) a st l n
  given_go (performing.Undefined at) k k' h a st l n = give (End (Some (Undefined at))) a st l n

  close_cases : (base k : ℕ) (a : Bool) (how : Result) (st : State) (l : ℕ)
      → R.near a st.steps_left l → R.out a st.events (close base k (Gives how st))
      (close base k (Gives how (with_left l st)))
  unfolding close
  close_cases base k a Normal st l n = give Normal a (point_above base 0 k st) l n
  close_cases base k a (Returned v) st l n = give (Returned v) a (point_above base 0 k st) l n
  close_cases base k a how st l n = give how a st l n

  pub close_go : (base k : ℕ) (a : Bool) (es : List Event) (o o' : Outcome) → R.out a es o o'
      → R.out a es (close base k o) (close base k o')
  unfolding close
  close_go base k = R.through (close base k) (close base k) (λ st. refl) (close_cases base k)
