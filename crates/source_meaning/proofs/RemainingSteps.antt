-- A task's meaning in terms of the tasks inside it, with no bound in sight; and no more steps are
-- left after it than before.
use Rattle.std.proofs.Common.{◌≡◌, ℕ, zero, suc, ◌-◌, ◌≤◌, List, refl, sym, ap, ◌∙◌, subst, arith, inl, inr}
use Rattle.std.proofs.lemmas.Bool.{cases_Bool}
use Rattle.std.specs.Prelude.{true, false, nat_lt, Option, None, ◌⊎◌}
use Rattle.source_meaning.specs.Words.{Program, Function, State, Result, End, Outcome, Gives, state_of, Context, Task, Does, counting, counted, enter, perform, within, does, DoesIs, NeverRises}
use Rattle.source_meaning.proofs.Relations.{Relation, with_left}
use Rattle.source_meaning.proofs.Counting.{too_few, enough}
use Rattle.source_meaning.proofs.RelatedMeanings.{Related, perform_go, enter_go}

-- two outcomes are one, and leave at most b steps
record Same (b : ℕ) (o o' : Outcome) : Type 0 where
  eq : o ≡ o'
  low : (state_of o).steps_left ≤ b

same : (b : ℕ) (o : Outcome) → (state_of o).steps_left ≤ b → Same b o o
same b o low = record { eq = refl; low = low }

same_gives : (b : ℕ) (how : Result) (st : State) (l : ℕ) → st.steps_left ≡ l → st.steps_left ≤ b
    → Same b (Gives how st) (Gives how (with_left l st))
same_gives b how st l e low = record { eq = ap (λ k. Gives how (with_left k st)) e; low = low }

same_through :
    (b : ℕ) (c c' : Outcome → Outcome)
    → ((how : Result) (st : State) → st.steps_left ≤ b
    → Same b (c (Gives how st)) (c' (Gives how st)))
    → (o o' : Outcome) → Same b o o' → Same b (c o) (c' o')
same_through b c c' cases o o' s = subst (λ x. Same b (c o) (c' x)) s.eq (at o s.low)
  where
    at : (o : Outcome) → (state_of o).steps_left ≤ b → Same b (c o) (c' o)
    at (Gives how st) low = cases how st low

-- several steps at once
same_counting :
    (b n : ℕ) (k k' : State → Outcome)
    → ((st : State) (l : ℕ) → (st.steps_left ≡ l) × (st.steps_left ≤ b)
    → Same b (k st) (k' (with_left l st)))
    → (st : State) (l : ℕ) → (st.steps_left ≡ l) × (st.steps_left ≤ b)
    → Same b (counting n st k) (counting n (with_left l st) k')
same_counting b n k k' h st l near =
    subst (λ l. Same b (counting n st k) (counting n (with_left l st) k')) near.0
    (by_test (cases_Bool (nat_lt st.steps_left n)))
  where
    by_test : (nat_lt st.steps_left n ≡ true) ⊎ (nat_lt st.steps_left n ≡ false)
        → Same b (counting n st k) (counting n st k')
    by_test (inl e) =
        subst (λ o. Same b o (counting n st k')) (sym (too_few n st k e))
        (subst (λ o. Same b (Gives (End None) st) o) (sym (too_few n st k' e))
        (same b (Gives (End None) st) (omega (arith, near.0, near.1))))
    by_test (inr e) =
        let left = st.steps_left - n in
        let less : left ≤ b = omega (arith, near.0, near.1) in
        subst (λ o. Same b o (counting n st k')) (sym (enough n st k e))
        (subst (λ o. Same b (k (with_left left st)) o) (sym (enough n st k' e))
        (h (with_left left st) left (refl, less)))

le_refl_of : (n : ℕ) → n ≤ n
le_refl_of n = omega arith

same_relation : ℕ → Relation
same_relation b =
    record {
      near = λ a l l'. (l ≡ l') × (l ≤ b);
      out = λ a es o o'. Same b o o';
      gives = λ a how st l n. same_gives b how st l n.0 n.1;
      later = λ a es more o o' s. s;
      counts = λ n k k' h a. same_counting b n k k' (h a);
      through =
          λ c c' stops cases a es o o' s. same_through b c c'
          (λ how st low. cases a how st st.steps_left (refl, low)) o o' s;
    }

-- from states with at most b steps left, f and g do the same
abbrev SameDoes : ℕ → Does → Does → Type 0
SameDoes b f g =
    (task : Task) (context : Context) (st : State) → st.steps_left ≤ b
    → Same b (f task context st) (g task context st)

alike_of : (b : ℕ) (f g : Does) → SameDoes b f g → Related (same_relation b) f g
unfolding same_relation
alike_of b f g h task context a st l n =
    subst (λ k. Same b (f task context st) (g task context (with_left k st))) n.0
    (h task context st n.1)

perform_same : (b : ℕ) (program : Program) (f g : Does) → SameDoes b f g
    → SameDoes b (perform program f) (perform program g)
unfolding same_relation
perform_same b program f g h task context st low =
    perform_go (same_relation b) program f g (alike_of b f g h) task context true st st.steps_left
    (refl, low)

fewer : (a b : ℕ) (o o' : Outcome) → a ≤ b → Same a o o' → Same b o o'
fewer a b o o' le s = let low = s.low in record { eq = s.eq; low = omega arith }

counted_same : (b : ℕ) (st : State) (k k' : State → Outcome) → st.steps_left ≤ suc b
    → ((st : State) → st.steps_left ≤ b → Same b (k st) (k' st))
    → Same (suc b) (counted st k) (counted st k')
unfolding counted
counted_same b st k k' low h = by_left st.steps_left low
  where
    by_left : (l : ℕ) → l ≤ suc b → Same (suc b)
        (elim l [ zero ↦ Gives (End None) st | suc n ↦ k (record st { steps_left = n }) ])
        (elim l [ zero ↦ Gives (End None) st | suc n ↦ k' (record st { steps_left = n }) ])
    by_left zero le = same (suc b) _ low
    by_left (suc n) le =
        fewer b (suc b) _ _ (omega arith) (h (record st { steps_left = n }) (omega arith))

counted_none : (st : State) (k : State → Outcome) → st.steps_left ≡ 0
    → counted st k ≡ Gives (End None) st
unfolding counted
counted_none st k e =
    ap (λ l. elim l as (λ l. Outcome) [
      | zero ↦ Gives (End None) st
      | suc n ↦
          k (record st { steps_left = n })
    ]) e

pub none_left : (program : Program) (n : ℕ) (task : Task) (context : Context) (st : State)
    → st.steps_left ≡ 0 → within program n task context st ≡ Gives (End None) st
none_left program zero task context st e = refl
none_left program (suc n) task context st e = counted_none st _ e

-- a bound above the steps that are left makes no difference
within_same : (program : Program) (n m b : ℕ) → b ≤ n → b ≤ m
    → SameDoes b (within program n) (within program m)
within_same program n m zero p q task context st low =
    let e : st.steps_left ≡ 0 = omega arith in
    let at_n = none_left program n task context st e in
    let at_m = none_left program m task context st e in
    record { eq = at_n ∙ sym at_m; low = subst (λ o. (state_of o).steps_left ≤ 0) (sym at_n) low }
within_same program zero m (suc b) p q task context st low = absurd (omega arith)
within_same program (suc n) zero (suc b) p q task context st low = absurd (omega arith)
within_same program (suc n) (suc m) (suc b) p q task context st low =
    counted_same b st _ _ low (perform_same b program (within program n) (within program m)
    (within_same program n m b (omega arith) (omega arith)) task context)

within_does : (program : Program) (n : ℕ) → SameDoes n (within program n) (does program)
within_does program n task context st low =
    fewer st.steps_left n _ _ low (within_same program n st.steps_left st.steps_left low
    (le_refl_of st.steps_left) task context st (le_refl_of st.steps_left))

-- what a task does is one step, and then its case
pub does_is : DoesIs
does_is program task context st =
    let n = st.steps_left in
    let longer : Same n (does program task context st) (within program (suc n) task context st) =
    within_same program n (suc n) n (omega arith) (omega arith) task context st (omega arith) in
    longer.eq ∙ (counted_same n st (λ st. perform program (within program n) task context st)
    (λ st. perform program (does program) task context st) (omega arith)
    (perform_same n program (within program n) (does program) (within_does program n) task
    context)).eq

-- and it leaves no more steps than there were
pub never_rises : NeverRises
never_rises program task context st =
    (within_same program st.steps_left st.steps_left st.steps_left (omega arith) (omega arith) task
    context st (omega arith)).low

-- a whole call under a bound above the steps that are left
pub enters_within : (program : Program) (m number : ℕ) (fn : Option Function) (vs : List ℕ)
    (context : Context) (st : State) → st.steps_left ≤ m
    → enter program (does program) number fn vs context st
    ≡ enter program (within program m) number fn vs context st
unfolding same_relation
enters_within program m number fn vs context st low =
    (enter_go (same_relation m) program (does program) (within program m)
    (alike_of m (does program) (within program m) does_within) number fn vs context true st
    st.steps_left (refl, low)).eq
  where
    does_within : SameDoes m (does program) (within program m)
    does_within task context st low =
        fewer st.steps_left m _ _ low (within_same program st.steps_left m st.steps_left
        (le_refl_of st.steps_left) low task context st (le_refl_of st.steps_left))
