-- A run with fewer steps is the front of one with more; and where a run comes to.
use Rattle.std.proofs.Common.{◌≡◌, ℕ, zero, suc, ◌+◌, ◌-◌, ◌≤◌, ◌<◌, refl, sym, ap, ◌∙◌, subst, arith, inl, inr, List, Option, Some, None}
use Rattle.std.specs.Prelude.{◌⊎◌, Bool, true, false, ◌&&◌, nat_lt, slice_get, ℤ, length}
use Rattle.std.proofs.lemmas.Bool.{cases_Bool, cases_lt, lt-ltb, le-ltb}
use Rattle.source_machine.specs.Words.{StackedVariable, at_state, count_steps, opened, cleared_one, cleared, Program, Function, weight, surplus, Task, does, ran, Place, Next, Over, Start, Machine, step, done, started, entered, unless_deep, unless_few, is_deep, comes_to, is_over, distance, first, after, is_raise, raises_inside, PlainBefore, OneRun, ComesToEnd, RaisesShow}
use Rattle.source_machine.specs.Frames as frames
use Rattle.source_machine.proofs.StepDistance.{decreases}
use Rattle.source_machine.proofs.WholeRuns.{all_keep}
use Rattle.source_machine.proofs.StepsLeft.{with_left, alike, opens, clear_one}

-- ---- a machine whose run is over

pub over_stays : (program : Program) (k : ℕ) (m : Machine) → is_over m.next ≡ true
    → is_over (after program k m).next ≡ true
over_stays program zero m e = e
over_stays program (suc k) m e = over_stays program k (step program m) (still m m.next refl e)
  where
    still : (m : Machine) (next : Next) → m.next ≡ next → is_over next ≡ true
        → is_over (step program m).next ≡ true
    still m (Over how) at e = ap (λ next. is_over (done program m next).next) at
    still m next at e = cc

pub no_raise : (next : Next) (b : Bool) → is_over next ≡ true → (is_raise next && b) ≡ false
no_raise (Over how) b e = refl
no_raise next b e = cc

-- ---- a machine with more steps left

record HasMore (m m' : Machine) : Type 0 where
  left : ℕ
  is : m' ≡ with_left left m
  more : m.state.steps_left ≤ left

-- the second is the first with more steps left, or the first's run is over
abbrev Ahead : Machine → Machine → Type 0
Ahead m m' = HasMore m m' ⊎ (is_over m.next ≡ true)

starts : (m : Machine) (task : Task) (p : Place) (n l k : ℕ) → n ≤ l
    → Ahead (started m task p n) (started (with_left k m) task p l)
starts m task p zero l k le = inr refl
starts m task p (suc n) zero k le = absurd (omega arith)
starts m task p (suc n) (suc l) k le = inl (record { left = l; is = refl; more = omega arith })

-- ---- a function begins

deep_ahead : (b : Bool) (m m' other other' : Machine) → Ahead other other'
    → Ahead (unless_deep b m other) (unless_deep b m' other')
deep_ahead true m m' other other' h = inr refl
deep_ahead false m m' other other' h = h

few_ahead : (n i j : ℕ) (m m' other other' : Machine) → i ≤ j → Ahead other other'
    → Ahead (unless_few (nat_lt i n) m other) (unless_few (nat_lt j n) m' other')
few_ahead n i j m m' other other' le h = by_test (cases_lt i n)
  where
    by_test : (i < n) ⊎ (n ≤ i)
        → Ahead (unless_few (nat_lt i n) m other) (unless_few (nat_lt j n) m' other')
    by_test (inl lt) =
        subst (λ b. Ahead (unless_few b m other) (unless_few (nat_lt j n) m' other'))
        (sym (lt-ltb i n lt)) (inr refl)
    by_test (inr ge) =
        let there : n ≤ j = omega arith in
        subst (λ b. Ahead (unless_few b m other) (unless_few (nat_lt j n) m' other'))
        (sym (le-ltb i n ge))
        (subst (λ b. Ahead other (unless_few b m' other')) (sym (le-ltb j n there)) h)

-- what is done in the same way whatever steps are left
kept_ahead : (go : Machine → Machine)
    → ((l : ℕ) (m : Machine) → go (with_left l m) ≡ with_left l (go m))
    → (m : Machine) (l : ℕ) → m.state.steps_left ≤ l → Ahead (go m) (go (with_left l m))
kept_ahead go same m l le =
    inl (record {
      left = l;
      is = same l m;
      more = subst (λ (n : ℕ). n ≤ l)
          (sym (ap (λ (x : Machine). x.state.steps_left) (same m.state.steps_left m))) le;
    })

enters : (program : Program) (m : Machine) (number : ℕ) (f : Option Function) (vs : List ℕ) (l : ℕ)
    → m.state.steps_left ≤ l
    → Ahead (entered program m number f vs) (entered program (with_left l m) number f vs)
enters program m number None vs l le = inl (record { left = l; is = refl; more = le })
enters program m number (Some f) vs l le =
    deep_ahead (is_deep m.state (weight f)) m (with_left l m) _ _
    (few_ahead (surplus f) m.state.steps_left l m (with_left l m) _ _ le
    (kept_ahead (opened program f.data_frame (length m.state.frames) _)
    (λ l m'. opens l program f.data_frame (length m.state.frames) _ m') _ (l - surplus f)
    (omega (arith, le))))

clears : (program : Program) (v : StackedVariable) (n : ℕ) (p : Place) (m : Machine) (l : ℕ)
    → m.state.steps_left ≤ l
    → Ahead (cleared program v n p m) (cleared program v n p (with_left l m))
clears program v zero p m l le = inl (record { left = l; is = refl; more = le })
clears program v (suc n) p m l le =
    few_ahead 1 m.state.steps_left l m (with_left l m) _ _ le
    (kept_ahead (cleared_one program v n p) (λ l m'. clear_one l program v n p m')
    (at_state m (count_steps 1 m.state)) (l - 1) (omega (arith, le)))

same_left : (program : Program) (m : Machine) (next : Next) (l : ℕ) → m.state.steps_left ≤ l
    → done program (with_left l m) next ≡ with_left l (done program m next)
    → done program m next ≡ with_left m.state.steps_left (done program m next)
    → Ahead (done program m next) (done program (with_left l m) next)
same_left program m next l le e kept =
    inl (record {
      left = l;
      is = e;
      more = subst (λ (n : ℕ). n ≤ l)
          (sym (ap (λ (x : Machine). x.state.steps_left) kept)) le;
    })

done_ahead : (program : Program) (m : Machine) (next : Next) (l : ℕ) → m.state.steps_left ≤ l
    → Ahead (done program m next) (done program (with_left l m) next)
done_ahead program m (Start task p) l le = starts m task p m.state.steps_left l l le
done_ahead program m (frames.Call (frames.Defined f) vs p) l le =
    enters program m f (slice_get program.functions f) vs l le
done_ahead program m (frames.ClearElements v n p) l le = clears program v n p m l le
done_ahead program m next l le = same_left program m next l le (alike l program m next)
    (alike m.state.steps_left program m next)

before : (program : Program) (k : ℕ) (m m' : Machine) → Ahead m m'
    → ((j : ℕ) → raises_inside (after program j m') ≡ false)
    → raises_inside (after program k m) ≡ false
before program k m m' (inr over) h = no_raise (after program k m).next _
    (over_stays program k m over)
before program zero m m' (inl s) h = subst (λ x. raises_inside x ≡ false) s.is (h 0)
before program (suc k) m m' (inl s) h =
    before program k (step program m) (step program m')
    (subst (λ x. Ahead (step program m) (step program x)) (sym s.is)
    (done_ahead program m m.next s.left s.more)) (λ j. h (suc j))

pub plain_before : PlainBefore
plain_before program arg n k h = λ j. before program j (first program arg n)
    (first program arg (n + k)) (inl (record { left = n + k; is = refl; more = omega arith })) h

-- ---- where a run comes to

begins : (program : Program) (arg : ℤ) (n : ℕ)
    → comes_to program (does program) (first program arg n) ≡ ran program arg n
begins program arg n = refl

pub one_run : OneRun
one_run program arg n k = all_keep program k (first program arg n) ∙ begins program arg n

ends : (program : Program) (n : ℕ) (m : Machine) → distance m < n
    → (k : ℕ) × (is_over (after program k m).next ≡ true)
ends program zero m near = absurd (omega arith)
ends program (suc n) m near =
    elim (cases_Bool (is_over m.next)) [
      | inl e ↦ (0, e)
      | inr e ↦
          let less : distance (step program m) < distance m = decreases program m e in
          let rest : (k : ℕ) × (is_over (after program k (step program m)).next ≡ true) = ends
          program n (step program m) (omega arith) in
          (suc rest.0, rest.1)
    ]

pub comes_to_end : ComesToEnd
comes_to_end program arg n = ends program (suc (distance (first program arg n)))
    (first program arg n) (omega arith)

pub raises_show : RaisesShow
raises_show program m exc p e = ap (λ next. (done program m next).state.events) e
