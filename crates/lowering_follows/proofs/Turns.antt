-- What single instructions of an expression's code do.
use Rattle.std.proofs.Common.{◌≡◌, ◌<◌, ◌≤◌, ℕ, zero, suc, ◌+◌, ◌^◌, List, [], ◌∷◌, ◌++◌, length, refl, ap, sym, ◌∙◌, arith, length-append, append_assoc}
use Rattle.std.proofs.lemmas.Bool.{le-leb}
use Rattle.std.proofs.lemmas.List.{take_at, length_push}
use Rattle.std.specs.Prelude.{Bool, true, false, nat_eq, nat_le, if◌then◌else◌, slice_get, take, Some, None}
use Rattle.lowering_follows.specs.Words.{W64, low, Field, Operation, Pure, result_of, performed, State, Context, field_of, is_reserved, Temporary, Compute, Information, Jump, JumpIfZero, LinearProgram, Store, Seen, pick, with_some, with_temporary, local_of, set_local, with_temporaries, forth, is_constant, computed, operand, exec, HasAt}
use Rattle.linear_code.specs.declared.slot.Slot.TheVariants.{Local}
use Rattle.linear_machine.specs.Frames.{Next}
use Rattle.c_operations.specs.declared.operation.Operation.TheVariants as operations
use Rattle.c_operations.specs.declared.operation.Pure.TheVariants as pures
use Rattle.c_operations.specs.Performed as performing
use Rattle.lowering_follows.proofs.Lemmas.{Site, conf, fetch}
use Rattle.lowering_follows.proofs.TaskClaims.{Operands}

-- ---- temporaries

pub top_get : (ts : List ℕ) (x : ℕ) → slice_get (ts ++ x ∷ []) (length ts) ≡ Some x
top_get [] x = refl
top_get (t ∷ ts) x = top_get ts x

pub get_front : (ts us : List ℕ) (k : ℕ) (x : ℕ) → slice_get ts k ≡ Some x
    → slice_get (ts ++ us) k ≡ Some x
get_front [] us k x h = absurd (cc)
get_front (t ∷ ts) us zero x h = h
get_front (t ∷ ts) us (suc k) x h = get_front ts us k x h

pub under_get : (ts : List ℕ) (x y : ℕ) → slice_get ((ts ++ x ∷ []) ++ y ∷ []) (length ts) ≡ Some x
under_get ts x y = get_front (ts ++ x ∷ []) (y ∷ []) (length ts) x (top_get ts x)

pub next_get : (ts : List ℕ) (x y : ℕ) → slice_get ((ts ++ x ∷ []) ++ y ∷ []) (length ts + 1)
    ≡ Some y
next_get ts x y = ap (slice_get ((ts ++ x ∷ []) ++ y ∷ [])) (sym (length_push ts x))
    ∙ top_get (ts ++ x ∷ []) y

written_by : (b : Bool) (ts : List ℕ) → b ≡ true → (if b then Some ts else None) ≡ Some ts
written_by true ts e = refl
written_by false ts e = absurd (cc)

pub top_put : (ts us : List ℕ) (v : ℕ) → with_temporary (ts ++ us) (length ts) v
    ≡ Some (ts ++ v ∷ [])
top_put ts us v =
    let fits : length ts ≤ length (ts ++ us) = let e = length-append ts us in omega arith in
    ap (λ xs. if nat_le (length ts) (length (ts ++ us)) then Some (xs ++ v ∷ []) else None)
    (take_at ts us (length ts) refl)
    ∙ written_by (nat_le (length ts) (length (ts ++ us))) (ts ++ v ∷ [])
    (le-leb (length ts) (length (ts ++ us)) fits)

-- one temporary is changed
pub changing : (ts : List ℕ) (x : ℕ) → Operands (ts ++ x ∷ []) (length ts) (length ts) (length ts) x
    x (λ v. ts ++ v ∷ [])
changing ts x = record {
  reads_first = top_get ts x;
  reads_second = top_get ts x;
  writes = λ v. top_put ts (x ∷ []) v;
}

-- two become one
pub combining : (ts : List ℕ) (x y : ℕ) → Operands ((ts ++ x ∷ []) ++ y ∷ []) (length ts)
    (length ts) (length ts + 1) x y (λ v. ts ++ v ∷ [])
combining ts x y = record {
  reads_first = under_get ts x y;
  reads_second = next_get ts x y;
  writes = λ v. ap (λ us. with_temporary us (length ts) v) (append_assoc ts (x ∷ []) (y ∷ []))
      ∙ top_put ts (x ∷ y ∷ []) v;
}

module _ (linear : LinearProgram) (rate : ℕ) (context : Context) (site : Site) where
  -- the slot after an operation's result
  pub computed_gives : (to : ℕ) (pc : ℕ) (temps : List ℕ) (result : List ℕ) (st : State)
      (store : Store) (v : ℕ) (m : _) (next : Next) → with_temporary temps to v ≡ Some result
      → computed linear next (Temporary to) (conf context site pc temps st store)
      (performing.Gives v m) ≡ next (conf context site (pc + 1) result st
      (record store { memory = m }))
  unfolding with_some
  computed_gives to pc temps result st store v m next h =
      ap (λ o. with_some st.events (with_temporaries
      (conf context site pc temps st (record store { memory = m })) o) (λ c. next (forth c))) h

  -- an operation that reads slots
  pub computes : (o : Operation) (to first second a b : ℕ) (after : ℕ → List ℕ) (pc : ℕ)
      (temps : List ℕ) (st : State) (store : Store) (k : ℕ) → is_constant o ≡ false
      → HasAt linear site.body site.regions pc
      (Compute (Temporary to) o (Temporary first) (Temporary second) ∷ [])
      → Operands temps to first second a b after
      → exec linear (suc k) (conf context site pc temps st store)
      ≡ computed linear (exec linear k) (Temporary to) (conf context site pc temps st store)
      (performed (is_reserved linear.globals) o a b store.memory)
  unfolding with_some
  computes o to first second a b after pc temps st store k e has r =
      let c = conf context site pc temps st store in
      let finish : ℕ → ℕ → Seen = λ a b. computed linear (exec linear k) (Temporary to) c
      (performed (is_reserved linear.globals) o a b store.memory) in
      fetch linear rate c (Compute (Temporary to) o (Temporary first) (Temporary second)) k has.0
      ∙ ap (λ t. with_some st.events (operand t c (Temporary first))
      (λ a. with_some st.events (operand t c (Temporary second)) (λ b. finish a b))) e
      ∙ ap (λ x. with_some st.events x (λ a. with_some st.events (slice_get temps second)
      (λ b. finish a b))) r.reads_first
      ∙ ap (λ x. with_some st.events x (λ b. finish a b)) r.reads_second

  -- one without faults
  pub pure_turn : (p : Pure) (to first second a b : ℕ) (after : ℕ → List ℕ) (pc : ℕ)
      (temps : List ℕ) (st : State) (store : Store) (k : ℕ)
      → is_constant (operations.Pure p) ≡ false
      → HasAt linear site.body site.regions pc
      (Compute (Temporary to) (operations.Pure p) (Temporary first) (Temporary second) ∷ [])
      → Operands temps to first second a b after
      → exec linear (suc k) (conf context site pc temps st store)
      ≡ exec linear k (conf context site (pc + 1) (after (result_of p a b)) st store)
  pure_turn p to first second a b after pc temps st store k e has r =
      computes (operations.Pure p) to first second a b after pc temps st store k e has r
      ∙ computed_gives to pc temps (after (result_of p a b)) st store (result_of p a b) store.memory
      (exec linear k) (r.writes (result_of p a b))

  low_itself : (n : ℕ) → n < 2 ^ 64 → low W64 n ≡ n
  low_itself n h = omega arith

  pub constant_turn : (n to : ℕ) (result : List ℕ) (pc : ℕ) (temps : List ℕ) (st : State)
      (store : Store) (k : ℕ) → n < 2 ^ 64
      → HasAt linear site.body site.regions pc
      (Compute (Temporary to) (operations.Pure (pures.Constant n)) (Temporary to) (Temporary to)
      ∷ []) → with_temporary temps to n ≡ Some result
      → exec linear (suc k) (conf context site pc temps st store)
      ≡ exec linear k (conf context site (pc + 1) result st store)
  unfolding with_some
  constant_turn n to result pc temps st store k small has h =
      fetch linear rate (conf context site pc temps st store)
      (Compute (Temporary to) (operations.Pure (pures.Constant n)) (Temporary to) (Temporary to))
      k has.0
      ∙ computed_gives to pc temps result st store (low W64 n) store.memory (exec linear k)
      (ap (with_temporary temps to) (low_itself n small) ∙ h)

  -- a local goes to a temporary
  pub fetch_local_turn : (x to : ℕ) (result : List ℕ) (pc : ℕ) (temps : List ℕ) (st : State)
      (store : Store) (k : ℕ)
      → HasAt linear site.body site.regions pc
      (Compute (Temporary to) (operations.Pure pures.First) (Local x) (Local x) ∷ [])
      → with_temporary temps to (local_of store context.activation x) ≡ Some result
      → exec linear (suc k) (conf context site pc temps st store)
      ≡ exec linear k (conf context site (pc + 1) result st store)
  unfolding with_some
  fetch_local_turn x to result pc temps st store k has h =
      fetch linear rate (conf context site pc temps st store)
      (Compute (Temporary to) (operations.Pure pures.First) (Local x) (Local x)) k has.0
      ∙ computed_gives to pc temps result st store (local_of store context.activation x)
      store.memory (exec linear k) h

  -- a temporary goes to a local
  pub put_local_turn : (x from v : ℕ) (pc : ℕ) (temps : List ℕ) (st : State) (store : Store) (k : ℕ)
      → HasAt linear site.body site.regions pc
      (Compute (Local x) (operations.Pure pures.First) (Temporary from) (Temporary from) ∷ [])
      → slice_get temps from ≡ Some v
      → exec linear (suc k) (conf context site pc temps st store)
      ≡ exec linear k (conf context site (pc + 1) temps st (set_local store context.activation x v))
  unfolding with_some
  put_local_turn x from v pc temps st store k has h =
      let c = conf context site pc temps st store in
      let finish : ℕ → ℕ → Seen = λ a b. computed linear (exec linear k) (Local x) c
      (performed (is_reserved linear.globals) (operations.Pure pures.First) a b store.memory) in
      fetch linear rate c (Compute (Local x) (operations.Pure pures.First) (Temporary from)
      (Temporary from)) k has.0
      ∙ ap (λ y. with_some st.events y (λ a. with_some st.events (slice_get temps from)
      (λ b. finish a b))) h
      ∙ ap (λ y. with_some st.events y (λ b. finish v b)) h

  -- an operation on a local and a temporary
  pub computes_above : (o : Operation) (to x second b : ℕ) (pc : ℕ) (temps : List ℕ) (st : State)
      (store : Store) (k : ℕ) → is_constant o ≡ false
      → HasAt linear site.body site.regions pc
      (Compute (Temporary to) o (Local x) (Temporary second) ∷ [])
      → slice_get temps second ≡ Some b
      → exec linear (suc k) (conf context site pc temps st store)
      ≡ computed linear (exec linear k) (Temporary to) (conf context site pc temps st store)
      (performed (is_reserved linear.globals) o (local_of store context.activation x) b
      store.memory)
  unfolding with_some
  computes_above o to x second b pc temps st store k e has h =
      let c = conf context site pc temps st store in
      let a = local_of store context.activation x in
      let finish : ℕ → ℕ → Seen = λ a b. computed linear (exec linear k) (Temporary to) c
      (performed (is_reserved linear.globals) o a b store.memory) in
      fetch linear rate c (Compute (Temporary to) o (Local x) (Temporary second)) k has.0
      ∙ ap (λ t. with_some st.events (operand t c (Local x))
      (λ a. with_some st.events (operand t c (Temporary second)) (λ b. finish a b))) e
      ∙ ap (λ x. with_some st.events x (λ b. finish a b)) h

  -- one without faults
  pub pure_above_turn : (p : Pure) (to x second b : ℕ) (result : List ℕ) (pc : ℕ) (temps : List ℕ)
      (st : State) (store : Store) (k : ℕ) → is_constant (operations.Pure p) ≡ false
      → HasAt linear site.body site.regions pc
      (Compute (Temporary to) (operations.Pure p) (Local x) (Temporary second) ∷ [])
      → slice_get temps second ≡ Some b
      → with_temporary temps to (result_of p (local_of store context.activation x) b) ≡ Some result
      → exec linear (suc k) (conf context site pc temps st store)
      ≡ exec linear k (conf context site (pc + 1) result st store)
  pure_above_turn p to x second b result pc temps st store k e has h r =
      let v = result_of p (local_of store context.activation x) b in
      computes_above (operations.Pure p) to x second b pc temps st store k e has h
      ∙ computed_gives to pc temps result st store v store.memory (exec linear k) r

  -- an operation on two locals, to a local
  pub computes_locals : (o : Operation) (to x y : ℕ) (pc : ℕ) (temps : List ℕ) (st : State)
      (store : Store) (k : ℕ) → is_constant o ≡ false
      → HasAt linear site.body site.regions pc (Compute (Local to) o (Local x) (Local y) ∷ [])
      → exec linear (suc k) (conf context site pc temps st store)
      ≡ computed linear (exec linear k) (Local to) (conf context site pc temps st store)
      (performed (is_reserved linear.globals) o (local_of store context.activation x)
      (local_of store context.activation y) store.memory)
  unfolding with_some
  computes_locals o to x y pc temps st store k e has =
      let c = conf context site pc temps st store in
      let finish : ℕ → ℕ → Seen = λ a b. computed linear (exec linear k) (Local to) c
      (performed (is_reserved linear.globals) o a b store.memory) in
      fetch linear rate c (Compute (Local to) o (Local x) (Local y)) k has.0
      ∙ ap (λ t. with_some st.events (operand t c (Local x))
      (λ a. with_some st.events (operand t c (Local y)) (λ b. finish a b))) e

  -- the local after an operation's result
  pub computed_local : (to : ℕ) (pc : ℕ) (temps : List ℕ) (st : State) (store : Store) (v : ℕ)
      (m : _) (next : Next)
      → computed linear next (Local to) (conf context site pc temps st store)
      (performing.Gives v m) ≡ next (conf context site (pc + 1) temps st
      (set_local (record store { memory = m }) context.activation to v))
  unfolding with_some
  computed_local to pc temps st store v m next = refl

  -- a local is tested
  pub test_local_turn : (label x : ℕ) (pc : ℕ) (temps : List ℕ) (st : State) (store : Store)
      (k : ℕ) → HasAt linear site.body site.regions pc (JumpIfZero (Local x) label ∷ [])
      → exec linear (suc k) (conf context site pc temps st store)
      ≡ pick (nat_eq (local_of store context.activation x) 0)
      (exec linear k (conf context site label temps st store))
      (exec linear k (conf context site (pc + 1) temps st store))
  unfolding with_some
  test_local_turn label x pc temps st store k has =
      fetch linear rate (conf context site pc temps st store) (JumpIfZero (Local x) label) k has.0

  -- a field of the exception that a filter is asked about
  pub information_turn : (f : Field) (to : ℕ) (result : List ℕ) (pc : ℕ) (temps : List ℕ)
      (st : State) (store : Store) (k : ℕ)
      → HasAt linear site.body site.regions pc (Information (Temporary to) f ∷ [])
      → with_temporary temps to (field_of f site.exception) ≡ Some result
      → exec linear (suc k) (conf context site pc temps st store)
      ≡ exec linear k (conf context site (pc + 1) result st store)
  unfolding with_some
  information_turn f to result pc temps st store k has h =
      fetch linear rate (conf context site pc temps st store) (Information (Temporary to) f) k has.0
      ∙ ap (λ o. with_some st.events (with_temporaries (conf context site pc temps st store) o)
      (λ c. exec linear k (forth c))) h

  pub jump_turn : (label : ℕ) (pc : ℕ) (temps : List ℕ) (st : State) (store : Store) (k : ℕ)
      → HasAt linear site.body site.regions pc (Jump label ∷ [])
      → exec linear (suc k) (conf context site pc temps st store)
      ≡ exec linear k (conf context site label temps st store)
  jump_turn label pc temps st store k has = fetch linear rate (conf context site pc temps st store)
      (Jump label) k has.0

  -- the temporary on top is tested, and ends
  pub test_turn : (label v : ℕ) (pc : ℕ) (temps : List ℕ) (st : State) (store : Store) (k : ℕ)
      → HasAt linear site.body site.regions pc (JumpIfZero (Temporary (length temps)) label ∷ [])
      → exec linear (suc k) (conf context site pc (temps ++ v ∷ []) st store)
      ≡ pick (nat_eq v 0) (exec linear k (conf context site label temps st store))
      (exec linear k (conf context site (pc + 1) temps st store))
  unfolding with_some
  test_turn label v pc temps st store k has =
      let shorter : List ℕ → Seen = λ ts. pick (nat_eq v 0)
      (exec linear k (conf context site label ts st store))
      (exec linear k (conf context site (pc + 1) ts st store)) in
      fetch linear rate (conf context site pc (temps ++ v ∷ []) st store)
      (JumpIfZero (Temporary (length temps)) label) k has.0
      ∙ ap (λ o. with_some st.events o (λ w. pick (nat_eq w 0)
      (exec linear k (conf context site label (take (length temps) (temps ++ v ∷ [])) st store))
      (exec linear k (conf context site (pc + 1) (take (length temps) (temps ++ v ∷ [])) st
      store)))) (top_get temps v)
      ∙ ap shorter (take_at temps (v ∷ []) (length temps) refl)
