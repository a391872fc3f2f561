-- Variables on the data stack: what is put there, and arrays that are cleared.
use Rattle.std.proofs.Common.{◌≡◌, ◌⊎◌, inl, inr, ◌<◌, ◌≤◌, ℕ, zero, suc, ◌+◌, ◌-◌, ◌*◌, ◌^◌, List, [], ◌∷◌, ◌++◌, refl, ap, sym, subst, ◌∙◌, arith}
use Rattle.std.proofs.lemmas.Bool.{cases_lt, lt-ltb, le-ltb}
use Rattle.std.specs.Prelude.{true, false, nat_eq, Option, Some, None}
use Rattle.seh_num.specs.declared.width.Width.{Width}
use Rattle.lowering_follows.specs.Words.{W64, W32, W16, W8, low, bytes_of, Memory, Operation, OperationResult, performed, before_last, Expression, StackedVariable, State, Outcome, Gives, set_memory, Normal, with_value, given, put, clear, declare_stacked, is_reserved, within, Eval, Temporary, Compute, Jump, JumpIfZero, Separator, Store, set_local, local_of, computed, exec, with_some, put_code, clear_code, stacked_declared_code, expression_size, expression_code, stacked_size, elements_notes, expression_weight, optional_weight, HasAt, OptionalFits, ElementsFit, IsStackedPlace, count_steps}
use Rattle.source_meaning.specs.State as model
use Rattle.source_meaning.proofs.Counting.{too_few, enough}
use Rattle.linear_machine.proofs.StretchJoins.{claim_stepped}
use Rattle.linear_code.specs.declared.slot.Slot.TheVariants.{Local}
use Rattle.c_operations.specs.declared.operation.Operation.TheVariants as operations
use Rattle.c_operations.specs.declared.operation.Pure.TheVariants as pures
use Rattle.c_operations.specs.Performed as performing
use Rattle.lowering_follows.proofs.Lemmas.{at, conf, Ways, Price, price, joins, more, fetch, stopped, from_none}
use Rattle.lowering_follows.proofs.Stores.{Alike, memory_alike, note_set_alike, note_read}
use Rattle.lowering_follows.proofs.Places.{has_at, has_front, has_after}
use Rattle.lowering_follows.proofs.Lengths.{expression_length}
use Rattle.lowering_follows.proofs.Turns.{computes_above, computes_locals, computed_gives, computed_local, constant_turn, jump_turn, test_local_turn}
use Rattle.lowering_follows.proofs.CalmOperations.{place_calm, clear_calm, clear_gives, calm_turn}
use Rattle.lowering_follows.proofs.NodeParts.{pick_yes, pick_no}
use Rattle.lowering_follows.proofs.BodyClaims.{Surroundings, statement_eval}
use Rattle.lowering_follows.proofs.Tries.{noted_stays}
use Rattle.lowering_follows.proofs.BodyParts.{Ks, S, G, starts_at, continue_from, separator_turn, here}
use Rattle.lowering_follows.proofs.StatementSettings.{StatementSetting}

-- ---- the numbers of an array's bytes

few_bytes : (w : Width) (n : ℕ) → n < 2 ^ 32 → bytes_of w * n < 2 ^ 64
few_bytes W8 n h = omega arith
few_bytes W16 n h = omega arith
few_bytes W32 n h = omega arith
few_bytes W64 n h = omega arith

before_is : (w : Width) (n : ℕ) → suc n < 2 ^ 32 → before_last w (bytes_of w * suc n) ≡ bytes_of w *
    n
before_is W8 n h = omega arith
before_is W16 n h = omega arith
before_is W32 n h = omega arith
before_is W64 n h = omega arith

some_bytes : (w : Width) (n : ℕ) → nat_eq (bytes_of w * suc n) 0 ≡ false
some_bytes W8 n = grind arith
some_bytes W16 n = grind arith
some_bytes W32 n = grind arith
some_bytes W64 n = grind arith

no_bytes : (w : Width) → nat_eq (bytes_of w * zero) 0 ≡ true
no_bytes W8 = refl
no_bytes W16 = refl
no_bytes W32 = refl
no_bytes W64 = refl

module _ (setting : StatementSetting) (roomy : 4 ≤ setting.rate) where
  open setting use {program, linear, rate, body, n, ih, scope, z, shapes, context, site, base}

  abbrev K : State → Store → Type 0
  K = Ks setting roomy

  abbrev C : (pc : ℕ) (temps : List ℕ) (st : State) (store : Store) → Price → (done : ℕ) → Outcome
      → Type 0
  C = G setting roomy

  abbrev W : ℕ → Ways
  W = S setting roomy

  abbrev Sd : ℕ → Type 0
  Sd notes = Surroundings program linear rate body scope.names z shapes context site base notes

  -- another memory in both
  memory_stays : (m : Memory) (st : State) (store : Store) → K st store
      → K (set_memory st m) (record store { memory = m })
  memory_stays m st store kept =
      (memory_alike shapes st.memory st.frames store m kept.0, kept.1, kept.2)

  -- an operation comes to the same in both
  same_result : (o : Operation) (b y : ℕ) (notes : ℕ) (st : State) (store : Store) → Sd notes
      → b < z.own → K st store
      → performed (is_reserved linear.globals) o (local_of store context.activation b) y
      store.memory ≡ performed (is_reserved program.globals) o
      (model.local_of st context.activation b) y st.memory
  same_result o b y notes st store standing l kept =
      let k = context.activation in
      let read = (kept.0.each k z standing.env.shape).reads b l in
      ap (λ g. performed (is_reserved g) o (local_of store k b) y store.memory) standing.globals
      ∙ ap (λ v. performed (is_reserved program.globals) o v y store.memory) read
      ∙ ap (performed (is_reserved program.globals) o (model.local_of st k b) y)
      kept.0.same_memory

  -- ---- the first temporary goes to a variable

  pub puts : (v : StackedVariable) (x notes pc : ℕ) (st : State) (store : Store) (q r : Price)
      (done : ℕ) (go : State → Outcome) → v.base < z.own → 2 + q.turns ≤ r.turns
      → r.extra + q.slack ≤ q.extra + r.slack → r.extra + q.out ≤ q.extra + r.out
      → HasAt linear site.body site.regions pc (put_code v) → Sd notes → K st store
      → st.held ≡ site.held
      → ((m : Memory) → K (set_memory st m) (record store { memory = m })
      → C (pc + 2) [] (set_memory st m) (record store { memory = m }) q done
      (go (set_memory st m)))
      → C pc (x ∷ []) st store r done (put program v context.activation x st go)
  puts v x notes pc st store q r done go l lt le le' has standing kept held next =
      let k = context.activation in
      let o = operations.Place v.width v.offset in
      let out = performed (is_reserved program.globals) o (model.local_of st k v.base) x st.memory
      in
      let after : ℕ → Memory → _ = λ u m. conf context site (pc + 1) (u ∷ []) st
      (record store { memory = m }) in
      let e_pc : pc + 2 ≡ pc + 1 + 1 = omega arith in
      calm_turn linear rate (Temporary 0) (conf context site pc (x ∷ []) st store) out after st
      (price (1 + q.turns) q.extra q.slack q.out) r (W done) (λ u st. go st)
      (place_calm (is_reserved program.globals) v.width v.offset (model.local_of st k v.base) x
      st.memory) (omega arith, omega arith, omega arith) refl
      (λ i. computes_above linear rate context site o 0 v.base 0 x pc (x ∷ []) st store i refl
      (has.0, has.1, tt) refl
      ∙ ap (computed linear (exec linear i) (Temporary 0) (conf context site pc (x ∷ []) st store))
      (same_result o v.base x notes st store standing l kept))
      (λ i u m. computed_gives linear rate context site 0 pc (x ∷ []) (u ∷ []) st store u m
      (exec linear i) refl)
      (λ u m e.
      let st' : State = set_memory st m in
      let store' : Store = record store { memory = m } in
      continue_from setting roomy (pc + 1) (pc + 1 + 1) (u ∷ []) [] st' store' store' q
      (price (1 + q.turns) q.extra q.slack q.out) done (go st')
      (omega arith, omega arith, omega arith)
      (λ i. separator_turn setting roomy (pc + 1) (u ∷ []) st' store' i has.2)
      (starts_at setting roomy (pc + 2)
      (pc + 1 + 1) [] st' store' q done (go st') e_pc (next m (memory_stays m st store kept))))

  -- ---- an array is cleared

  abbrev Cleared : StackedVariable → ℕ → ℕ → State → Store → Type 0
  Cleared v j pc st store = C (pc + 1) [] st store (price 2 0 0 0) (pc + 5)
      (clear program v context.activation j st (λ st. Gives Normal st))

  abbrev Loop : StackedVariable → ℕ → Type 0
  Loop v pc = HasAt linear site.body site.regions (pc + 1)
      (JumpIfZero (Local scope.names.free) (pc + 4)
      ∷ Compute (Local scope.names.free) (operations.Clear v.width v.offset) (Local v.base)
      (Local scope.names.free) ∷ Jump (pc + 1) ∷ Separator ∷ [])

  abbrev Left : StackedVariable → ℕ → Store → Type 0
  Left v j store = local_of store context.activation scope.names.free ≡ bytes_of v.width * j

  -- the last of the elements that are left
  clears_one : (v : StackedVariable) (j notes pc : ℕ) (st : State) (store : Store)
      → v.base < z.own → suc j < 2 ^ 32 → Loop v pc → Sd (1 + notes) → K st store
      → st.held ≡ site.held → Left v (suc j) store
      → ((st : State) (store : Store) → K st store → st.held ≡ site.held → Left v j store
      → Cleared v j pc st store)
      → Cleared v (suc j) pc st store
  unfolding clear
  clears_one v j notes pc st store l few has standing kept held rest again =
      by_left (cases_lt st.steps_left 1)
    where
      k : ℕ
      k = context.activation

      x : ℕ
      x = scope.names.free

      w : Width
      w = v.width

      o : Operation
      o = operations.Clear v.width v.offset

      st1 : State
      st1 = count_steps 1 st

      out : OperationResult
      out = performed (is_reserved program.globals) o (model.local_of st k v.base)
          (bytes_of w * suc j) st.memory

      left : State → Outcome
      left st = clear program v k j st (λ st. Gives Normal st)

      go : State → Outcome
      go st = given (performed (is_reserved program.globals) o (model.local_of st k v.base)
          (bytes_of w * suc j) st.memory) st (λ u st. left st)

      store_after : ℕ → Memory → Store
      store_after u m = set_local (record store { memory = m }) k x u

      element : (u : ℕ) (m : Memory) → out ≡ performing.Gives u m
          → C (pc + 1 + 1 + 1) [] (set_memory st1 m) (store_after u m) (price 14 0 0 0) (pc + 5)
          (left (set_memory st1 m))
      element u m e =
          let st' : State = set_memory st1 m in
          let changed : Store = record store { memory = m } in
          let alike : Alike shapes m st.frames changed =
          memory_alike shapes st.memory st.frames store m kept.0 in
          let room = standing.room in
          let kept' : K st' (store_after u m) = (
            note_set_alike shapes m st.frames changed k x u z standing.env.shape standing.past
                alike,
            noted_stays program linear rate body scope.names z shapes context site base
                (1 + notes) u changed standing kept.1,
            kept.2,
          ) in
          let rest' : local_of (store_after u m) k x ≡ bytes_of w * j =
          note_read z changed k x u shapes m st.frames standing.env.shape (omega arith) alike
          ∙ clear_gives (is_reserved program.globals) w v.offset (model.local_of st k v.base)
          (bytes_of w * suc j) u st.memory m e ∙ before_is w j few in
          continue_from setting roomy
          (pc + 1 + 1 + 1) (pc + 1) [] [] st' (store_after u m) (store_after u m) (price 2 0 0 0)
          (price 14 0 0 0) (pc + 5) (left st') (omega arith, omega arith, omega arith)
          (λ i. jump_turn linear rate context site (pc + 1) (pc + 1 + 1 + 1) [] st'
          (store_after u m) i (has.2.2.0, has.2.2.1, tt))
          (again st' (store_after u m) kept' held rest')

      same : performed (is_reserved linear.globals) o (local_of store k v.base)
          (local_of store k x) store.memory ≡ out
      same = same_result o v.base (local_of store k x) (1 + notes) st store standing l kept
          ∙ ap (λ y. performed (is_reserved program.globals) o (model.local_of st k v.base) y
          st.memory) rest

      cleared : C (pc + 1) [] st1 store (price 16 1 0 0) (pc + 5) (go st1)
      cleared =
          continue_from setting roomy
          (pc + 1) (pc + 1 + 1) [] [] st1 store store (price 15 0 0 0) (price 16 1 0 0) (pc + 5)
          (go st1) (omega arith, omega arith, omega arith)
          (λ i. test_local_turn linear rate context site (pc + 4) x (pc + 1) [] st1 store i
          (has.0, has.1, tt)
          ∙ pick_no (nat_eq (local_of store k x) 0)
          (exec linear i (conf context site (pc + 4) [] st1 store))
          (exec linear i (conf context site (pc + 1 + 1) [] st1 store))
          (ap (λ u. nat_eq u 0) rest ∙ some_bytes w j))
          (calm_turn linear rate (Local x) (conf context site (pc + 1 + 1) [] st1 store) out
          (λ u m. conf context site (pc + 1 + 1 + 1) [] st1 (store_after u m)) st1
          (price 14 0 0 0) (price 15 0 0 0) (W (pc + 5)) (λ u st. left st)
          (clear_calm (is_reserved program.globals) w v.offset (model.local_of st k v.base)
          (bytes_of w * suc j) st.memory) (omega arith, omega arith, omega arith) refl
          (λ i. computes_locals linear rate context site o x v.base x (pc + 1 + 1) [] st1 store i
          refl (has.2.0, has.2.1, tt)
          ∙ ap (computed linear (exec linear i) (Local x)
          (conf context site (pc + 1 + 1) [] st1 store)) same)
          (λ i u m. computed_local linear rate context site x (pc + 1 + 1) [] st1 store u m
          (exec linear i)) element)

      by_left : (st.steps_left < 1) ⊎ (1 ≤ st.steps_left)
          → C (pc + 1) [] st store (price 2 0 0 0) (pc + 5) (model.counting 1 st go)
      by_left (inl less) = subst (λ out. C (pc + 1) [] st store (price 2 0 0 0) (pc + 5) out)
          (sym (too_few 1 st go (lt-ltb st.steps_left 1 less)))
          (stopped linear rate (at (conf context site (pc + 1) [] st store)) st 2 0 0
          (omega arith) (from_none linear 0 (conf context site (pc + 1) [] st store)))
      by_left (inr one) = subst (λ out. C (pc + 1) [] st store (price 2 0 0 0) (pc + 5) out)
          (sym (enough 1 st go (le-ltb st.steps_left 1 one)))
          (more linear rate (at (conf context site (pc + 1) [] st store)) st (price 0 0 0 0)
          (price 2 0 0 0) (W (pc + 5)) (go st1) (omega arith, omega arith, omega arith)
          (claim_stepped linear rate (at (conf context site (pc + 1) [] st store)) st
          (st.steps_left - 1) 0 0 0 (W (pc + 5)) (omega arith) (go st1) cleared))

  -- the loop, where so many elements are left
  clears : (v : StackedVariable) (j notes pc : ℕ) (st : State) (store : Store) → v.base < z.own
      → j < 2 ^ 32 → Loop v pc → Sd (1 + notes) → K st store → st.held ≡ site.held
      → Left v j store → Cleared v j pc st store
  unfolding clear
  clears v zero notes pc st store l few has standing kept held rest =
      let k = context.activation in
      let x = scope.names.free in
      let label : pc + 1 + 1 + 1 + 1 ≡ pc + 4 = omega arith in
      let last = has_at linear site.body site.regions (pc + 1 + 1 + 1 + 1) (pc + 4)
      (Separator ∷ []) label has.2.2.2 in
      let end : pc + 4 + 1 ≡ pc + 5 = omega arith in
      continue_from setting roomy
      (pc + 1) (pc + 4) [] [] st store store (price 1 0 0 0) (price 2 0 0 0) (pc + 5)
      (Gives Normal st) (omega arith, omega arith, omega arith)
      (λ i. test_local_turn linear rate context site (pc + 4) x (pc + 1) [] st store i
      (has.0, has.1, tt)
      ∙ pick_yes (nat_eq (local_of store k x) 0)
      (exec linear i (conf context site (pc + 4) [] st store))
      (exec linear i (conf context site (pc + 1 + 1) [] st store))
      (ap (λ u. nat_eq u 0) rest ∙ no_bytes v.width))
      (continue_from setting roomy
      (pc + 4) (pc + 4 + 1) [] [] st store store (price 0 0 0 0) (price 1 0 0 0) (pc + 5)
      (Gives Normal st) (omega arith, omega arith, omega arith)
      (λ i. separator_turn setting roomy (pc + 4) [] st store i last)
      (here setting roomy (pc + 4 + 1)
      (pc + 5) st store (price 0 0 0 0) end (omega arith) kept held))
  clears v (suc j) notes pc st store l few has standing kept held rest =
      clears_one v j notes pc st store l few has standing kept held rest
      (λ st store kept held rest. clears v j notes pc st store l (omega arith) has standing kept
      held rest)

  -- the whole of it
  array_declared : (v : StackedVariable) (count pc : ℕ) (value : Option Expression) (st : State)
      (store : Store) → IsStackedPlace z.own v.base v.offset → count < 2 ^ 32
      → HasAt linear site.body site.regions pc (clear_code scope.names.free v count pc)
      → Sd (1 + 0) → K st store → st.held ≡ site.held
      → C pc [] st store (price 16 1 (1 + optional_weight value) (1 + optional_weight value))
      (pc + 5) (clear program v context.activation count st (λ st. Gives Normal st))
  unfolding with_some
  array_declared v count pc value st store place few has standing kept held =
      let k = context.activation in
      let x = scope.names.free in
      let w = 1 + optional_weight value in
      let bytes = bytes_of v.width * count in
      let store' : Store = set_local store k x (low W64 bytes) in
      let small : low W64 bytes ≡ bytes = let lt = few_bytes v.width count few in omega arith in
      let room = standing.room in
      let kept' : K st store' = (
        note_set_alike shapes st.memory st.frames store k x (low W64 bytes) z standing.env.shape
            standing.past kept.0,
        noted_stays program linear rate body scope.names z shapes context site base 1
            (low W64 bytes) store standing kept.1,
        kept.2,
      ) in
      let rest : Left v count store' =
      note_read z store k x (low W64 bytes) shapes st.memory st.frames standing.env.shape
      (omega arith) kept.0 ∙ small in
      let out : Outcome = clear program v k count st (λ st. Gives Normal st) in
      continue_from setting roomy pc
      (pc + 1) [] [] st store store' (price 15 0 w w) (price 16 1 w w) (pc + 5) out
      (omega arith, omega arith, omega arith)
      (λ i. fetch linear rate (conf context site pc [] st store)
      (Compute (Local x) (operations.Pure (pures.Constant bytes)) (Local x) (Local x)) i has.0)
      (more linear rate (at (conf context site (pc + 1) [] st store')) st (price 2 0 0 0)
      (price 15 0 w w) (W (pc + 5)) out (omega arith, omega arith, omega arith)
      (clears v count 0 pc st store' place.is_local few has.2 standing kept' held rest))

  -- ---- declarations

  scalar_declared : (v : StackedVariable) (value : Option Expression) (notes pc : ℕ) (st : State)
      (store : Store) → st.steps_left ≤ n → 1 + optional_weight value + body + 4 ≤ rate
      → OptionalFits program linear rate body z.own value
      → IsStackedPlace z.own v.base v.offset
      → HasAt linear site.body site.regions pc
      (stacked_declared_code scope.names v None value pc)
      → Sd notes → K st store → st.held ≡ site.held
      → C pc [] st store (price 16 1 (1 + optional_weight value) (1 + optional_weight value))
      (pc + stacked_size None value)
      (declare_stacked program (within program n) v None value context st)
  scalar_declared v None notes pc st store steps light fits place has standing kept held =
      let out = declare_stacked program (within program n) v None None context st in
      let end : pc + 1 + 2 ≡ pc + (3 + 0) = omega arith in
      continue_from setting roomy pc
      (pc + 1) [] (0 ∷ []) st store store (price 2 0 0 0) (price 16 1 1 1) (pc + (3 + 0)) out
      (omega arith, omega arith, omega arith)
      (λ i. constant_turn linear rate context site 0 0 (0 ∷ []) pc [] st store i (omega arith)
      (has.0, has.1, tt) refl)
      (puts v 0 notes (pc + 1) st store (price 0 0 0 0) (price 2 0 0 0) (pc + (3 + 0))
      (λ st. Gives Normal st) place.is_local (omega arith) (omega arith) (omega arith) has.2
      standing kept held (λ m kept. here setting roomy
      (pc + 1 + 2) (pc + (3 + 0)) (set_memory st m) (record store { memory = m }) (price 0 0 0 0)
      end (omega arith) kept held))
  scalar_declared v (Some e) notes pc st store steps light fits place has standing kept held =
      let k = context.activation in
      let we = expression_weight e in
      let w = 1 + we in
      let done = pc + (3 + (expression_size e + 2)) in
      let code = expression_code scope.names e 0 (pc + 3) in
      let e_pc : pc + 1 + 1 + 1 ≡ pc + 3 = omega arith in
      let rest = has_at linear site.body site.regions (pc + 1 + 1 + 1) (pc + 3)
      (code ++ put_code v) e_pc has.2.2.2 in
      let last = has_after linear site.body site.regions (pc + 3) (expression_size e) code
      (put_code v) (expression_length scope.names e 0 (pc + 3)) rest in
      let end : pc + 3 + expression_size e + 2 ≡ done = omega arith in
      let from : pc + 3 ≡ pc + 1 + 2 = omega arith in
      let initialise : ℕ → State → Outcome = λ x st. put program v k x st (λ st. Gives Normal st)
      in
      let go : State → Outcome = λ st. with_value (within program n (Eval e) context st)
      initialise in
      continue_from setting roomy pc
      (pc + 1) [] (0 ∷ []) st store store (price 15 0 w w) (price 16 1 w w) done
      (put program v k 0 st go) (omega arith, omega arith, omega arith)
      (λ i. constant_turn linear rate context site 0 0 (0 ∷ []) pc [] st store i (omega arith)
      (has.0, has.1, tt) refl)
      (puts v 0 notes (pc + 1) st store (price 2 0 w w) (price 15 0 w w) done go place.is_local
      (omega arith) (omega arith) (omega arith)
      (has.2.0, has.2.1, (has.2.2.0, has.2.2.1, tt)) standing kept held (λ m kept.
      let st' : State = set_memory st m in
      let store' : Store = record store { memory = m } in
      starts_at setting roomy (pc + 3) (pc + 1 + 2) [] st' store' (price 2 0 w w) done (go st') from
      (statement_eval program linear rate body n ih e scope.names z shapes context site base notes
      (pc + 3) st' store' (price 2 0 0 0) (price 2 0 w w) (W done) initialise steps (omega arith)
      (joins (omega arith) (omega arith) (omega arith) (omega arith)) fits
      (has_front linear site.body site.regions (pc + 3) code (put_code v) rest) standing kept held
      (λ x mid after steps kept held.
      puts v x notes (pc + 3 + expression_size e) mid after (price 0 0 0 0) (price 2 0 0 0) done
      (λ st. Gives Normal st) place.is_local (omega arith) (omega arith) (omega arith) last
      standing kept held (λ m kept. here setting roomy
      (pc + 3 + expression_size e + 2) done (set_memory mid m) (record after { memory = m })
      (price 0 0 0 0) end (omega arith) kept held)))))

  pub stacked_declared : (v : StackedVariable) (elements : Option ℕ) (value : Option Expression)
      (pc : ℕ) (st : State) (store : Store) → st.steps_left ≤ n
      → 1 + optional_weight value + body + 4 ≤ rate
      → OptionalFits program linear rate body z.own value
      → IsStackedPlace z.own v.base v.offset → ElementsFit elements
      → HasAt linear site.body site.regions pc
      (stacked_declared_code scope.names v elements value pc)
      → Sd (elements_notes elements) → K st store → st.held ≡ site.held
      → C pc [] st store (price 16 1 (1 + optional_weight value) (1 + optional_weight value))
      (pc + stacked_size elements value)
      (declare_stacked program (within program n) v elements value context st)
  stacked_declared v (Some count) value pc st store steps light fits place few has standing kept
      held = array_declared v count pc value st store place few has standing kept held
  stacked_declared v None value pc st store steps light fits place few has standing kept held =
      scalar_declared v value 0 pc st store steps light fits place has standing kept held
