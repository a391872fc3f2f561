-- Parts of statements: sequences, discarded values, loops' bodies, and ways out.
use Rattle.std.proofs.Common.{◌≡◌, ◌<◌, ◌≤◌, ℕ, zero, suc, ◌+◌, List, [], ◌∷◌, refl, ap, sym, subst, ◌∙◌, arith}
use Rattle.std.specs.Prelude.{set, Option, Some, None}
use Rattle.c_operations.specs.declared.operation.Operation.TheVariants as operations
use Rattle.c_operations.specs.declared.operation.Pure.TheVariants as pures
use Rattle.lowering_follows.specs.Words.{Expression, Program, State, Value, Normal, Broke, Continued, Outcome, Gives, optional, declare, within, Temporary, Compute, Separator, LocalUnwind, LinearProgram, Store, with_some, set_local, exec, Nowhere, Jumps, expression_size, discarded_size, declared_size, copy, expression_code, jump_code, return_code, leave_code, discarded_code, expression_weight, optional_weight, HasAt, IsWay, IsPlace, OptionalFits, DeclaredPlaced}
use Rattle.source_meaning.specs.Statements.{in_loop}
use Rattle.linear_code.specs.declared.slot.Slot.TheVariants.{Local}
use Rattle.lowering_expressions.specs.declared.scope.Way.TheVariants.{Unwinds}
use Rattle.source_meaning.specs.State as model
use Rattle.lowering_follows.proofs.Lemmas.{Part, at, conf, Ways, Price, price, Join, Arrives, Claim, first_ways, joins, Passes, Joined, more, attains_more, after, arrives_more, first, stepped, still, fetch, prefix_self}
use Rattle.lowering_expressions.specs.declared.scope.Way as jumps
use Rattle.lowering_expressions.specs.Scope as scopes
use Rattle.lowering_follows.proofs.Stores.{at_list, below_slot, local_set_alike, kept_set, kept_through}
use Rattle.lowering_follows.proofs.Places.{has_front, has_after}
use Rattle.lowering_follows.proofs.Lengths.{expression_length}
use Rattle.lowering_follows.proofs.Turns.{put_local_turn, jump_turn}
use Rattle.lowering_follows.proofs.Raises.{unwound_is}
use Rattle.lowering_follows.proofs.BodyClaims.{own_target, exit_way, jump_way, leave_way, statement_ways, Stays, Surroundings, statement_eval}
use Rattle.lowering_follows.proofs.StatementSettings.{StatementSetting}

set_again : (xs : List ℕ) (x v : ℕ) → set (set xs x v) x v ≡ set xs x v
set_again [] x v = refl
set_again (y ∷ xs) zero v = refl
set_again (y ∷ xs) (suc x) v = ap (λ zs. y ∷ zs) (set_again xs x v)

frames_again : (xs : List (List ℕ)) (k x v : ℕ)
    → set (set xs k (set (at_list xs k) x v)) k
    (set (at_list (set xs k (set (at_list xs k) x v)) k) x v) ≡ set xs k (set (at_list xs k) x v)
frames_again [] k x v = refl
frames_again (f ∷ xs) zero x v = ap (λ g. g ∷ xs) (set_again f x v)
frames_again (f ∷ xs) (suc k) x v = ap (λ zs. f ∷ zs) (frames_again xs k x v)

module _ (program : Program) (linear : LinearProgram) (rate body : ℕ) where
  -- a normal end continues elsewhere
  pub normal_then : (s : Part) (t : State → Store → Part) (w : Ways) (st : State) (p q r : Price)
      (o : Outcome) → Join p q r → Passes linear rate p r
      → Claim linear rate s st p (first_ways t w) o
      → ((mid : State) (store : Store) → mid.steps_left ≤ st.steps_left → w.kept mid store
      → mid.held ≡ w.held → Claim linear rate (t mid store) mid q w (Gives Normal mid))
      → Claim linear rate s st r w o
  normal_then s t w st p q r (Gives (Value x) mid) j l a b = absurd a
  normal_then s t w st p q r (Gives Normal mid) j l a b = after linear rate s (t mid a.store) st mid
      p.turns p.extra p.slack q r w (Gives Normal mid) (j.turns, j.slack, j.second_out) a.reaches
      (b mid a.store a.reaches.low a.fits a.same)
  normal_then s t w st p q r (Gives x mid) j l a b = let lr = j.turns in
      attains_more linear rate s st mid p r (first_ways t w) x (omega arith, l, j.first_out) a

module _ (setting : StatementSetting) (roomy : 4 ≤ setting.rate) where
  open setting use {program, linear, rate, body, n, ih, scope, z, shapes, context, site, base}

  abbrev pub Ks : State → Store → Type 0
  Ks = Stays program linear rate body scope.names shapes context base

  abbrev pub S : ℕ → Ways
  S done = statement_ways program linear rate body scope context site Ks done

  abbrev pub G : (pc : ℕ) (temps : List ℕ) (st : State) (store : Store) → Price → (done : ℕ)
      → Outcome → Type 0
  G pc temps st store p done out = Claim linear rate (at (conf context site pc temps st store))
      st p (S done) out

  pub ends_at : (pc : ℕ) (temps : List ℕ) (st : State) (store : Store) (p : Price)
      (done done' : ℕ) (out : Outcome) → done ≡ done' → G pc temps st store p done out
      → G pc temps st store p done' out
  ends_at pc temps st store p done done' out e g = subst (λ d. G pc temps st store p d out) e g

  pub starts_at : (pc pc' : ℕ) (temps : List ℕ) (st : State) (store : Store) (p : Price)
      (done : ℕ) (out : Outcome) → pc ≡ pc' → G pc temps st store p done out
      → G pc' temps st store p done out
  starts_at pc pc' temps st store p done out e g = subst (λ d. G d temps st store p done out) e
      g

  -- one turn
  pub continue_from : (pc pc' : ℕ) (temps temps' : List ℕ) (st : State) (store store' : Store)
      (q r : Price) (done : ℕ) (out : Outcome) → Joined linear rate 1 rate 0 q r
      → ((k : ℕ) → exec linear (suc k) (conf context site pc temps st store)
      ≡ exec linear k (conf context site pc' temps' st store'))
      → G pc' temps' st store' q done out → G pc temps st store r done out
  continue_from pc pc' temps temps' st store store' q r done out j h g =
      first linear rate (conf context site pc temps st store)
      (at (conf context site pc' temps' st store')) st st q r (S done) out j refl refl
      (prefix_self st.events) h g

  pub separator_turn : (pc : ℕ) (temps : List ℕ) (st : State) (store : Store) (k : ℕ)
      → HasAt linear site.body site.regions pc (Separator ∷ [])
      → exec linear (suc k) (conf context site pc temps st store)
      ≡ exec linear k (conf context site (pc + 1) [] st store)
  separator_turn pc temps st store k has = fetch linear rate
      (conf context site pc temps st store) Separator k has.0

  -- the end is here
  pub here : (pc done : ℕ) (st : State) (store : Store) (p : Price) → pc ≡ done
      → p.extra ≤ p.slack → Ks st store → st.held ≡ site.held
      → G pc [] st store p done (Gives Normal st)
  here pc done st store p e le kept held =
      ends_at pc [] st store p pc done (Gives Normal st) e
      (record {
        store = store;
        fits = kept;
        same = held;
        reaches = still linear rate (at (conf context site pc [] st store))
            (at (conf context site pc [] st store)) st st p.turns p.extra p.slack refl le
            (prefix_self st.events) (λ k. refl);
      })

  -- an expression whose value isn't used, if there is one
  pub discard_then : (e : Option Expression) (v : ℕ) (notes pc : ℕ) (st : State) (store : Store)
      (q r : Price) (done : ℕ) (f : ℕ → State → Outcome) → st.steps_left ≤ n
      → optional_weight e + body + 4 ≤ rate
      → Join (price 1 0 (optional_weight e) (optional_weight e)) q r
      → OptionalFits program linear rate body z.own e
      → HasAt linear site.body site.regions pc (discarded_code scope.names e pc)
      → Surroundings program linear rate body scope.names z shapes context site base notes
      → Ks st store → st.held ≡ site.held
      → ((v : ℕ) (mid : State) (after : Store) → mid.steps_left ≤ n → Ks mid after
      → mid.held ≡ site.held → G (pc + discarded_size e) [] mid after q done (f v mid))
      → G pc [] st store r done (optional (within program n) v e context st f)
  discard_then None v notes pc st store q r done f steps light j fits has standing kept held
      go =
      let a = j.turns in let b = j.slack in let c = j.second_out in
      more linear rate (at (conf context site pc [] st store)) st q r (S done) (f v st)
      (omega arith, omega arith, omega arith)
      (starts_at (pc + 0) pc [] st store q done (f v st) (omega arith)
      (go v st store steps kept held))
  discard_then (Some e) v notes pc st store q r done f steps light j fits has standing kept held
      go =
      let a = j.turns in let b = j.slack in let c = j.first_out in let d = j.second_out in
      let end : pc + expression_size e + 1 ≡ pc + (expression_size e + 1) = omega arith in
      let code = expression_code scope.names e 0 pc in
      statement_eval program linear rate body n ih e scope.names z shapes context site base
      notes pc st store (price (1 + q.turns) q.extra q.slack q.out) r (S done) f steps light
      (joins (omega arith) (omega arith) (omega arith) (omega arith)) fits
      (has_front linear site.body site.regions pc code (Separator ∷ []) has) standing kept
      held
      (λ v mid after steps kept held.
      continue_from (pc + expression_size e) (pc + expression_size e + 1) (v ∷ []) [] mid after
      after q (price (1 + q.turns) q.extra q.slack q.out) done (f v mid)
      (omega arith, omega arith, omega arith)
      (λ k. separator_turn (pc + expression_size e) (v ∷ []) mid after k
      (has_after linear site.body site.regions pc (expression_size e) code (Separator ∷ [])
      (expression_length scope.names e 0 pc) has))
      (starts_at (pc + (expression_size e + 1)) (pc + expression_size e + 1) [] mid after q done
      (f v mid) (sym end) (go v mid after steps kept held)))

  -- ---- ways out

  -- to the function's exit
  pub leaves_by : (way : jumps.Way) (pc v : ℕ) (st : State) (store : Store) (p : Price)
      → 1 ≤ p.turns → p.extra ≤ rate + p.slack → IsWay way
      → HasAt linear site.body site.regions pc (return_code way) → Ks st store
      → st.held ≡ site.held
      → Arrives linear rate (at (conf context site pc (v ∷ []) st store)) st p Ks site.held st
      (exit_way program linear rate body context site way v)
  leaves_by Nowhere pc v st store p lr le is has kept held = absurd is
  leaves_by (Jumps label) pc v st store p lr le is has kept held = record {
    store = store;
    fits = kept;
    same = held;
    reaches = stepped linear rate (conf context site pc (v ∷ []) st store)
        (at (conf context site label (v ∷ []) st store)) st st p.turns p.extra p.slack refl lr
        le refl (prefix_self st.events)
        (λ k. jump_turn linear rate context site label pc (v ∷ []) st store k
        (has.0, has.1, tt));
  }
  leaves_by (Unwinds label) pc v st store p lr le is has kept held = (
    pc,
    record {
      store = store;
      fits = kept;
      same = held;
      reaches = stepped linear rate (conf context site pc (v ∷ []) st store) _ st st p.turns
          p.extra p.slack refl lr le refl (prefix_self st.events)
          (λ k. fetch linear rate (conf context site pc (v ∷ []) st store) (LocalUnwind label) k
          has.0 ∙ unwound_is program linear rate body (own_target site label) context site pc
          (v ∷ []) st store (exec linear k) has.1);
    },
  )

  pub breaks_by : (way : jumps.Way) (pc : ℕ) (st : State) (store : Store) (p : Price)
      → 1 ≤ p.turns → p.extra ≤ rate + p.slack → IsWay way
      → HasAt linear site.body site.regions pc (jump_code way) → Ks st store → st.held ≡
      site.held
      → Arrives linear rate (at (conf context site pc [] st store)) st p Ks site.held st
      (jump_way program linear rate body context site way)
  breaks_by Nowhere pc st store p lr le is has kept held = absurd is
  breaks_by (Jumps label) pc st store p lr le is has kept held = record {
    store = store;
    fits = kept;
    same = held;
    reaches = stepped linear rate (conf context site pc [] st store)
        (at (conf context site label [] st store)) st st p.turns p.extra p.slack refl lr le refl
        (prefix_self st.events)
        (λ k. jump_turn linear rate context site label pc [] st store k (has.0, has.1, tt));
  }
  breaks_by (Unwinds label) pc st store p lr le is has kept held = (
    pc,
    record {
      store = store;
      fits = kept;
      same = held;
      reaches = stepped linear rate (conf context site pc [] st store) _ st st p.turns p.extra
          p.slack refl lr le refl (prefix_self st.events)
          (λ k. fetch linear rate (conf context site pc [] st store) (LocalUnwind label) k has.0
          ∙ unwound_is program linear rate body (own_target site label) context site pc [] st
          store (exec linear k) has.1);
    },
  )

  pub ends_try : (way : Option ℕ) (pc : ℕ) (st : State) (store : Store) (p : Price)
      → 1 ≤ p.turns → p.extra ≤ rate + p.slack → IsPlace way
      → HasAt linear site.body site.regions pc (leave_code way ∷ []) → Ks st store
      → st.held ≡ site.held
      → Arrives linear rate (at (conf context site pc [] st store)) st p Ks site.held st
      (leave_way program linear rate body context site way)
  ends_try None pc st store p lr le is has kept held = absurd is
  ends_try (Some label) pc st store p lr le is has kept held = record {
    store = store;
    fits = kept;
    same = held;
    reaches = stepped linear rate (conf context site pc [] st store)
        (at (conf context site label [] st store)) st st p.turns p.extra p.slack refl lr le refl
        (prefix_self st.events)
        (λ k. jump_turn linear rate context site label pc [] st store k has);
  }

  -- ---- the end of a loop's body

  pub loop_ends : (s : Part) (end again : ℕ) (st : State) (p q r : Price) (o : Outcome)
      (go : State → Outcome) → Join p q r → Passes linear rate p r
      → ((mid : State) (store : Store) → mid.steps_left ≤ st.steps_left → Ks mid store
      → mid.held ≡ site.held → G again [] mid store q end (go mid))
      → Claim linear rate s st p (statement_ways program linear rate body
      (scopes.in_loop end again scope) context site Ks again) o
      → Claim linear rate s st r (S end) (in_loop o go)
  unfolding in_loop
  loop_ends s end again st p q r (Gives (Value x) mid) go j l b a = absurd a
  loop_ends s end again st p q r (Gives Normal mid) go j l b a = after linear rate s
      (at (conf context site again [] mid a.store)) st mid p.turns p.extra p.slack q r (S end)
      (go mid) (j.turns, j.slack, j.second_out) a.reaches
      (b mid a.store a.reaches.low a.fits a.same)
  loop_ends s end again st p q r (Gives Continued mid) go j l b a = after linear rate s
      (at (conf context site again [] mid a.store)) st mid p.turns p.extra p.slack q r (S end)
      (go mid) (j.turns, j.slack, j.second_out) a.reaches
      (b mid a.store a.reaches.low a.fits a.same)
  loop_ends s end again st p q r (Gives Broke mid) go j l b a = let w = S end in
      let lr = j.turns in arrives_more linear rate s st mid p r Ks site.held w.normal
      (omega arith) l a
  loop_ends s end again st p q r (Gives x mid) go j l b a = let lr = j.turns in
      attains_more linear rate s st mid p r (statement_ways program linear rate body
      (scopes.in_loop end again scope) context site Ks again) x (omega arith, l, j.first_out) a

  -- a loop, and the separator after it, where a `break` leads
  pub loop_lands : (s : Part) (end done : ℕ) (st : State) (w w' : ℕ) (o : Outcome)
      → 1 + w ≤ w' → end + 1 ≡ done
      → HasAt linear site.body site.regions end (Separator ∷ [])
      → Claim linear rate s st (price 1 0 w w) (S end) o
      → Claim linear rate s st (price 16 1 w' w') (S done) o
  loop_lands s end done st w w' o l e has a =
      subst (λ d. Claim linear rate s st (price 16 1 w' w') (S d) o) e
      (normal_then program linear rate body s (λ st store. at (conf context site end [] st store))
      (S (end + 1)) st
      (price 1 0 w w) (price 1 0 0 0) (price 16 1 w' w') o
      (joins (omega arith) (omega arith) (omega arith) (omega arith)) (omega arith) a
      (λ mid store low kept held.
      continue_from end (end + 1) [] [] mid store store (price 0 0 0 0) (price 1 0 0 0)
      (end + 1) (Gives Normal mid) (omega arith, omega arith, omega arith)
      (λ k. separator_turn end [] mid store k has)
      (here (end + 1) (end + 1) mid store (price 0 0 0 0) refl (omega arith) kept held)))

  -- ---- declarations

  -- a local of the source is written
  stays_set : (x v : ℕ) (notes : ℕ) (st : State) (store : Store) → x < z.own
      → Surroundings program linear rate body scope.names z shapes context site base notes
      → Ks st store → Ks (model.set_local st context.activation x v)
      (set_local store context.activation x v)
  stays_set x v notes st store l standing kept =
      let ok = below_slot context.activation scope.names.free in (
        local_set_alike shapes st store context.activation x v z standing.env.shape l kept.0,
        kept_through ok shapes base store (set_local store context.activation x v) kept.1
            (kept_set ok shapes store context.activation x v
            (λ y h past o. let same : z ≡ y = let a = standing.env.shape in cc in
            let q : z.own ≡ y.own = ap (λ y. y.own) same in omega arith)),
        kept.2,
      )

  clear_turn : (x : ℕ) (pc : ℕ) (temps : List ℕ) (st : State) (store : Store) (k : ℕ)
      → HasAt linear site.body site.regions pc
      (Compute (Local x) (operations.Pure (pures.Constant 0)) (Local x) (Local x) ∷ [])
      → exec linear (suc k) (conf context site pc temps st store)
      ≡ exec linear k (conf context site (pc + 1) temps st (set_local store context.activation x 0))
  unfolding with_some
  clear_turn x pc temps st store k has = fetch linear rate (conf context site pc temps st store)
      (Compute (Local x) (operations.Pure (pures.Constant 0)) (Local x) (Local x)) k has.0

  pub declared_runs : (x : ℕ) (value : Option Expression) (notes pc : ℕ) (st : State)
      (store : Store) → st.steps_left ≤ n → 1 + optional_weight value + body + 4 ≤ rate
      → DeclaredPlaced program linear rate body z.own site.body scope.names
      (record { local = x; stacked = None; value = value }) site.regions pc
      → Surroundings program linear rate body scope.names z shapes context site base notes
      → Ks st store → st.held ≡ site.held
      → G pc [] st store (price 16 1 (1 + optional_weight value) (1 + optional_weight value))
      (pc + declared_size (record { local = x; stacked = None; value = value }))
      (declare program (within program n) (record { local = x; stacked = None; value = value })
      context st)
  declared_runs x None notes pc st store steps light has standing kept held =
      let cleared : State = model.set_local st context.activation x 0 in
      let store' = set_local store context.activation x 0 in
      let twice : model.set_local cleared context.activation x 0
      ≡ cleared = ap (λ fs. record st { frames = fs })
      (frames_again st.frames context.activation x 0) in
      subst (λ s. G pc [] st store (price 16 1 1 1) (pc + 1) (Gives Normal s)) (sym twice)
      (record {
        store = store';
        fits = stays_set x 0 notes st store has.0 standing kept;
        same = held;
        reaches = stepped linear rate (conf context site pc [] st store)
            (at (conf context site (pc + 1) [] cleared store')) st cleared 16 1 1 refl
            (omega arith) (omega arith) refl (prefix_self st.events)
            (λ k. clear_turn x pc [] st store k (has.3.0, has.3.1, tt));
      })
  declared_runs x (Some e) notes pc st store steps light has standing kept held =
      let a = context.activation in
      let w = expression_weight e in
      let cleared : State = model.set_local st a x 0 in
      let store' = set_local store a x 0 in
      let code = expression_code scope.names e 0 (pc + 1) in
      let pc1 = pc + 1 in
      let pc2 = pc1 + expression_size e in
      let last = has_after linear site.body site.regions pc1 (expression_size e) code
      (copy (Local x) (Temporary 0) ∷ Separator ∷ []) (expression_length scope.names e 0 pc1)
      has.3.2 in
      let done = pc + (1 + (expression_size e + 2)) in
      let end : pc2 + 1 + 1 ≡ done = omega arith in
      let f : ℕ → State → Outcome = λ v st. Gives Normal (model.set_local st a x v) in
      let o = optional (within program n) 0 (Some e) context cleared f in
      first linear rate (conf context site pc [] st store)
      (at (conf context site pc1 [] cleared store')) st cleared (price 15 0 (1 + w) (1 + w))
      (price 16 1 (1 + w) (1 + w)) (S done) o (omega arith, omega arith, omega arith) refl
      refl (prefix_self st.events)
      (λ k. clear_turn x pc [] st store k (has.3.0, has.3.1, tt))
      (statement_eval program linear rate body n ih e scope.names z shapes context site base
      notes pc1 cleared store' (price 2 0 0 0) (price 15 0 (1 + w) (1 + w)) (S done) f steps
      (omega arith) (joins (omega arith) (omega arith) (omega arith) (omega arith)) has.1
      (has_front linear site.body site.regions pc1 code
      (copy (Local x) (Temporary 0) ∷ Separator ∷ []) has.3.2) standing
      (stays_set x 0 notes st store has.0 standing kept) held (λ v mid after steps kept held.
      let put : State = model.set_local mid a x v in
      let after' = set_local after a x v in
      first linear rate (conf context site pc2 (v ∷ []) mid after)
      (at (conf context site (pc2 + 1) (v ∷ []) put after')) mid put (price 1 0 0 0)
      (price 2 0 0 0) (S done) (Gives Normal put) (omega arith, omega arith, omega arith) refl
      refl (prefix_self mid.events)
      (λ k. put_local_turn linear rate context site x 0 v pc2 (v ∷ []) mid after k
      (last.0, last.1, tt) refl)
      (continue_from (pc2 + 1) (pc2 + 1 + 1) (v ∷ []) [] put after' after' (price 0 0 0 0)
      (price 1 0 0 0) done (Gives Normal put) (omega arith, omega arith, omega arith)
      (λ k. separator_turn (pc2 + 1) (v ∷ []) put after' k (last.2.0, last.2.1, tt))
      (here (pc2 + 1 + 1) done put after' (price 0 0 0 0) end (omega arith)
      (stays_set x v notes mid after has.0 standing kept) held))))
