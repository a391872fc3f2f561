-- A function's part of the data stack begins: its base is the pointer, and the parameters that
-- stand there are brought there.
use Rattle.std.proofs.Common.{◌≡◌, ◌<◌, ◌≤◌, ℕ, suc, ◌+◌, List, [], ◌∷◌, length, refl, ap, sym, subst, ◌∙◌, arith}
use Rattle.std.specs.Prelude.{slice_get, Option, Some, None}
use Rattle.lowering_follows.specs.Words.{W64, low, Operation, performed, pointer_of, with_pointer, DataFrame, StackedParameter, Program, State, Outcome, Context, set_memory, allocate, bring, open_frame, is_reserved, Compute, LinearProgram, Store, local_of, set_local, computed, with_some, exec, Names, bring_code, open_code, open_size, HasAt, ParametersFit, FrameFits, Function, first_count, body_start}
use Rattle.source_meaning.specs.State as model
use Rattle.linear_code.specs.declared.slot.Slot.TheVariants.{Local}
use Rattle.c_operations.specs.declared.operation.Operation.TheVariants as operations
use Rattle.lowering_follows.proofs.Lemmas.{at, Site, conf, Ways, Price, price, Claim, more, first, fetch, prefix_self}
use Rattle.lowering_follows.proofs.Stores.{Shape, Alike, below_slot, memory_alike, local_set_alike, kept_set, kept_through}
use Rattle.lowering_follows.proofs.Turns.{computes_locals, computed_local}
use Rattle.lowering_follows.proofs.CalmOperations.{place_calm, place_gives, local_itself, calm_turn}
use Rattle.lowering_follows.proofs.BodyClaims.{Stays}

module _ (program : Program) (linear : LinearProgram) (rate body : ℕ)
    (same_globals : linear.globals ≡ program.globals) (names : Names) (z : Shape)
    (shapes : List Shape) (context : Context) (site : Site) (base : Store)
    (shape : slice_get shapes context.activation ≡ Some z) (past : z.own ≤ names.free) where
  abbrev K : State → Store → Type 0
  K = Stays program linear rate body names shapes context base

  -- an operation on two locals comes to the same in both
  same_result : (o : Operation) (b p : ℕ) (st : State) (store : Store) → b < z.own → p < z.own
      → K st store
      → performed (is_reserved linear.globals) o (local_of store context.activation b)
      (local_of store context.activation p) store.memory ≡ performed (is_reserved program.globals) o
      (model.local_of st context.activation b) (model.local_of st context.activation p) st.memory
  same_result o b p st store l l' kept =
      let k = context.activation in
      let reads = (kept.0.each k z shape).reads in
      ap (λ g. performed (is_reserved g) o (local_of store k b) (local_of store k p) store.memory)
      same_globals
      ∙ ap (λ v. performed (is_reserved program.globals) o v (local_of store k p) store.memory)
      (reads b l)
      ∙ ap (λ v. performed (is_reserved program.globals) o (model.local_of st k b) v store.memory)
      (reads p l')
      ∙ ap (performed (is_reserved program.globals) o (model.local_of st k b)
      (model.local_of st k p)) kept.0.same_memory

  -- ---- parameters

  brings : (b : ℕ) (ps : List StackedParameter) (pc : ℕ) (st : State) (store : Store) (q : Price)
      (w : Ways) (go : State → Outcome) → b < z.own → ParametersFit z.own ps
      → HasAt linear site.body site.regions pc (bring_code b ps) → K st store
      → st.held ≡ site.held
      → ((mid : State) (after : Store) → mid.steps_left ≡ st.steps_left → K mid after
      → mid.held ≡ site.held
      → Claim linear rate (at (conf context site (pc + length ps) [] mid after)) mid q w (go mid))
      → Claim linear rate (at (conf context site pc [] st store)) st
      (price (length ps + q.turns) q.extra q.slack q.out) w
      (bring program b ps context.activation st go)
  brings b [] pc st store q w go l fits has kept held next =
      let e : pc + 0 ≡ pc = omega arith in
      more linear rate (at (conf context site pc [] st store)) st q
      (price (0 + q.turns) q.extra q.slack q.out) w (go st) (omega arith, omega arith, omega arith)
      (subst (λ p. Claim linear rate (at (conf context site p [] st store)) st q w (go st)) e
      (next st store refl kept held))
  brings b (p ∷ ps) pc st store q w go l fits has kept held next =
      let k = context.activation in
      let o = operations.Place p.width p.offset in
      let x = p.parameter in
      let out = performed (is_reserved program.globals) o (model.local_of st k b)
      (model.local_of st k x) st.memory in
      let rest : Price = price (length ps + q.turns) q.extra q.slack q.out in
      let go_on : State → Outcome = λ st. bring program b ps k st go in
      calm_turn linear rate (Local x) (conf context site pc [] st store) out
      (λ u m. conf context site (pc + 1) [] st (set_local (record store { memory = m }) k x u)) st
      rest (price (length (p ∷ ps) + q.turns) q.extra q.slack q.out) w (λ u st. go_on st)
      (place_calm (is_reserved program.globals) p.width p.offset (model.local_of st k b)
      (model.local_of st k x) st.memory) (omega arith, omega arith, omega arith) refl
      (λ i. computes_locals linear rate context site o x b x pc [] st store i refl
      (has.0, has.1, tt)
      ∙ ap (computed linear (exec linear i) (Local x) (conf context site pc [] st store))
      (same_result o b x st store l fits.0 kept))
      (λ i u m. computed_local linear rate context site x pc [] st store u m (exec linear i))
      (λ u m e.
      let st' : State = set_memory st m in
      let store' : Store = record store { memory = m } in
      let kept' : K st' store' =
      (memory_alike shapes st.memory st.frames store m kept.0, kept.1, kept.2) in
      let own : u ≡ local_of store' k x =
      place_gives (is_reserved program.globals) p.width p.offset (model.local_of st k b)
      (model.local_of st k x) u st.memory m e
      ∙ sym ((kept.0.each k z shape).reads x fits.0) in
      let same : set_local store' k x u ≡ store' = ap (set_local store' k x) own
      ∙ local_itself store' k x in
      subst (λ s. Claim linear rate (at (conf context site (pc + 1) [] st s)) st' rest w
      (go_on st')) (sym same)
      (brings b ps (pc + 1) st' store' q w go l fits.1 has.2 kept' held
      (λ mid after left kept held.
      let e : pc + 1 + length ps ≡ pc + suc (length ps) = omega arith in
      subst (λ q'. Claim linear rate (at (conf context site q' [] mid after)) mid q w (go mid))
      (sym e) (next mid after left kept held))))

  -- ---- the whole part

  allocated_alike : (b size : ℕ) (st : State) (store : Store) → b < z.own
      → Alike shapes st.memory st.frames store
      → Alike shapes (allocate b size context.activation st).memory
      (allocate b size context.activation st).frames
      (set_local (record store {
        memory = with_pointer store.memory (low W64 (pointer_of store.memory + size));
      }) context.activation b (pointer_of store.memory))
  allocated_alike b size st store l alike =
      let k = context.activation in
      let m = with_pointer store.memory (low W64 (pointer_of store.memory + size)) in
      let store' : Store = set_local (record store { memory = m }) k b (pointer_of store.memory) in
      let p = local_set_alike shapes st store k b (pointer_of store.memory) z shape l alike in
      subst (λ mm. Alike shapes (with_pointer mm (low W64 (pointer_of mm + size)))
      (model.set_local st k b (pointer_of mm)).frames store') alike.same_memory
      (memory_alike shapes st.memory (model.set_local st k b (pointer_of store.memory)).frames
      (set_local store k b (pointer_of store.memory)) m p)

  pub opens : (frame : Option DataFrame) (parameters pc : ℕ) (st : State) (store : Store)
      (q : Price) (w : Ways) (go : State → Outcome) → FrameFits z.own parameters frame
      → HasAt linear site.body site.regions pc (open_code frame) → K st store
      → st.held ≡ site.held
      → ((mid : State) (after : Store) → mid.steps_left ≡ st.steps_left → K mid after
      → mid.held ≡ site.held
      → Claim linear rate (at (conf context site (pc + open_size frame) [] mid after)) mid q w
      (go mid))
      → Claim linear rate (at (conf context site pc [] st store)) st
      (price (open_size frame + q.turns) q.extra q.slack q.out) w
      (open_frame program frame context.activation st go)
  unfolding with_some
  opens None parameters pc st store q w go fits has kept held next =
      let e : pc + 0 ≡ pc = omega arith in
      more linear rate (at (conf context site pc [] st store)) st q
      (price (0 + q.turns) q.extra q.slack q.out) w (go st) (omega arith, omega arith, omega arith)
      (subst (λ p. Claim linear rate (at (conf context site p [] st store)) st q w (go st)) e
      (next st store refl kept held))
  opens (Some d) parameters pc st store q w go fits has kept held next =
      let k = context.activation in
      let b = d.base in
      let v = pointer_of store.memory in
      let m = with_pointer store.memory (low W64 (v + d.size)) in
      let st' : State = allocate b d.size k st in
      let changed : Store = record store { memory = m } in
      let store' : Store = set_local changed k b v in
      let ok = below_slot k names.free in
      let kept' : K st' store' = (
        allocated_alike b d.size st store fits.0 kept.0,
        kept_through ok shapes base store store' kept.1
            (kept_set ok shapes changed k b v
            (λ y h own o. let same : z ≡ y = let a = shape in cc in
            let far : z.own ≤ b = subst (λ y. y.own ≤ b) (sym same) own in
            let lt = fits.0 in omega arith)),
        kept.2,
      ) in
      let rest : Price = price (length d.parameters + q.turns) q.extra q.slack q.out in
      let out = open_frame program (Some d) k st go in
      first linear rate (conf context site pc [] st store)
      (at (conf context site (pc + 1) [] st' store')) st st' rest
      (price (open_size (Some d) + q.turns) q.extra q.slack q.out) w out
      (omega arith, omega arith, omega arith) refl refl (prefix_self st.events)
      (λ i. fetch linear rate (conf context site pc [] st store)
      (Compute (Local b) (operations.Allocate d.size) (Local b) (Local b)) i has.0
      ∙ computed_local linear rate context site b pc [] st store v m (exec linear i))
      (brings b d.parameters (pc + 1) st' store' q w go fits.0 fits.2 has.2 kept' held
      (λ mid after left kept held.
      let e : pc + 1 + length d.parameters ≡ pc + (1 + length d.parameters) = omega arith in
      subst (λ q'. Claim linear rate (at (conf context site q' [] mid after)) mid q w (go mid))
      (sym e) (next mid after left kept held)))

-- ---- a function with its part

few_opened : (frame : Option DataFrame) (own parameters : ℕ) → FrameFits own parameters frame
    → open_size frame ≤ 1 + parameters
few_opened None own parameters f = omega arith
few_opened (Some d) own parameters f = let few = f.1 in omega arith

module _ (program : Program) (linear : LinearProgram) (rate body : ℕ) where
  -- the part of the data stack begins, and then the body
  pub opened_claim : (same_globals : linear.globals ≡ program.globals) (names : Names) (z : Shape)
      (shapes : List Shape) (context : Context) (site : Site) (base : Store)
      → slice_get shapes context.activation ≡ Some z → z.own ≤ names.free → (fn : Function)
      → FrameFits z.own (length fn.parameters) fn.data_frame
      → HasAt linear site.body site.regions (first_count fn) (open_code fn.data_frame)
      → (st : State) (store : Store) (x : ℕ) (w : Ways) (go : State → Outcome)
      → Stays program linear rate body names shapes context base st store → st.held ≡ site.held
      → ((mid : State) (after : Store) → mid.steps_left ≡ st.steps_left
      → Stays program linear rate body names shapes context base mid after
      → mid.held ≡ site.held
      → Claim linear rate (at (conf context site (body_start fn) [] mid after)) mid (price 0 0 x x)
      w (go mid))
      → Claim linear rate (at (conf context site (first_count fn) [] st store)) st
      (price (1 + length fn.parameters) 0 x x) w
      (open_frame program fn.data_frame context.activation st go)
  opened_claim same_globals names z shapes context site base shape past fn frame has st store x w go
      kept held next =
      let few = few_opened fn.data_frame z.own (length fn.parameters) frame in
      more linear rate (at (conf context site (first_count fn) [] st store)) st
      (price (open_size fn.data_frame + 0) 0 x x) (price (1 + length fn.parameters) 0 x x) w
      (open_frame program fn.data_frame context.activation st go)
      (omega arith, omega arith, omega arith)
      (opens program linear rate body same_globals names z shapes context site base shape past
      fn.data_frame (length fn.parameters) (first_count fn) st store (price 0 0 x x) w go frame has
      kept held next)
