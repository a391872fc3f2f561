-- The data stack's pointer where blocks begin: it is where the function's own statements have it.
use Rattle.std.proofs.Common.{◌≡◌, ◌<◌, ℕ, suc, ◌+◌, List, [], ◌∷◌, refl, ap, subst, ◌∙◌, arith}
use Rattle.std.specs.Prelude.{Bool, true, false, slice_get, nat_eq, Option, Some, None}
use Rattle.lowering_follows.specs.Words.{W64, low, with_pointer, Program, State, Outcome, Context, DataPart, reset_pointer, reset_pointer_if, of_test, LinearProgram, Store, local_of, exec, Separator, Names, reset_code, finally_begin, HasAt, FrameFits, part_of, DataFrame}
use Rattle.source_meaning.specs.State as model
use Rattle.c_operations.specs.declared.operation.Operation.TheVariants as operations
use Rattle.lowering_follows.proofs.Lemmas.{at, Site, conf, Ways, Price, Joined, Claim, Reaches, reaches_after, first, stepped, fetch, prefix_self}
use Rattle.lowering_follows.proofs.Stores.{Shape, Alike, memory_alike}
use Rattle.lowering_follows.proofs.Turns.{computes_locals, computed_local, test_local_turn}
use Rattle.lowering_follows.proofs.CalmOperations.{local_itself}
use Rattle.lowering_follows.proofs.NodeParts.{pick_yes, pick_no}
use Rattle.lowering_follows.proofs.BodyClaims.{BaseFits, Stays}

-- the linear code's store with its pointer so many bytes above a base
abbrev pub pointing : (base size activation : ℕ) → Store → Store
pointing base size k store = record store {
  memory = with_pointer store.memory (low W64 (local_of store k base + size));
}

abbrev pub reset_store : Option DataPart → (activation : ℕ) → Store → Store
reset_store None k store = store
reset_store (Some part) k store = pointing part.base part.size k store

abbrev pub reset_store_if : Bool → Option DataPart → (activation : ℕ) → Store → Store
reset_store_if true part k store = reset_store part k store
reset_store_if false part k store = store

-- the same memory, where the pointer is above the same local
pub pointing_alike : (shapes : List Shape) (st : State) (store : Store) (base size k : ℕ)
    (z : Shape)
    → slice_get shapes k ≡ Some z → base < z.own → Alike shapes st.memory st.frames store
    → Alike shapes (with_pointer st.memory (low W64 (model.local_of st k base + size))) st.frames
    (pointing base size k store)
pointing_alike shapes st store base size k z h l p =
    let m = with_pointer store.memory (low W64 (local_of store k base + size)) in
    let same : m ≡ with_pointer st.memory (low W64 (model.local_of st k base + size)) =
    ap (λ v. with_pointer store.memory (low W64 (v + size))) ((p.each k z h).reads base l)
    ∙ ap (λ mm. with_pointer mm (low W64 (model.local_of st k base + size))) p.same_memory in
    subst (λ mm. Alike shapes mm st.frames (pointing base size k store)) same
    (memory_alike shapes st.memory st.frames store m p)

module _ (program : Program) (linear : LinearProgram) (rate body : ℕ) where
  -- a function's part has its base in a local of the source
  pub base_of : (own parameters : ℕ) (frame : Option DataFrame) → FrameFits own parameters frame
      → BaseFits program linear rate body own (part_of frame)
  base_of own parameters None f = tt
  base_of own parameters (Some d) f = f.0

  -- ---- which stores may be there then

  pub reset_stays : (names : Names) (shapes : List Shape) (context : Context) (base : Store)
      (z : Shape) (part : Option DataPart) (st : State) (store : Store)
      → slice_get shapes context.activation ≡ Some z
      → BaseFits program linear rate body z.own part
      → Stays program linear rate body names shapes context base st store
      → Stays program linear rate body names shapes context base
      (reset_pointer part context.activation st) (reset_store part context.activation store)
  reset_stays names shapes context base z None st store h f kept = kept
  reset_stays names shapes context base z (Some part) st store h f kept = (
    pointing_alike shapes st store part.base part.size context.activation z h f kept.0,
    kept.1,
    kept.2,
  )

  pub reset_stays_if : (flag : Bool) (names : Names) (shapes : List Shape) (context : Context)
      (base : Store) (z : Shape) (part : Option DataPart) (st : State) (store : Store)
      → slice_get shapes context.activation ≡ Some z
      → BaseFits program linear rate body z.own part
      → Stays program linear rate body names shapes context base st store
      → Stays program linear rate body names shapes context base
      (reset_pointer_if flag part context.activation st)
      (reset_store_if flag part context.activation store)
  reset_stays_if true names shapes context base z part st store h f kept =
      reset_stays names shapes context base z part st store h f kept
  reset_stays_if false names shapes context base z part st store h f kept = kept

  -- ---- the turns

  module _ (context : Context) (site : Site) where
    -- the pointer is set, and the base stays
    pub pointing_turn : (base size pc : ℕ) (temps : List ℕ) (st : State) (store : Store) (j : ℕ)
        → HasAt linear site.body site.regions pc (reset_code (Some (record {
          base = base;
          size = size;
        })) ∷ [])
        → exec linear (suc j) (conf context site pc temps st store)
        ≡ exec linear j (conf context site (pc + 1) temps st
        (pointing base size context.activation store))
    pointing_turn base size pc temps st store j has =
        let k = context.activation in
        let v = local_of store k base in
        let m = with_pointer store.memory (low W64 (v + size)) in
        computes_locals linear rate context site (operations.SetPointer size) base base base pc
        temps st store j refl has
        ∙ computed_local linear rate context site base pc temps st store v m (exec linear j)
        ∙ ap (λ s. exec linear j (conf context site (pc + 1) temps st (record s { memory = m })))
        (local_itself store k base)

    pub reset_turn : (part : Option DataPart) (pc : ℕ) (st : State) (store : Store) (j : ℕ)
        → HasAt linear site.body site.regions pc (reset_code part ∷ [])
        → exec linear (suc j) (conf context site pc [] st store)
        ≡ exec linear j (conf context site (pc + 1) [] st
        (reset_store part context.activation store))
    reset_turn None pc st store j has =
        fetch linear rate (conf context site pc [] st store) Separator j has.0
    reset_turn (Some part) pc st store j has =
        pointing_turn part.base part.size pc [] st store j has

    -- the rest of a part, from there
    pub reset_claim : (part : Option DataPart) (pc : ℕ) (st : State) (store : Store)
        → HasAt linear site.body site.regions pc (reset_code part ∷ []) → (q r : Price) (w : Ways)
        (o : Outcome) → Joined linear rate 1 rate 0 q r
        → Claim linear rate (at (conf context site (pc + 1) []
        (reset_pointer part context.activation st) (reset_store part context.activation store)))
        (reset_pointer part context.activation st) q w o
        → Claim linear rate (at (conf context site pc [] st store)) st r w o
    reset_claim None pc st store has q r w o j a =
        first linear rate (conf context site pc [] st store)
        (at (conf context site (pc + 1) [] st store)) st st q r w o j refl refl
        (prefix_self st.events) (λ i. reset_turn None pc st store i has) a
    reset_claim (Some part) pc st store has q r w o j a =
        let st' = reset_pointer (Some part) context.activation st in
        let store' = reset_store (Some part) context.activation store in
        first linear rate (conf context site pc [] st store)
        (at (conf context site (pc + 1) [] st' store')) st st' q r w o j refl refl
        (prefix_self st.events) (λ i. reset_turn (Some part) pc st store i has) a

    separator_reach : (pc : ℕ) (st : State) (store : Store)
        → HasAt linear site.body site.regions pc (Separator ∷ [])
        → Reaches linear rate (at (conf context site pc [] st store))
        (at (conf context site (pc + 1) [] st store)) st st 1 0 0
    separator_reach pc st store has =
        stepped linear rate (conf context site pc [] st store)
        (at (conf context site (pc + 1) [] st store)) st st 1 0 0 refl (omega arith) (omega arith)
        refl (prefix_self st.events)
        (λ j. fetch linear rate (conf context site pc [] st store) Separator j has.0)

    separated : (x : ℕ) (st : State) (store : Store)
        → HasAt linear site.body site.regions 0 (finally_begin None x)
        → Reaches linear rate (at (conf context site 0 [] st store))
        (at (conf context site 3 [] st store)) st st 3 0 0
    separated x st store has =
        reaches_after linear rate (at (conf context site 0 [] st store))
        (at (conf context site 2 [] st store)) (at (conf context site 3 [] st store)) st st st
        2 0 0 1 0 0 3 0 0 (omega arith) (omega arith)
        (reaches_after linear rate (at (conf context site 0 [] st store))
        (at (conf context site 1 [] st store)) (at (conf context site 2 [] st store)) st st st
        1 0 0 1 0 0 2 0 0 (omega arith) (omega arith)
        (separator_reach 0 st store (has.0, has.1, tt))
        (separator_reach 1 st store (has.2.0, has.2.1, tt)))
        (separator_reach 2 st store has.2.2)

    -- a `__finally` block begins
    pub finally_reach : (flag : Bool) (part : Option DataPart) (x : ℕ) (st : State)
        (store : Store) → local_of store context.activation x ≡ of_test flag
        → HasAt linear site.body site.regions 0 (finally_begin part x)
        → Reaches linear rate (at (conf context site 0 [] st store))
        (at (conf context site 3 [] (reset_pointer_if flag part context.activation st)
        (reset_store_if flag part context.activation store))) st
        (reset_pointer_if flag part context.activation st) 3 0 0
    finally_reach true None x st store e has = separated x st store has
    finally_reach false None x st store e has = separated x st store has
    finally_reach true (Some part) x st store e has =
        let k = context.activation in
        let st' = reset_pointer (Some part) k st in
        let store' = pointing part.base part.size k store in
        reaches_after linear rate (at (conf context site 0 [] st store))
        (at (conf context site 2 [] st' store')) (at (conf context site 3 [] st' store')) st st' st'
        2 0 0 1 0 0 3 0 0 (omega arith) (omega arith)
        (reaches_after linear rate (at (conf context site 0 [] st store))
        (at (conf context site 1 [] st store)) (at (conf context site 2 [] st' store')) st st st'
        1 0 0 1 0 0 2 0 0 (omega arith) (omega arith)
        (stepped linear rate (conf context site 0 [] st store)
        (at (conf context site 1 [] st store)) st st 1 0 0 refl (omega arith) (omega arith) refl
        (prefix_self st.events)
        (λ j. test_local_turn linear rate context site 2 x 0 [] st store j (has.0, has.1, tt)
        ∙ pick_no (nat_eq (local_of store k x) 0)
        (exec linear j (conf context site 2 [] st store))
        (exec linear j (conf context site (0 + 1) [] st store)) (ap (λ v. nat_eq v 0) e)))
        (stepped linear rate (conf context site 1 [] st store)
        (at (conf context site 2 [] st' store')) st st' 1 0 0 refl (omega arith) (omega arith) refl
        (prefix_self st.events)
        (λ j. pointing_turn part.base part.size 1 [] st store j (has.2.0, has.2.1, tt))))
        (separator_reach 2 st' store' has.2.2)
    finally_reach false (Some part) x st store e has =
        let k = context.activation in
        reaches_after linear rate (at (conf context site 0 [] st store))
        (at (conf context site 2 [] st store)) (at (conf context site 3 [] st store)) st st st
        1 0 0 1 0 0 3 0 0 (omega arith) (omega arith)
        (stepped linear rate (conf context site 0 [] st store)
        (at (conf context site 2 [] st store)) st st 1 0 0 refl (omega arith) (omega arith) refl
        (prefix_self st.events)
        (λ j. test_local_turn linear rate context site 2 x 0 [] st store j (has.0, has.1, tt)
        ∙ pick_yes (nat_eq (local_of store k x) 0)
        (exec linear j (conf context site 2 [] st store))
        (exec linear j (conf context site (0 + 1) [] st store)) (ap (λ v. nat_eq v 0) e)))
        (separator_reach 2 st store has.2.2)
