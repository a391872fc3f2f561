-- The activations of a store, and the functions that run or wait on them.
use Rattle.std.proofs.Common.{◌≡◌, inl, inr, ℕ, zero, suc, ◌+◌, List, [], ◌∷◌, ◌++◌, length, refl, sym, ap, subst, ◌∙◌, arith}
use Rattle.std.proofs.lemmas.List.{length-set, length-drop}
use Rattle.std.specs.Prelude.{Bool, true, false, nat_eq, slice_get, slice_set, take, drop, if◌then◌else◌, Option, Some, None}
use Rattle.lowering_invariants.specs.Words.{RegionKind, FuncletKind, LinearProgram, BodyName, FunctionBody, FuncletBody, Frame, Handler, Item, Waits, Searches, Unwinds, Store, Configuration, last_temporaries, left_store, function_of, owner_of, IsFuncletOf, IsKindOf, IsFilterKind, Handles, IsHandler, AreWaiting, with_own, owners_of, WorksOn, AreWorking, IsActivationOf, AreActivations, HasActivations}
use Rattle.linear_code.specs.declared.program.RegionKind.TheVariants as kinds
use Rattle.lowering_invariants.proofs.Ready.{last_are}
use Rattle.lowering_invariants.proofs.Stacks.StackTargets.{same_it}

-- ---- lists

get_front : {X : Type 0} (xs ys : List X) (i : ℕ) (x : X) → slice_get xs i ≡ Some x
    → slice_get (xs ++ ys) i ≡ Some x
get_front [] ys i x e = absurd (cc)
get_front (y ∷ xs) ys zero x e = e
get_front (y ∷ xs) ys (suc i) x e = get_front xs ys i x e

get_last : {X : Type 0} (xs : List X) (x : X) → slice_get (xs ++ x ∷ []) (length xs) ≡ Some x
get_last [] x = refl
get_last (y ∷ xs) x = get_last xs x

last_is : (b : Bool) (x y : List ℕ) → (if b then Some x else None) ≡ Some y → x ≡ y
last_is true x y e = same_it x y e
last_is false x y e = absurd (cc)

pub last_count : (ts : List ℕ) (first count : ℕ) (vs : List ℕ)
    → last_temporaries ts first count ≡ Some vs → length vs ≡ count
last_count ts first count vs e =
    let n = last_are ts first count vs e in
    let d = length-drop first ts in
    ap length (sym (last_is (nat_eq (length ts) (first + count)) (drop first ts) vs e))
    ∙ omega arith

module _ (program : LinearProgram) where
  -- ---- activations

  abbrev Are : List ℕ → List (List ℕ) → Type 0
  Are ks acts = AreActivations program ks acts

  pub as_many : (ks : List ℕ) (acts : List (List ℕ)) → Are ks acts → length acts ≡ length ks
  as_many [] [] h = refl
  as_many [] (a ∷ acts) h = absurd h
  as_many (k ∷ ks) [] h = absurd h
  as_many (k ∷ ks) (a ∷ acts) h = ap suc (as_many ks acts h.1)

  pub one_more : (ks : List ℕ) (acts : List (List ℕ)) (k : ℕ) (vs : List ℕ)
      → IsActivationOf program k vs → Are ks acts → Are (ks ++ k ∷ []) (acts ++ vs ∷ [])
  one_more [] [] k vs a h = (a, tt)
  one_more [] (b ∷ acts) k vs a h = absurd h
  one_more (j ∷ ks) [] k vs a h = absurd h
  one_more (j ∷ ks) (b ∷ acts) k vs a h = (h.0, one_more ks acts k vs a h.1)

  one_less : (ks : List ℕ) (acts : List (List ℕ)) (k : ℕ) → Are (ks ++ k ∷ []) acts
      → Are ks (take (length ks) acts)
  one_less [] acts k h = tt
  one_less (j ∷ ks) [] k h = absurd h
  one_less (j ∷ ks) (a ∷ acts) k h = (h.0, one_less ks acts k h.1)

  abbrev locals_in : Option (List ℕ) → List ℕ
  locals_in o = elim o [ Some locals ↦ locals | None ↦ [] ]

  pub set_kept : (ks : List ℕ) (acts : List (List ℕ)) (i x v : ℕ) → Are ks acts
      → Are ks (slice_set acts i (slice_set (locals_in (slice_get acts i)) x v))
  set_kept [] [] i x v h = h
  set_kept [] (a ∷ acts) i x v h = absurd h
  set_kept (k ∷ ks) [] i x v h = absurd h
  set_kept (k ∷ ks) (a ∷ acts) zero x v h = (
    record
        { function = h.0.function; there = h.0.there; count = length-set a x v ∙ h.0.count },
    h.1,
  )
  set_kept (k ∷ ks) (a ∷ acts) (suc i) x v h = (h.0, set_kept ks acts i x v h.1)

  -- ---- what runs or waits, over a store

  abbrev pub Over : List Item → Store → Type 0
  Over items store = AreWorking program items × Are (owners_of items) store.activations

  abbrev pub Ok : Configuration → Type 0
  Ok c = HasActivations program c

  abbrev pub Items : List Item → Type 0
  Items items = AreWaiting program items

  -- where a body is left
  left_by : (name : BodyName) (f : Frame) (owners : List ℕ) (store : Store)
      → WorksOn program f name owners → Are (with_own name owners) store.activations
      → Are owners (left_store name f.activation store).activations
  left_by (FunctionBody k) f owners store w h = subst (λ n. Are owners (take n store.activations))
      (sym w) (one_less owners store.activations k h)
  left_by (FuncletBody k) f owners store w h = h

  pub left_over : (f : Frame) (below : List Item) (store : Store) → Over (Waits f ∷ below) store
      → Over below (left_store f.body f.activation store)
  left_over f below store o = (o.0.1, left_by f.body f (owners_of below) store o.0.0 o.1)

  -- the function of a funclet of a body works on that body's activation
  owned_by : (name : BodyName) (f : Frame) (owners : List ℕ) (k : ℕ) → WorksOn program f name owners
      → owner_of program name ≡ Some k → slice_get (with_own name owners) f.activation ≡ Some k
  owned_by (FunctionBody j) f owners k w e = ap (slice_get (owners ++ j ∷ [])) w ∙ get_last owners j
      ∙ e
  owned_by (FuncletBody j) f owners k w e = w.2 ∙ sym w.1 ∙ e

  pub owned : (f : Frame) (below : List Item) (kind : FuncletKind → Type 0) (k : ℕ)
      → AreWorking program (Waits f ∷ below) → IsFuncletOf program f.body kind k
      → (function : ℕ) × (owner_of program (FuncletBody k) ≡ Some function)
      × (slice_get (owners_of (Waits f ∷ below)) f.activation ≡ Some function)
  owned f below kind k w p = (
    p.funclet.function,
    ap function_of p.there,
    owned_by f.body f (owners_of below) p.funclet.function w.0 p.owner,
  )

  own_more : (name : BodyName) (owners : List ℕ) (i k : ℕ) → slice_get owners i ≡ Some k
      → slice_get (with_own name owners) i ≡ Some k
  own_more (FunctionBody j) owners i k e = get_front owners (j ∷ []) i k e
  own_more (FuncletBody j) owners i k e = e

  filter_of : (name : BodyName) (end : ℕ) (r : RegionKind) (filter : Option ℕ) (target k : ℕ)
      → filter ≡ Some k → IsKindOf program name end r → Handles program r filter target
      → IsFuncletOf program name IsFilterKind k
  filter_of name end (kinds.Finally j) filter target k e p h = absurd h
  filter_of name end (kinds.Filter j l) filter target k e p h = subst
      (IsFuncletOf program name IsFilterKind) (same_it j k (sym h.0 ∙ e)) p.0
  filter_of name end (kinds.Always l) filter target k e p h = absurd (differ (sym h.0 ∙ e))
    where
      differ : None ≡ Some k → ⊥
      differ e = cc

  -- a filter works on its handler's activation
  pub filter_owned : (h : Handler) (k : ℕ) (items : List Item) → h.filter ≡ Some k
      → IsHandler program h items → AreWorking program items
      → (function : ℕ) × (owner_of program (FuncletBody k) ≡ Some function)
      × (slice_get (owners_of items) h.activation ≡ Some function)
  filter_owned h k [] e p w = absurd p
  filter_owned h k (Waits f ∷ below) e (inl p) w =
      let q = owned f below IsFilterKind k w (filter_of f.body p.region.end p.region.kind h.filter
      h.target k e p.is_there.kind p.handles) in
      (q.0, q.1, ap (slice_get (owners_of (Waits f ∷ below))) p.activation ∙ q.2)
  filter_owned h k (Waits f ∷ below) e (inr p) w =
      let q = filter_owned h k below e p w.1 in
      (q.0, q.1, own_more f.body (owners_of below) h.activation q.0 q.2)
  filter_owned h k (Searches exception resumption asked ∷ below) e p w = filter_owned h k below
      e p w
  filter_owned h k (Unwinds rest target ∷ below) e p w = filter_owned h k below e p w
