-- The regions, the handlers and the targets of what waits.
use Rattle.std.proofs.Common.{◌≡◌, inl, inr, ℕ, zero, suc, ◌+◌, ◌<◌, List, [], ◌∷◌, length, filter, refl, sym, ap, subst, arith}
use Rattle.std.proofs.lemmas.List.{length-take-le}
use Rattle.std.specs.List.{AllByRecursion}
use Rattle.std.specs.Prelude.{Bool, true, false, cond, slice_get, take, Option, Some, None}
use Rattle.lowering_invariants.specs.Words.{Region, RegionKind, LinearProgram, LinearBody, BodyName, FunctionBody, FuncletBody, body_of, Frame, Handler, Target, Item, Waits, Searches, Unwinds, last_temporaries, holds, regions_at, regions_left, handlers, regions_of, handlers_of, handlers_in, target_past, target_of, IsLanding, IsKindOf, IsRegionOf, AreBodies, Handles, IsHandler, LandsAt, IsTarget, AreHandlers, AreWaiting, AreLeft}
use Rattle.linear_code.specs.declared.program.RegionKind.TheVariants as kinds
use Rattle.lowering_invariants.proofs.Lemmas.{all_append}
use Rattle.lowering_invariants.proofs.Ready.{last_are}

-- ---- lists

all_filter : {X : Type 0} (P : X → Type 0) (test : X → Bool) (xs : List X) → AllByRecursion P xs
    → AllByRecursion P (filter test xs)
all_filter {X = X} P test [] h = tt
all_filter {X = X} P test (x ∷ xs) h = one (test x) (filter test xs) (all_filter P test xs h.1)
  where
    one : (b : Bool) (ys : List X) → AllByRecursion P ys → AllByRecursion P (cond b (x ∷ ys) ys)
    one true ys k = (h.0, k)
    one false ys k = k

pub all_map : {X : Type 0} (P Q : X → Type 0) (xs : List X) → ((x : X) → P x → Q x)
    → AllByRecursion P xs → AllByRecursion Q xs
all_map P Q [] f h = tt
all_map P Q (x ∷ xs) f h = (f x h.0, all_map P Q xs f h.1)

pub same_it : {X : Type 0} (x y : X) → Some x ≡ Some y → x ≡ y
same_it x y e = ap (λ o. elim o [ None ↦ x | Some z ↦ z ]) e

pub all_at : {X : Type 0} (P : X → Type 0) (xs : List X) (i : ℕ) (x : X) → AllByRecursion P xs
    → slice_get xs i ≡ Some x → P x
all_at P [] i x h e = absurd (cc)
all_at P (y ∷ xs) zero x h e = subst P (same_it y x e) h.0
all_at P (y ∷ xs) (suc i) x h e = all_at P xs i x h.1 e

-- the arguments of a call are taken away
pub taken : (first count : ℕ) (ts vs : List ℕ) → last_temporaries ts first count ≡ Some vs
    → length (take first ts) ≡ first
taken first count ts vs e = let n = last_are ts first count vs e in
    length-take-le first ts (omega arith)

module _ (program : LinearProgram) (bodies : AreBodies program) where
  abbrev Items : List Item → Type 0
  Items items = AreWaiting program items

  abbrev pub Regions : BodyName → List Region → Type 0
  Regions name rs = AllByRecursion (IsRegionOf program name) rs

  -- ---- regions

  pub regions_are : (name : BodyName) (label : ℕ) → Regions name (regions_at program name label)
  regions_are name label = of (body_of program name) refl
    where
      of : (o : Option LinearBody) → body_of program name ≡ o
          → Regions name (filter (holds label) (regions_of o))
      of None e = tt
      of (Some b) e = all_filter (IsRegionOf program name) (holds label) b.regions
          (bodies name b e).regions

  abbrev pub Left : Option (List Region) → List Item → Type 0
  Left None items = Unit {0}
  Left (Some rest) items = AreLeft program rest items

  pub left_are : (left : Option (List Region)) (f : Frame) (below : List Item)
      → Left left (Waits f ∷ below) → Regions f.body
      (regions_left left (regions_at program f.body f.next))
  left_are None f below h = regions_are f.body f.next
  left_are (Some rest) f below h = h

  -- ---- handlers

  pub handlers_are_at : (f : Frame) (rs : List Region) (below : List Item) → Regions f.body rs
      → AreHandlers program (handlers_in rs f.activation (length below)) (Waits f ∷ below)
  handlers_are_at f [] below h = tt
  handlers_are_at f (r ∷ rs) below h =
      all_append (λ h. IsHandler program h (Waits f ∷ below))
      (handlers_of r.kind f.activation (length below))
      (handlers_in rs f.activation (length below)) (of r.kind refl)
      (handlers_are_at f rs below h.1)
    where
      of : (k : RegionKind) → r.kind ≡ k → AreHandlers program
          (handlers_of k f.activation (length below)) (Waits f ∷ below)
      of (kinds.Finally k) e = tt
      of (kinds.Filter k t) e = (
        inl (record {
          depth = refl;
          activation = refl;
          region = r;
          is_there = h.0;
          handles = subst (λ k'. Handles program k' (Some k) t) (sym e) (refl, refl);
        }),
        tt,
      )
      of (kinds.Always t) e = (
        inl (record {
          depth = refl;
          activation = refl;
          region = r;
          is_there = h.0;
          handles = subst (λ k'. Handles program k' None t) (sym e) (refl, refl);
        }),
        tt,
      )

  pub handlers_are : (items : List Item) (left : Option (List Region)) → Left left items
      → Items items → AreHandlers program (handlers program items left) items
  handlers_are [] left l w = tt
  handlers_are (Waits f ∷ below) left l w =
      let rs = regions_left left (regions_at program f.body f.next) in
      all_append (λ h. IsHandler program h (Waits f ∷ below))
      (handlers_in rs f.activation (length below)) (handlers program below None)
      (handlers_are_at f rs below (left_are left f below l))
      (all_map (λ h. IsHandler program h below) (λ h. IsHandler program h (Waits f ∷ below))
      (handlers program below None) (λ h p. inr p) (handlers_are below None tt w.2))
  handlers_are (Searches exception resumption asked ∷ below) left l w =
      handlers_are below None tt w.2
  handlers_are (Unwinds rest target ∷ below) left l w = handlers_are below (Some rest) w.0 w.2

  -- ---- targets

  pub landing_of : (name : BodyName) (end : ℕ) (k : RegionKind) (filter : Option ℕ) (t : ℕ)
      → IsKindOf program name end k → Handles program k filter t → IsLanding program name t
  landing_of name end (kinds.Finally j) filter t p h = absurd h
  landing_of name end (kinds.Filter j l) filter t p h = subst (IsLanding program name) (sym h.1) p.1
  landing_of name end (kinds.Always l) filter t p h = subst (IsLanding program name) (sym h.1) p.0

  pub aimed : (h : Handler) (code held : ℕ) (items : List Item) → IsHandler program h items
      → IsTarget program (target_of h code held) items
  aimed h code held [] p = p
  aimed h code held (Waits f ∷ below) (inl p) = inl
      (record {
        depth = p.depth;
        lands = landing_of f.body p.region.end p.region.kind h.filter
            h.target p.is_there.kind p.handles;
      })
  aimed h code held (Waits f ∷ below) (inr p) = inr (aimed h code held below p)
  aimed h code held (Searches exception resumption asked ∷ below) p = aimed h code held below p
  aimed h code held (Unwinds rest target ∷ below) p = aimed h code held below p

  pub low : (t : Target) (items : List Item) → IsTarget program t items → t.depth < length items
  low t [] p = absurd p
  low t (Waits f ∷ below) (inl p) = let e = p.depth in omega arith
  low t (Waits f ∷ below) (inr p) = let r = low t below p in omega arith
  low t (Searches exception resumption asked ∷ below) p = let r = low t below p in omega arith
  low t (Unwinds rest target ∷ below) p = let r = low t below p in omega arith

  pub here : (t : Target) (f : Frame) (below : List Item) → IsTarget program t (Waits f ∷ below)
      → t.depth ≡ length below → LandsAt program f t.code t.label
  here t f below (inl p) e = p.lands
  here t f below (inr p) e = let r = low t below p in absurd (omega arith)

  pub further : (t : Target) (f : Frame) (below : List Item) → IsTarget program t (Waits f ∷ below)
      → (t.depth ≡ length below → ⊥) → IsTarget program t below
  further t f below (inl p) e = absurd (e p.depth)
  further t f below (inr p) e = p

  -- a target that has left another activation is where it was
  held_apart : (t : Target) (n : ℕ) (items : List Item) → IsTarget program t items
      → IsTarget program (record t { held = n }) items
  held_apart t n [] p = p
  held_apart t n (Waits f ∷ below) (inl p) = inl (record { depth = p.depth; lands = p.lands })
  held_apart t n (Waits f ∷ below) (inr p) = inr (held_apart t n below p)
  held_apart t n (Searches exception resumption asked ∷ below) p = held_apart t n below p
  held_apart t n (Unwinds rest target ∷ below) p = held_apart t n below p

  pub past_target : (name : BodyName) (t : Target) (items : List Item) → IsTarget program t items
      → IsTarget program (target_past name t) items
  past_target (FunctionBody f) t items p = held_apart t (t.held + 1) items p
  past_target (FuncletBody k) t items p = p
