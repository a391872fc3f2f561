-- Where handlers, regions and targets lead, what has been set where a body waits is enough.
use Rattle.std.proofs.Common.{◌≡◌, inl, inr, ℕ, ◌+◌, ◌<◌, List, [], ◌∷◌, length, filter, refl, sym, subst, arith}
use Rattle.std.specs.List.{AllByRecursion}
use Rattle.std.specs.Prelude.{Bool, true, false, cond, Option, Some, None}
use Rattle.lowering_locals.specs.Words.{Region, RegionKind, LinearProgram, LinearBody, BodyName, FunctionBody, FuncletBody, body_of, Frame, Handler, Target, Item, Waits, Searches, Unwinds, holds, regions_at, regions_left, handlers, regions_of, handlers_of, handlers_in, target_past, target_of, Marks, SeenNames, IsPart, Guards, IsSetMap, Marked, here, IsHandler, IsTarget, AreRegions, AreHandlers, AreKept, AreCovered, AreLeft}
use Rattle.linear_code.specs.declared.program.RegionKind.TheVariants as kinds
use Rattle.lowering_locals.proofs.Lemmas.{same_it, all_map, all_append}

-- what holds of those that pass a test
passed : {X : Type 0} (P : X → Type 0) (test : X → Bool) (xs : List X)
    → AllByRecursion (λ (x : X). test x ≡ true → P x) xs → AllByRecursion P (filter test xs)
passed {X = X} P test [] h = tt
passed {X = X} P test (x ∷ xs) h = one (test x) refl (filter test xs) (passed P test xs h.1)
  where
    one : (b : Bool) → test x ≡ b → (ys : List X) → AllByRecursion P ys
        → AllByRecursion P (cond b (x ∷ ys) ys)
    one true e ys k = (h.0 e, k)
    one false e ys k = k

module _ (program : LinearProgram) (sets : BodyName → ℕ → SeenNames)
    (recorded : IsSetMap program sets) where
  -- ---- regions

  regions_here : (f : Frame) → AreRegions program sets f (regions_at program f.body f.next)
  regions_here f = of (body_of program f.body) refl
    where
      of : (o : Option LinearBody) → body_of program f.body ≡ o
          → AreRegions program sets f (filter (holds f.next) (regions_of o))
      of None e = tt
      of (Some b) e = passed (λ (r : Region). Guards program sets f.body f.next r.kind)
          (holds f.next) b.regions ((recorded.bodies f.body b e).regions f.next)

  abbrev pub Left : Option (List Region) → List Item → Type 0
  Left None items = Unit {0}
  Left (Some rest) items = AreLeft program sets rest items

  pub left_are : (left : Option (List Region)) (f : Frame) (below : List Item)
      → Left left (Waits f ∷ below) → AreRegions program sets f
      (regions_left left (regions_at program f.body f.next))
  left_are None f below h = regions_here f
  left_are (Some rest) f below h = h

  -- ---- handlers

  handlers_are_at : (f : Frame) (rs : List Region) (below : List Item)
      → AreRegions program sets f rs → AreHandlers program sets
      (handlers_in rs f.activation (length below)) (Waits f ∷ below)
  handlers_are_at f [] below h = tt
  handlers_are_at f (r ∷ rs) below h =
      all_append (λ (g : Handler). IsHandler program sets g (Waits f ∷ below))
      (handlers_of r.kind f.activation (length below))
      (handlers_in rs f.activation (length below)) (of r.kind h.0)
      (handlers_are_at f rs below h.1)
    where
      of : (k : RegionKind) → Guards program sets f.body f.next k
          → AreHandlers program sets (handlers_of k f.activation (length below)) (Waits f ∷ below)
      of (kinds.Finally k) g = tt
      of (kinds.Filter k t) g = (
        inl (record {
          depth = refl;
          activation = refl;
          target = g.1;
          filter = λ j e. subst (λ n. IsPart (sets (FuncletBody n) 0) (here program sets f))
              (same_it k j e) g.0;
        }),
        tt,
      )
      of (kinds.Always t) g = (
        inl (record {
          depth = refl;
          activation = refl;
          target = g;
          filter = λ j e. absurd (cc);
        }),
        tt,
      )

  pub handlers_are : (items : List Item) (left : Option (List Region)) → Left left items
      → AreKept program sets items → AreHandlers program sets (handlers program items left) items
  handlers_are [] left l w = tt
  handlers_are (Waits f ∷ below) left l w =
      let rs = regions_left left (regions_at program f.body f.next) in
      all_append (λ (h : Handler). IsHandler program sets h (Waits f ∷ below))
      (handlers_in rs f.activation (length below)) (handlers program below None)
      (handlers_are_at f rs below (left_are left f below l))
      (all_map (λ (h : Handler). IsHandler program sets h below)
      (λ (h : Handler). IsHandler program sets h (Waits f ∷ below)) (handlers program below None)
      (λ h p. inr p) (handlers_are below None tt w))
  handlers_are (Searches exception resumption asked ∷ below) left l w = handlers_are below None
      tt w.1
  handlers_are (Unwinds rest target ∷ below) left l w = handlers_are below (Some rest) w.0 w.2

  -- a filter reads what has been set where its handler's body waits
  pub filter_marked : (marks : Marks) (h : Handler) (k : ℕ) (items : List Item) → h.filter ≡ Some k
      → IsHandler program sets h items → AreCovered program sets marks items
      → (x : ℕ) → sets (FuncletBody k) 0 x ≡ true → Marked marks h.activation x
  filter_marked marks h k [] e p w x s = absurd p
  filter_marked marks h k (Waits f ∷ below) e (inl p) w x s = subst (λ n. Marked marks n x)
      (sym p.activation) (w.0 x (p.filter k e x s))
  filter_marked marks h k (Waits f ∷ below) e (inr p) w x s = filter_marked marks h k below e p w.1
      x s
  filter_marked marks h k (Searches exception resumption asked ∷ below) e p w x s =
      filter_marked marks h k below e p w x s
  filter_marked marks h k (Unwinds rest target ∷ below) e p w x s = filter_marked marks h k below e
      p w x s

  -- ---- targets

  pub aimed : (h : Handler) (code held : ℕ) (items : List Item) → IsHandler program sets h items
      → IsTarget program sets (target_of h code held) items
  aimed h code held [] p = p
  aimed h code held (Waits f ∷ below) (inl p) = inl (record { depth = p.depth; label = p.target })
  aimed h code held (Waits f ∷ below) (inr p) = inr (aimed h code held below p)
  aimed h code held (Searches exception resumption asked ∷ below) p = aimed h code held below p
  aimed h code held (Unwinds rest target ∷ below) p = aimed h code held below p

  lower : (t : Target) (items : List Item) → IsTarget program sets t items → t.depth < length items
  lower t [] p = absurd p
  lower t (Waits f ∷ below) (inl p) = let e = p.depth in omega arith
  lower t (Waits f ∷ below) (inr p) = let r = lower t below p in omega arith
  lower t (Searches exception resumption asked ∷ below) p = let r = lower t below p in
      omega arith
  lower t (Unwinds rest target ∷ below) p = let r = lower t below p in omega arith

  pub reached : (t : Target) (f : Frame) (below : List Item)
      → IsTarget program sets t (Waits f ∷ below) → t.depth ≡ length below
      → IsPart (sets f.body t.label) (here program sets f)
  reached t f below (inl p) e = p.label
  reached t f below (inr p) e = let r = lower t below p in absurd (omega arith)

  pub further : (t : Target) (f : Frame) (below : List Item)
      → IsTarget program sets t (Waits f ∷ below) → (t.depth ≡ length below → ⊥)
      → IsTarget program sets t below
  further t f below (inl p) e = absurd (e p.depth)
  further t f below (inr p) e = p

  held_apart : (t : Target) (n : ℕ) (items : List Item) → IsTarget program sets t items
      → IsTarget program sets (record t { held = n }) items
  held_apart t n [] p = p
  held_apart t n (Waits f ∷ below) (inl p) = inl (record { depth = p.depth; label = p.label })
  held_apart t n (Waits f ∷ below) (inr p) = inr (held_apart t n below p)
  held_apart t n (Searches exception resumption asked ∷ below) p = held_apart t n below p
  held_apart t n (Unwinds rest target ∷ below) p = held_apart t n below p

  -- a target that has left another activation is where it was
  pub past_target : (name : BodyName) (t : Target) (items : List Item)
      → IsTarget program sets t items → IsTarget program sets (target_past name t) items
  past_target (FunctionBody f) t items p = held_apart t (t.held + 1) items p
  past_target (FuncletBody k) t items p = p
