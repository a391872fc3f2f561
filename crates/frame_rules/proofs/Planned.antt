-- The epilogues of plans lead out of the body, and back into it after them.
use Rattle.std.proofs.Common.{◌≡◌, ◌≢◌, ℕ, ◌+◌, Bool, true, false, not, ◌&&◌, ◌||◌, cond, eqb, List, [], ◌∷◌, Some, refl, sym, ap, ◌∙◌, arith, inl, inr}
use Rattle.std.proofs.lemmas.Bool.{cases_eq, false≢true, and_parts, and_from, or_left, or_right, or_cases, eq-eqb, ne_eqb, eqb-true, eqb-false, not-true, not_from_false}
use Rattle.frame_rules.specs.Words.{UnwindOperation, Save, is_nonvolatile, allocation, pushes, pushed, is_saved, may_save, is_allowed, are_allowed, has, saved_at, are_restored, Saved, FramePlan, IsPlan, saves_then, frame_then, allocation_then, operations_of}

-- ---- saves that can be loaded

pub record Loadable (f : ℕ) (xs : List UnwindOperation) (s : Saved) : Type 0 where
  pub at : saved_at s.register xs ≡ Some s.offset
  pub saved : is_saved s.register xs ≡ true
  pub kept : is_nonvolatile s.register ≡ true
  pub other : s.register ≢ 4
  pub frame : (eqb f 0 || not (eqb s.register f)) ≡ true

abbrev pub AllLoadable : ℕ → List UnwindOperation → List Saved → Type 0
AllLoadable f xs [] = Unit {0}
AllLoadable f xs (s ∷ ss) = Loadable f xs s × AllLoadable f xs ss

loadable_more : (f r n : ℕ) (xs : List UnwindOperation) (ss : List Saved) → is_saved r xs ≡ false
    → AllLoadable f xs ss → AllLoadable f (Save r n ∷ xs) ss
loadable_more f r n xs [] free h = tt
loadable_more f r n xs (s ∷ ss) free h =
    let ne : r ≢ s.register = λ e. false≢true
    (sym free ∙ (ap (λ k. is_saved k xs) e ∙ h.0.saved)) in (
      record {
        at = ap (λ b. cond b (Some n) (saved_at s.register xs)) (ne_eqb r s.register ne) ∙ h.0.at;
        saved = or_right (eqb r s.register) (is_saved s.register xs) h.0.saved;
        kept = h.0.kept;
        other = h.0.other;
        frame = h.0.frame;
      },
      loadable_more f r n xs ss free h.1,
    )

pub saved_later : (f : ℕ) (ss : List Saved) (xs : List UnwindOperation) → is_saved f xs ≡ true
    → is_saved f (saves_then ss xs) ≡ true
saved_later f [] xs h = h
saved_later f (s ∷ ss) xs h = or_right (eqb s.register f) (is_saved f (saves_then ss xs))
    (saved_later f ss xs h)

loadable : (f : ℕ) (ss : List Saved) (xs : List UnwindOperation) → (f ≢ 0 → is_saved f xs ≡ true)
    → are_allowed f (saves_then ss xs) ≡ true → AllLoadable f (saves_then ss xs) ss
loadable f [] xs set a = tt
loadable f (s ∷ ss) xs set a =
    let r = s.register in
    let more = saves_then ss xs in
    let p = and_parts (is_allowed f more (Save r s.offset)) (are_allowed f more) a in
    let may = and_parts (may_save r more) _ p.0 in
    let once = and_parts (is_nonvolatile r) (not (eqb r 4) && not (is_saved r more)) may.0 in
    let q = and_parts (not (eqb r 4)) (not (is_saved r more)) once.1 in
    let alone = not-true (is_saved r more) q.1 in (
      record {
        at = ap (λ b. cond b (Some s.offset) (saved_at r more)) (eq-eqb r r refl);
        saved = or_left (eqb r r) (is_saved r more) (eq-eqb r r refl);
        kept = once.0;
        other = eqb-false r 4 (not-true (eqb r 4) q.0);
        frame = elim (cases_eq f 0) [
          | inl z ↦ or_left (eqb f 0) (not (eqb r f)) (eq-eqb f 0 z)
          | inr ne ↦ or_right (eqb f 0) (not (eqb r f))
              (not_from_false (eqb r f) (ne_eqb r f
              (λ e. false≢true (sym alone ∙ (ap (λ k. is_saved k more) e
              ∙ saved_later f ss xs (set ne))))))
        ];
      },
      loadable_more f r s.offset more ss alone (loadable f ss xs set p.1),
    )

-- ---- the codes of a plan

pub frame_saved : (p : FramePlan) (b : Bool) (n : ℕ) (rs : List ℕ)
    → are_allowed p.frame (frame_then (not (eqb p.frame 0)) (allocation_then b n (pushed rs)))
    ≡ true → p.frame ≢ 0 → is_saved p.frame (frame_then (not (eqb p.frame 0))
    (allocation_then b n (pushed rs))) ≡ true
frame_saved p b n rs a ne =
    let xs = allocation_then b n (pushed rs) in
    let e = ne_eqb p.frame 0 ne in
    let a' = sym (ap (λ t. are_allowed p.frame (frame_then (not t) xs)) e) ∙ a in
    let q = and_parts (not (eqb p.frame 0) && is_saved p.frame xs) (are_allowed p.frame xs) a' in
    ap (λ t. is_saved p.frame (frame_then (not t) xs)) e
    ∙ (and_parts (not (eqb p.frame 0)) (is_saved p.frame xs) q.0).1

pub allowed_later : (f : ℕ) (ss : List Saved) (xs : List UnwindOperation)
    → are_allowed f (saves_then ss xs) ≡ true → are_allowed f xs ≡ true
allowed_later f [] xs a = a
allowed_later f (s ∷ ss) xs a = allowed_later f ss xs
    (and_parts (is_allowed f (saves_then ss xs) (Save s.register s.offset))
    (are_allowed f (saves_then ss xs)) a).1

pub all_loadable : (p : FramePlan) → IsPlan p → AllLoadable p.frame (operations_of p) p.saves
all_loadable p h =
    let xs = frame_then (not (eqb p.frame 0))
    (allocation_then (not (eqb p.size 0)) p.size (pushed p.pushes)) in
    loadable p.frame p.saves xs (frame_saved p (not (eqb p.size 0)) p.size p.pushes
    (allowed_later p.frame p.saves xs h.allowed)) h.allowed

pushed_allocation : (rs : List ℕ) → allocation (pushed rs) ≡ 0
pushed_allocation [] = refl
pushed_allocation (r ∷ rs) = let e = pushed_allocation rs in omega arith

pushed_pushes : (rs : List ℕ) → pushes (pushed rs) ≡ rs
pushed_pushes [] = refl
pushed_pushes (r ∷ rs) = ap (λ (xs : List ℕ). r ∷ xs) (pushed_pushes rs)

saves_allocation : (ss : List Saved) (xs : List UnwindOperation)
    → allocation (saves_then ss xs) ≡ allocation xs
saves_allocation [] xs = refl
saves_allocation (s ∷ ss) xs = let e = saves_allocation ss xs in omega arith

saves_pushes : (ss : List Saved) (xs : List UnwindOperation) → pushes (saves_then ss xs) ≡ pushes xs
saves_pushes [] xs = refl
saves_pushes (s ∷ ss) xs = saves_pushes ss xs

frame_allocation : (b : Bool) (xs : List UnwindOperation)
    → allocation (frame_then b xs) ≡ allocation xs
frame_allocation true xs = let e : 0 + allocation xs ≡ allocation xs = omega arith in e
frame_allocation false xs = refl

frame_pushes : (b : Bool) (xs : List UnwindOperation) → pushes (frame_then b xs) ≡ pushes xs
frame_pushes true xs = refl
frame_pushes false xs = refl

size_allocation : (n : ℕ) (b : Bool) (rs : List ℕ) → eqb n 0 ≡ b
    → allocation (allocation_then (not b) n (pushed rs)) ≡ n
size_allocation n true rs e = let z = eqb-true n 0 e in let q = pushed_allocation rs in omega arith
size_allocation n false rs e = let q = pushed_allocation rs in omega arith

size_pushes : (n : ℕ) (b : Bool) (rs : List ℕ) → pushes (allocation_then b n (pushed rs)) ≡ rs
size_pushes n true rs = pushed_pushes rs
size_pushes n false rs = pushed_pushes rs

pub allocation_plan : (p : FramePlan) → allocation (operations_of p) ≡ p.size
allocation_plan p = saves_allocation p.saves _ ∙ frame_allocation (not (eqb p.frame 0)) _
    ∙ size_allocation p.size (eqb p.size 0) p.pushes refl

pub pushes_plan : (p : FramePlan) → pushes (operations_of p) ≡ p.pushes
pushes_plan p = saves_pushes p.saves _ ∙ frame_pushes (not (eqb p.frame 0)) _
    ∙ size_pushes p.size (not (eqb p.size 0)) p.pushes

-- ---- the registers that have been loaded

abbrev pub loaded : List Saved → List ℕ → List ℕ
loaded [] rs = rs
loaded (s ∷ ss) rs = loaded ss (s.register ∷ rs)

still_loaded : (r : ℕ) (ss : List Saved) (rs : List ℕ) → has r rs ≡ true
    → has r (loaded ss rs) ≡ true
still_loaded r [] rs h = h
still_loaded r (s ∷ ss) rs h = still_loaded r ss (s.register ∷ rs)
    (or_right (eqb s.register r) (has r rs) h)

pushed_restored : (rs xs : List ℕ) → are_restored rs (pushed xs) ≡ true
pushed_restored rs [] = refl
pushed_restored rs (x ∷ xs) = pushed_restored rs xs

size_restored : (rs : List ℕ) (b : Bool) (n : ℕ) (xs : List ℕ)
    → are_restored rs (allocation_then b n (pushed xs)) ≡ true
size_restored rs true n xs = pushed_restored rs xs
size_restored rs false n xs = pushed_restored rs xs

frame_restored : (rs : List ℕ) (a b : Bool) (n : ℕ) (xs : List ℕ)
    → are_restored rs (frame_then a (allocation_then b n (pushed xs))) ≡ true
frame_restored rs true b n xs = size_restored rs b n xs
frame_restored rs false b n xs = size_restored rs b n xs

saves_restored : (ss more : List Saved) (rs : List ℕ) (xs : List UnwindOperation)
    → ((k : List ℕ) → are_restored k xs ≡ true)
    → ((r : ℕ) → has r (loaded ss rs) ≡ true → has r (loaded more rs) ≡ true)
    → are_restored (loaded more rs) (saves_then ss xs) ≡ true
saves_restored [] more rs xs h i = h (loaded more rs)
saves_restored (s ∷ ss) more rs xs h i = and_from (has s.register (loaded more rs))
    (are_restored (loaded more rs) (saves_then ss xs))
    (i s.register (still_loaded s.register ss (s.register ∷ rs)
    (or_left (eqb s.register s.register) (has s.register rs) (eq-eqb s.register s.register refl))))
    (saves_restored ss more rs xs h (λ r k. i r
    (wider r ss (s.register ∷ rs) rs (λ q w. or_right (eqb s.register q) (has q rs) w) k)))
  where
    wider : (r : ℕ) (ss : List Saved) (a b : List ℕ) → ((q : ℕ) → has q b ≡ true → has q a ≡ true)
        → has r (loaded ss b) ≡ true → has r (loaded ss a) ≡ true
    wider r [] a b w k = w r k
    wider r (t ∷ ss) a b w k = wider r ss (t.register ∷ a) (t.register ∷ b)
        (λ q z. elim (or_cases (eqb t.register q) (has q b) z) [
          | inl here ↦ or_left (eqb t.register q) (has q a) here
          | inr there ↦ or_right (eqb t.register q) (has q a) (w q there)
        ]) k

pub restored_plan : (p : FramePlan) (rs : List ℕ)
    → are_restored (loaded p.saves rs) (operations_of p) ≡ true
restored_plan p rs = saves_restored p.saves p.saves rs _
    (λ k. frame_restored k (not (eqb p.frame 0)) (not (eqb p.size 0)) p.size p.pushes) (λ r k. k)
