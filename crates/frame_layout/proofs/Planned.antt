-- The plans of frames keep the rules.
use Rattle.std.proofs.Common.{◌≡◌, ℕ, zero, suc, ◌+◌, ◌*◌, ◌^◌, ◌<◌, ◌≤◌, Bool, true, false, not, ◌&&◌, ◌||◌, leb, eqb, List, [], ◌∷◌, length, refl, ap, ◌∙◌, arith}
use Rattle.std.proofs.lemmas.Bool.{and_from, or_right, le-leb, ne_eqb}
use Rattle.seh_num.specs.declared.width.Width.TheVariants.{W32, W64}
use Rattle.x64_encode.specs.Chosen.{is_signed}
use Rattle.eh_tables.specs.declared.code.UnwindOperation.{UnwindOperation}
use Rattle.eh_tables.specs.declared.code.UnwindOperation.TheVariants.{Allocate, SetFrame, Save}
use Rattle.frame_rules.specs.Codes.{pushed, depth, allocation, may_save, are_apart, is_allowed, are_allowed}
use Rattle.frame_rules.specs.Plan.{IsPlan, Saved, saves_then, frame_then, allocation_then, operations_of}
use Rattle.frame_rules.proofs.Sizes.{frame_has_its_size}
use Rattle.template_code.specs.Frames.{probe_end}
use Rattle.frame_layout.specs.Layout.{frame_pushes, IsFrame}
use Rattle.frame_layout.specs.Plans.{pushes_of, saves_of, frame_register_if, frame_distance_if, plan_of}
use Rattle.frame_layout.specs.declared.frame.FrameLayout.{FrameLayout}
use Rattle.frame_layout.proofs.Counts.{by_pushes}

-- ---- pushes, the fixed allocation and the frame register

abbrev pub base : ℕ → Bool → ℕ → List UnwindOperation
base k framed size = frame_then framed (Allocate size ∷ pushed (pushes_of k framed))

base_allowed : (size k : ℕ) (framed : Bool) → k ≤ 3
    → are_allowed (frame_register_if framed) (base k framed size) ≡ true
base_allowed size = by_pushes (λ k framed. are_allowed (frame_register_if framed)
    (base k framed size) ≡ true) refl refl refl refl refl refl refl refl

base_allocates : (size k : ℕ) (framed : Bool) → k ≤ 3 → allocation (base k framed size) ≡ size
base_allocates size = by_pushes (λ k framed. allocation (base k framed size) ≡ size)
    (omega arith) (omega arith) (omega arith) (omega arith) (omega arith) (omega arith)
    (omega arith) (omega arith)

base_apart : (size at k : ℕ) (framed : Bool) → k ≤ 3 → are_apart at (base k framed size) ≡ true
base_apart size at = by_pushes (λ k framed. are_apart at (base k framed size) ≡ true)
    refl refl refl refl refl refl refl refl

-- ---- saves by mov

save_allowed : (f r n : ℕ) (ops : List UnwindOperation) → may_save r ops ≡ true
    → n + 8 ≤ allocation ops → are_apart n ops ≡ true → are_allowed f ops ≡ true
    → are_allowed f (Save r n ∷ ops) ≡ true
save_allowed f r n ops may le apart rest =
    and_from (is_allowed f ops (Save r n)) (are_allowed f ops)
    (and_from (may_save r ops) (leb (n + 8) (allocation ops) && are_apart n ops) may
    (and_from (leb (n + 8) (allocation ops)) (are_apart n ops) (le-leb (n + 8) (allocation ops) le)
    apart)) rest

apart_above : (n r k : ℕ) (ops : List UnwindOperation) → k + 8 ≤ n → are_apart n ops ≡ true
    → are_apart n (Save r k ∷ ops) ≡ true
apart_above n r k ops le h =
    and_from (leb (n + 8) k || leb (k + 8) n) (are_apart n ops)
    (or_right (leb (n + 8) k) (leb (k + 8) n) (le-leb (k + 8) n le)) h

saves_allocate : (ss : List Saved) (ops : List UnwindOperation)
    → allocation (saves_then ss ops) ≡ allocation ops
saves_allocate [] ops = refl
saves_allocate (s ∷ ss) ops = let e = saves_allocate ss ops in omega arith

module _ (k : ℕ) (framed : Bool) (size at : ℕ) (few : k ≤ 3) where
  -- with so many saves
  abbrev saving : ℕ → List UnwindOperation
  saving n = saves_then (saves_of at n) (base k framed size)

  apart : (n m : ℕ) → at + 8 * n ≤ m → are_apart m (saving n) ≡ true
  apart zero m le = base_apart size m k framed few
  apart (suc n) m le = apart_above m (12 + n) (at + 8 * n) (saving n) (omega arith)
      (apart n m (omega arith))

  may : (n : ℕ) → n < 4 → may_save (12 + n) (saving n) ≡ true
  may zero lt = by_pushes (λ k framed. may_save 12 (base k framed size) ≡ true)
      refl refl refl refl refl refl refl refl k framed few
  may (suc zero) lt = by_pushes (λ k framed. may_save 13
      (saves_then (saves_of at 1) (base k framed size)) ≡ true)
      refl refl refl refl refl refl refl refl k framed few
  may (suc (suc zero)) lt = by_pushes (λ k framed. may_save 14
      (saves_then (saves_of at 2) (base k framed size)) ≡ true)
      refl refl refl refl refl refl refl refl k framed few
  may (suc (suc (suc zero))) lt = by_pushes (λ k framed. may_save 15
      (saves_then (saves_of at 3) (base k framed size)) ≡ true)
      refl refl refl refl refl refl refl refl k framed few
  may (suc (suc (suc (suc n)))) lt = absurd (omega arith)

  saving_allowed : (n : ℕ) → n ≤ 4 → at + 8 * n ≤ size
      → are_allowed (frame_register_if framed) (saving n) ≡ true
  saving_allowed zero le fits = base_allowed size k framed few
  saving_allowed (suc n) le fits =
      let a = saves_allocate (saves_of at n) (base k framed size) in
      let b = base_allocates size k framed few in
      save_allowed (frame_register_if framed) (12 + n) (at + 8 * n) (saving n)
      (may n (omega arith)) (omega arith) (apart n (at + 8 * n) (omega arith))
      (saving_allowed n (omega arith) (omega arith))

-- ---- plans

-- the operations of a frame, which has a fixed allocation
pub operations_are : (f : FrameLayout) (probe : ℕ) → 0 < f.size → operations_of (plan_of f probe)
    ≡ saves_then (saves_of f.slots f.saves) (base f.pushes f.framed f.size)
operations_are f probe some = by f.framed
  where
    none : eqb f.size 0 ≡ false
    none = ne_eqb f.size 0 (λ z. (let e : f.size ≡ 0 = z in absurd (omega arith)))

    by : (b : Bool) → saves_then (saves_of f.slots f.saves)
        (frame_then (not (eqb (frame_register_if b) 0)) (allocation_then (not (eqb f.size 0)) f.size
        (pushed (pushes_of f.pushes b))))
        ≡ saves_then (saves_of f.slots f.saves) (base f.pushes b f.size)
    by true = ap (λ z. saves_then (saves_of f.slots f.saves) (SetFrame
        ∷ allocation_then (not z) f.size (pushed (pushes_of f.pushes true)))) none
    by false = ap (λ z. saves_then (saves_of f.slots f.saves)
        (allocation_then (not z) f.size (pushed (pushes_of f.pushes false)))) none

-- the number of a frame register and its distance are in one byte
pub frame_small : (b : Bool) → frame_register_if b + frame_distance_if b < 2 ^ 8
frame_small true = omega arith
frame_small false = omega arith

-- they keep the rules
pub frames_are_planned : (f : FrameLayout) (probe : ℕ) → IsFrame f
    → is_signed W32 W64 probe ≡ true → IsPlan (plan_of f probe)
frames_are_planned f probe h near =
    let small = h.small in
    let depth = h.depth in
    let distance = frame_small f.framed in
    record {
      size = omega arith;
      distance = omega arith;
      probe = near;
      allowed = ap (are_allowed (frame_register_if f.framed)) (operations_are f probe h.some)
          ∙ saving_allowed f.pushes f.framed f.size f.slots h.pushes f.saves h.saves h.saved;
    }

-- so many pushes, and that of RBP
pub pushes_length : (k : ℕ) (framed : Bool) → k ≤ 3
    → length (pushes_of k framed) ≡ k + frame_pushes framed
pushes_length = by_pushes (λ k framed. length (pushes_of k framed) ≡ k + frame_pushes framed)
    refl refl refl refl refl refl refl refl

-- so few bytes after the first one the call of `__chkstk` ends
pub probe_end_few : (f : FrameLayout) → f.pushes ≤ 3 → probe_end (plan_of f 0) ≤ 14
probe_end_few f le =
    let few = by_pushes (λ k framed. length (pushes_of k framed) ≤ 4) (omega arith) (omega arith)
    (omega arith) (omega arith) (omega arith) (omega arith) (omega arith) (omega arith)
    f.pushes f.framed le in
    omega arith

-- the return address is as far above RSP as it says
pub depth_is : (f : FrameLayout) (probe : ℕ) → IsFrame f
    → depth (operations_of (plan_of f probe)) ≡ f.depth
depth_is f probe h =
    let e = frame_has_its_size (plan_of f probe) in
    let l = pushes_length f.pushes f.framed h.pushes in
    let d = h.depth in
    omega arith
