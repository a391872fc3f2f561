-- Frames are as they are to be.
use Rattle.std.proofs.Common.{◌≡◌, ℕ, ◌+◌, ◌*◌, ◌%◌, ◌<◌, ◌≤◌, Bool, true, false, ◌&&◌, leb, refl, sym, ap, subst, ◌∙◌, arith}
use Rattle.std.specs.Prelude.{max}
use Rattle.std.proofs.lemmas.Bool.{and_parts, leb-false}
use Rattle.frame_rules.specs.Plan.{frame_size}
use Rattle.frame_rules.proofs.Sizes.{frame_has_its_size}
use Rattle.template_code.specs.declared.layout.TheConstants.{FRAME_BY_WEIGHT}
use Rattle.frame_layout.specs.Layout.{pushed_count, words, padded, FitsFrame, is_framed, size_if, frame_if, frame_of, IsFrame, IsLaidOut, IsFramedBySize}
use Rattle.frame_layout.specs.Plans.{plan_of}
use Rattle.frame_layout.specs.declared.frame.Facts.{Facts}
use Rattle.frame_layout.specs.declared.frame.FrameLayout.{FrameLayout}
use Rattle.frame_layout.proofs.Planned.{depth_is}
use Rattle.frame_layout.proofs.Steps.{HasRegisters}

-- the fixed allocation has room for the slots and what is saved
size_enough : (f : Facts) (framed : Bool) → 8 * words f ≤ size_if f framed
size_enough f true = let m : words f ≤ max (words f) 32 = omega arith in omega arith
size_enough f false = omega arith

size_few : (f : Facts) (framed : Bool) → FitsFrame f
    → size_if f framed + 8 * (pushed_count f + 1) + 8 ≤ FRAME_BY_WEIGHT * f.weight
size_few f true h = let w = h.words in omega arith
size_few f false h = let w = h.words in omega arith

small_if : (f : Facts) (framed : Bool) → FitsFrame f
    → (frame_if f framed).depth + 8 ≤ FRAME_BY_WEIGHT * f.weight
small_if f framed h = by framed (size_few f framed h)
  where
    by : (b : Bool) → size_if f b + 8 * (pushed_count f + 1) + 8 ≤ FRAME_BY_WEIGHT * f.weight
        → (frame_if f b).depth + 8 ≤ FRAME_BY_WEIGHT * f.weight
    by true few = omega arith
    by false few = omega arith

parts_if : (f : Facts) (framed : Bool) → FitsFrame f → IsFrame (frame_if f framed)
parts_if f framed h =
    let seven = h.registers in
    let enough = size_enough f framed in
    let few = size_few f framed h in
    record {
      pushes = omega arith;
      saves = omega arith;
      some = omega arith;
      saved = omega arith;
      depth = refl;
      small = let s = small_if f framed h in let light = h.weight in omega arith;
    }

aligned_if : (f : Facts) (framed : Bool) → ((frame_if f framed).depth + 8) % 16 ≡ 0
aligned_if f true = omega arith
aligned_if f false = omega arith

-- whatever their sizes
pub registers_few : (f : Facts) → f.registers ≤ 7 → HasRegisters (frame_of f)
registers_few f le = let enough = size_enough f (is_framed f) in record {
  pushes = omega arith;
  saves = omega arith;
  some = omega arith;
}

pub parts : (f : Facts) → FitsFrame f → IsFrame (frame_of f)
parts f h = parts_if f (is_framed f) h

pub laid_out : (f : Facts) → IsLaidOut f (frame_of f)
laid_out f = record {
  passed = omega arith;
  kept = omega arith;
  temporaries = omega arith;
  locals = omega arith;
  registers = omega arith;
  aligned = aligned_if f (is_framed f);
}

pub framed_by_size : (f : Facts) → IsFramedBySize f (frame_of f)
framed_by_size f = record {
  allowed = λ e. (and_parts f.frame_register (leb 256 (padded (words f) (pushed_count f))) e).0;
  large = λ e. subst (λ b. 256 ≤ size_if f b) (sym e)
      (let m : 32 ≤ max (words f) 32 = omega arith in omega arith);
  small = λ may e. subst (λ b. size_if f b < 256) (sym e)
      (leb-false 256 (padded (words f) (pushed_count f))
      (sym (ap (λ b. b && leb 256 (padded (words f) (pushed_count f))) may) ∙ e));
}

-- all of it is in the largest frame of its weight
pub small : (f : Facts) → FitsFrame f → (frame_of f).depth + 8 ≤ FRAME_BY_WEIGHT * f.weight
small f h = small_if f (is_framed f) h

-- its bytes with the pushes and the return address
pub size_is : (f : FrameLayout) (probe : ℕ) → IsFrame f
    → frame_size (plan_of f probe) ≡ f.depth + 8
size_is f probe h =
    let e = frame_has_its_size (plan_of f probe) in
    let d = depth_is f probe h in
    omega arith
