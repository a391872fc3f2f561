-- How far the prologue of a plan lowers RSP.
use Rattle.std.proofs.Common.{◌≡◌, ℕ, ◌+◌, ◌*◌, Bool, true, false, not, eqb, List, [], ◌∷◌, length, refl, ◌∙◌, arith}
use Rattle.std.proofs.lemmas.Bool.{eqb-true}
use Rattle.frame_rules.specs.Words.{UnwindOperation, depth, pushed, Saved, saves_then, frame_then, allocation_then, FrameHasItsSize}

pushed_depth : (rs : List ℕ) → depth (pushed rs) ≡ 8 * length rs
pushed_depth [] = refl
pushed_depth (r ∷ rs) = let e = pushed_depth rs in omega arith

allocation_depth : (n : ℕ) (b : Bool) (rs : List ℕ) → eqb n 0 ≡ b
    → depth (allocation_then (not b) n (pushed rs)) ≡ 8 * length rs + n
allocation_depth n true rs e = let z = eqb-true n 0 e in let d = pushed_depth rs in omega arith
allocation_depth n false rs e = let d = pushed_depth rs in omega arith

frame_depth : (b : Bool) (xs : List UnwindOperation) → depth (frame_then b xs) ≡ depth xs
frame_depth true xs = let e : 0 + depth xs ≡ depth xs = omega arith in e
frame_depth false xs = refl

saves_depth : (ss : List Saved) (xs : List UnwindOperation) → depth (saves_then ss xs) ≡ depth xs
saves_depth [] xs = refl
saves_depth (s ∷ ss) xs = let e = saves_depth ss xs in omega arith

pub frame_has_its_size : FrameHasItsSize
frame_has_its_size p =
    let e = saves_depth p.saves _ ∙ frame_depth (not (eqb p.frame 0)) _
    ∙ allocation_depth p.size (eqb p.size 0) p.pushes refl in
    omega arith
