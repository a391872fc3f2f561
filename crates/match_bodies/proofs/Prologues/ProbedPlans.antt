-- The prologue of a layout's plan calls `__chkstk` after its pushes.
use Rattle.std.proofs.Common.{◌≡◌, ℕ, zero, suc, ◌+◌, ◌==◌, Bool, true, false, not, List, [], ◌∷◌, length, refl, ap, subst, arith}
use Rattle.std.specs.Prelude.{if◌then◌else◌}
use Rattle.match_bodies.specs.Words.{size, sizes, IsNear, Layout}
use Rattle.eh_tables.specs.declared.code.UnwindOperation.{UnwindOperation}
use Rattle.eh_tables.specs.declared.code.UnwindOperation.TheVariants.{Allocate, SetFrame, Save}
use Rattle.x64_encode.specs.Chosen.{opcode_register}
use Rattle.x64_instr.specs.Registers.{register}
use Rattle.x64_instr.specs.declared.instruction.Instr.TheVariants as instrs
use Rattle.template_code.specs.Frames.{plan_of_layout, probe_end, probing, pushed_register, pushes_of, saves_of}
use Rattle.template_code.specs.Jumps.{distance}
use Rattle.frame_rules.specs.Codes.{pushed}
use Rattle.frame_rules.specs.Plan.{FramePlan, Saved, allocation_then, frame_then, instructions_of, operations_of, saves_then, turned}
use Rattle.x64_templates.specs.Prologues.{AreProbed, IsProbed}

-- ---- codes that call nothing

abbrev AreUnprobed : List UnwindOperation → Type 0
AreUnprobed [] = Unit {0}
AreUnprobed (x ∷ xs) =
    ((p : FramePlan) (check at : ℕ) → IsProbed p check at x) × AreUnprobed xs

unprobed_anywhere : (p : FramePlan) (check at : ℕ) (xs : List UnwindOperation) → AreUnprobed xs
    → AreProbed p check at xs
unprobed_anywhere p check at [] h = tt
unprobed_anywhere p check at (x ∷ xs) h =
    (h.0 p check at, unprobed_anywhere p check (at + sizes (instructions_of p x)) xs h.1)

-- how many bytes the instructions of codes take
abbrev codes_bytes : FramePlan → List UnwindOperation → ℕ
codes_bytes p [] = 0
codes_bytes p (x ∷ xs) = codes_bytes p xs + sizes (instructions_of p x)

-- they come before others
turned_probed : (p : FramePlan) (check at : ℕ) (done xs : List UnwindOperation) → AreUnprobed xs
    → AreProbed p check (at + codes_bytes p xs) done → AreProbed p check at (turned done xs)
turned_probed p check at done [] u h =
    let e : at + 0 ≡ at = omega arith in subst (λ a. AreProbed p check a done) e h
turned_probed p check at done (x ∷ xs) u h =
    let before = codes_bytes p xs in
    let own = sizes (instructions_of p x) in
    let e : at + (before + own) ≡ at + before + own = omega arith in
    turned_probed p check at (x ∷ done) xs u.1
    (u.0 p check (at + before), subst (λ a. AreProbed p check a done) e h)

-- ---- pushes

push_by : (a b : Bool) → size (instrs.Push (register (if a then 3 else (if b then 6 else 7)))) ≡ 1
unfolding size opcode_register
push_by true b = refl
push_by false true = refl
push_by false false = refl

pushes_bytes : (p : FramePlan) (n : ℕ) (framed : Bool)
    → codes_bytes p (pushed (pushes_of n framed)) ≡ length (pushes_of n framed)
unfolding size opcode_register
pushes_bytes p zero true = refl
pushes_bytes p zero false = refl
pushes_bytes p (suc n) framed =
    let r = pushes_bytes p n framed in
    let own : size (instrs.Push (register (pushed_register n))) ≡ 1
    = push_by (n == 0) (n == 1) in
    omega arith

pushed_unprobed : (rs : List ℕ) → AreUnprobed (pushed rs)
pushed_unprobed [] = tt
pushed_unprobed (r ∷ rs) = ((λ p check at. tt), pushed_unprobed rs)

-- ---- all codes of a plan, from the last one on

module _ (p : FramePlan) (check at n : ℕ) (rs : List ℕ)
    (large : IsProbed p check (at + codes_bytes p (pushed rs)) (Allocate n)) where
  allocation_probed : (some : Bool) (done : List UnwindOperation) → AreUnprobed done
      → AreProbed p check at (turned done (allocation_then some n (pushed rs)))
  allocation_probed true done u =
      let end = at + codes_bytes p (pushed rs) in
      turned_probed p check at (Allocate n ∷ done) (pushed rs) (pushed_unprobed rs)
      (large, unprobed_anywhere p check (end + sizes (instructions_of p (Allocate n))) done u)
  allocation_probed false done u =
      turned_probed p check at done (pushed rs) (pushed_unprobed rs)
      (unprobed_anywhere p check (at + codes_bytes p (pushed rs)) done u)

  frame_probed : (framed some : Bool) (done : List UnwindOperation) → AreUnprobed done
      → AreProbed p check at (turned done
      (frame_then framed (allocation_then some n (pushed rs))))
  frame_probed true some done u = allocation_probed some (SetFrame ∷ done) ((λ p check at. tt), u)
  frame_probed false some done u = allocation_probed some done u

  saves_probed : (ss : List Saved) (framed some : Bool) (done : List UnwindOperation)
      → AreUnprobed done → AreProbed p check at (turned done
      (saves_then ss (frame_then framed (allocation_then some n (pushed rs)))))
  saves_probed [] framed some done u = frame_probed framed some done u
  saves_probed (s ∷ ss) framed some done u =
      saves_probed ss framed some (Save s.register s.offset ∷ done) ((λ p check at. tt), u)

-- an allocation of more than a page calls it
pub plan_probed : (y : Layout) (begin check : ℕ)
    → IsNear (begin + probe_end (plan_of_layout y 0)) check
    → AreProbed (probing (plan_of_layout y) begin check) check begin
    (turned [] (operations_of (probing (plan_of_layout y) begin check)))
plan_probed y begin check near =
    let p = probing (plan_of_layout y) begin check in
    let bytes = pushes_bytes p y.pushes y.framed in
    let e : begin + probe_end (plan_of_layout y 0)
    ≡ begin + codes_bytes p (pushed (pushes_of y.pushes y.framed)) + 10 = omega arith in
    saves_probed p check begin y.size (pushes_of y.pushes y.framed)
    (λ large. (ap (λ a. distance a check) e, subst (λ a. IsNear a check) e near))
    (saves_of y.slots y.saves) (not (p.frame == 0)) (not (y.size == 0)) [] tt
