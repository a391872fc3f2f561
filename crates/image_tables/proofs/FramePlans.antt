-- The plans of routines' frames: they keep the rules, unwind infos tell of them, and layouts have
-- them.
use Rattle.std.proofs.Common.{◌≡◌, ℕ, ◌+◌, ◌^◌, ◌<◌, List, [], ◌∷◌, ◌++◌, length, Some, None, refl, sym, ap, subst, ◌∙◌, arith}
use Rattle.std.specs.Prelude.{slice_get}
use Rattle.std.specs.List.{flat_map}
use Rattle.image_tables.specs.Words.{Instr, UnwindOperation, Nothing, FetchedInstr, bytes, items, FramePlan, IsPlan, spelled_by, operations_of, spell, prologue_code, LinearProgram, FrameLayout, plan_of, info_of, chosen, size, sizes, distance, IsFrameNear, IsNear, Placed, placed, instructions_of, steps_of}
use Rattle.frame_layout.specs.Infos.{Describes}
use Rattle.frame_layout.specs.Layout.{IsFrame}
use Rattle.frame_layout.proofs.Planned.{frames_are_planned}
use Rattle.frame_layout.proofs.Sizes.{prologue_few}
use Rattle.frame_layout.proofs.Steps.{frame_registers}
use Rattle.frame_rules.specs.Plan.{epilogue, turned, unwind_of}
use Rattle.template_code.specs.Frames.{frame_plan, plan_of_layout}
use Rattle.template_code.proofs.Frames.{epilogue_unprobed}
use Rattle.image_tables.proofs.Layouts.{IsPlannedBy, plan_placed}
use Rattle.image_tables.proofs.Lemmas.{describes, near_signed}
use Rattle.image_tables.proofs.Rest.{spelled_both}

pub plan_near : (f : FrameLayout) (next to : ℕ) → IsFrame f → next < 2 ^ 31 → IsNear to
    → IsPlan (plan_of f (distance next to))
plan_near f next to h a b = frames_are_planned f (distance next to) h (near_signed next to a b)

-- its info tells of its prologue
pub described : (f : FrameLayout) (probe : ℕ)
    → Describes (info_of f Nothing) (unwind_of spell (plan_of f probe))
described f probe = describes f probe

-- which isn't empty
pub prologue_some : (f : FrameLayout) → IsFrameNear (Some f)
    → 0 < (info_of f Nothing).prologue_size
prologue_some f near =
    let few = (prologue_few f (frame_registers f near.0)).0 in omega arith

-- ---- the bytes of a prologue

-- the sizes of fetched instructions
pub bytes_sizes : (is : List Instr) → bytes (spelled_by spell is) ≡ sizes is
unfolding size
bytes_sizes [] = refl
bytes_sizes (i ∷ is) = ap (λ (n : ℕ). length (chosen i) + n) (bytes_sizes is)

pub spelled_steps : (p : FramePlan) (at : ℕ) (xs : List UnwindOperation)
    → spelled_by spell (flat_map (instructions_of p) xs) ≡ items (steps_of spell p at xs)
spelled_steps p at [] = refl
spelled_steps p at (x ∷ xs) = spelled_both (instructions_of p x) (flat_map (instructions_of p) xs)
    ∙ ap (λ (ys : List FetchedInstr). spelled_by spell (instructions_of p x) ++ ys)
    (spelled_steps p (at + bytes (spelled_by spell (instructions_of p x))) xs)

-- it has as many bytes as the info says, wherever it calls
pub prologue_sizes : (f : FrameLayout) (probe : ℕ)
    → sizes (prologue_code (plan_of f probe)) ≡ (info_of f Nothing).prologue_size
prologue_sizes f probe =
    let p = plan_of f probe in
    sym (bytes_sizes (prologue_code p))
    ∙ ap bytes (spelled_steps p 0 (turned [] (operations_of p)))
    ∙ sym (described f probe).prologue_size

-- ---- the layout of a routine has the plan of its frame

pub laid_plan : (p : LinearProgram) (index : ℕ) (x : Placed) (f : FrameLayout) (probe : ℕ)
    → slice_get (placed p) index ≡ Some x → x.routine.frame ≡ Some f
    → plan_of_layout x.routine.layout probe ≡ plan_of f probe
laid_plan p index x f probe e framed =
    subst (IsPlannedBy x.routine.layout) framed (plan_placed p index x e) probe

-- so its returns end in the epilogue of that plan
pub laid_epilogue : (p : LinearProgram) (index : ℕ) (x : Placed) (f : FrameLayout) (probe : ℕ)
    → slice_get (placed p) index ≡ Some x → x.routine.frame ≡ Some f
    → epilogue (plan_of_layout x.routine.layout 0) ≡ epilogue (plan_of f probe)
laid_epilogue p index x f probe e framed =
    ap epilogue (laid_plan p index x f 0 e framed) ∙ sym (epilogue_unprobed (plan_of f 0) probe)

-- a leaf function has no frame
pub leaf_plan : IsPlan (frame_plan 0 0)
leaf_plan = record { size = omega arith; distance = omega arith; probe = refl; allowed = refl }

pub leaf_laid : (p : LinearProgram) (index : ℕ) (x : Placed) → slice_get (placed p) index ≡ Some x
    → x.routine.frame ≡ None → plan_of_layout x.routine.layout 0 ≡ frame_plan 0 0
leaf_laid p index x e none =
    subst (IsPlannedBy x.routine.layout) none (plan_placed p index x e) 0
