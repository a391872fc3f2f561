-- A routine's layout has the depth and the plan of its frame, and slots up to where its frame has
-- them.
use Rattle.std.proofs.Common.{◌≡◌, ℕ, suc, ◌==◌, Bool, true, false, not, List, [], ◌∷◌, map, Option, Some, None, refl}
use Rattle.std.specs.Prelude.{slice_get, ◌&&◌}
use Rattle.std.specs.List.{AllByRecursion}
use Rattle.image_tables.specs.Words.{LinearFunction, LinearFunclet, LinearProgram, FrameLayout, plan_of, Layout, RoutineView, is_leaf, leaf_if, functions_from, funclet, routines, Placed, site_of, placed, first_cursor}
use Rattle.template_code.specs.Frames.{frame_plan, plan_of_layout}
use Rattle.image_tables.proofs.Lookups.{placed_has}
use Rattle.image_tables.proofs.Lemmas.{all_append}

abbrev pub size_of : Option FrameLayout → ℕ
size_of None = 0
size_of (Some f) = f.depth

abbrev pub slots_of : Option FrameLayout → ℕ
slots_of None = 0
slots_of (Some f) = f.slots

abbrev pub IsSized : RoutineView → Type 0
IsSized r = r.layout.frame ≡ size_of r.frame

abbrev pub HasSlots : RoutineView → Type 0
HasSlots r = r.layout.slots ≡ slots_of r.frame

-- what holds of the routines of functions and of funclets holds of each that is placed
module _ (Holds : RoutineView → Type 0) (function : (b : Bool) (f : LinearFunction)
    → Holds (leaf_if b f)) (own : (p : LinearProgram) (f : LinearFunclet) → Holds (funclet p f))
  where
    all_functions : (main index : ℕ) (fs : List LinearFunction)
        → AllByRecursion Holds (functions_from main index fs)
    all_functions main index [] = tt
    all_functions main index (f ∷ fs) = (
      function (not (index == main) && is_leaf f) f,
      all_functions main (suc index) fs,
    )

    all_funclets : (p : LinearProgram) (fs : List LinearFunclet)
        → AllByRecursion Holds (map (funclet p) fs)
    all_funclets p [] = tt
    all_funclets p (f ∷ fs) = (own p f, all_funclets p fs)

    all_placed : (p : LinearProgram) (index : ℕ) (x : Placed)
        → slice_get (placed p) index ≡ Some x → Holds x.routine
    all_placed p index x e = placed_has Holds (site_of p) (first_cursor p)
        (routines p) index x (all_append Holds (functions_from p.main 0 p.functions)
        (map (funclet p) p.funclets) (all_functions p.main 0 p.functions)
        (all_funclets p p.funclets)) e

function_sized : (b : Bool) (f : LinearFunction) → IsSized (leaf_if b f)
function_sized true f = refl
function_sized false f = refl

pub sized : (p : LinearProgram) (index : ℕ) (x : Placed) → slice_get (placed p) index ≡ Some x
    → IsSized x.routine
sized = all_placed IsSized function_sized (λ p f. refl)

function_slots : (b : Bool) (f : LinearFunction) → HasSlots (leaf_if b f)
function_slots true f = refl
function_slots false f = refl

pub slots_placed : (p : LinearProgram) (index : ℕ) (x : Placed)
    → slice_get (placed p) index ≡ Some x → HasSlots x.routine
slots_placed = all_placed HasSlots function_slots (λ p f. refl)

-- ---- the plan of a layout

-- that of the frame, or one that takes nothing
abbrev pub IsPlannedBy : Layout → Option FrameLayout → Type 0
IsPlannedBy y None = (probe : ℕ) → plan_of_layout y probe ≡ frame_plan 0 probe
IsPlannedBy y (Some f) = (probe : ℕ) → plan_of_layout y probe ≡ plan_of f probe

abbrev HasPlan : RoutineView → Type 0
HasPlan r = IsPlannedBy r.layout r.frame

function_plan : (b : Bool) (f : LinearFunction) → HasPlan (leaf_if b f)
function_plan true f = λ probe. refl
function_plan false f = λ probe. refl

pub plan_placed : (p : LinearProgram) (index : ℕ) (x : Placed)
    → slice_get (placed p) index ≡ Some x → HasPlan x.routine
plan_placed = all_placed HasPlan function_plan (λ p f probe. refl)
