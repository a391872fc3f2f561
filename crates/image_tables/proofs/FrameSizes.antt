-- No frame of a program that fits takes more than its routine's weight allows.
use Rattle.std.proofs.Common.{◌≡◌, ℕ, zero, suc, ◌+◌, ◌*◌, ◌≤◌, ◌==◌, Bool, true, false, not, List, [], ◌∷◌, ◌++◌, get_or, map, Some, subst}
use Rattle.std.specs.Prelude.{slice_get, ◌&&◌}
use Rattle.std.specs.List.{AllByRecursion}
use Rattle.linear_code.specs.Program.{weight}
use Rattle.template_code.specs.declared.layout.TheConstants.{FRAME_BY_WEIGHT}
use Rattle.frame_layout.proofs.Frames.{small}
use Rattle.image_link.specs.Fits.{FitsFunction, FitsFunclet}
use Rattle.image_link.specs.Routines.{function_facts, funclet_facts, no_function}
use Rattle.image_link.proofs.Nearness.{function_facts_fit, funclet_facts_fit}
use Rattle.image_tables.specs.Words.{LinearFunction, LinearFunclet, LinearProgram, FrameLayout, RoutineView, is_leaf, leaf_if, functions_from, funclet, SiteView, Placed, Cursor, past, placed_from, first_cursor, site_of}
use Rattle.image_tables.specs.ShapeLaws.{FramesAreSmall}
use Rattle.image_tables.proofs.Lookups.{some_same, none_some, placed_has}

-- its frame, if it has one, is no larger than the largest one of a weight
abbrev IsWithin : ℕ → RoutineView → Type 0
IsWithin n r = (f : FrameLayout) → r.frame ≡ Some f → f.depth + 8 ≤ FRAME_BY_WEIGHT * n

function_within : (b : Bool) (f : LinearFunction) → FitsFunction f
    → IsWithin (weight f) (leaf_if b f)
function_within true f fits frame e = absurd (none_some e)
function_within false f fits frame e =
    subst (λ (g : FrameLayout). g.depth + 8 ≤ FRAME_BY_WEIGHT * weight f) (some_same e)
    (small (function_facts f) (function_facts_fit f fits))

funclets_within : (p : LinearProgram) (fs : List LinearFunclet) → AllByRecursion (FitsFunclet p) fs
    → AllByRecursion (IsWithin 1) (map (funclet p) fs)
funclets_within p [] fits = tt
funclets_within p (f ∷ fs) fits = (
  λ frame e. subst (λ (g : FrameLayout). g.depth + 8 ≤ FRAME_BY_WEIGHT * 1) (some_same e)
      (small (funclet_facts f.body) (funclet_facts_fit f.body fits.0.body)),
  funclets_within p fs fits.1,
)

-- functions have their own weights, and what comes after them has 1
placed_within : (s : SiteView) (c : Cursor) (main number : ℕ) (fs : List LinearFunction)
    (others : List RoutineView) → AllByRecursion FitsFunction fs
    → AllByRecursion (IsWithin 1) others → (index : ℕ) (x : Placed)
    → slice_get (placed_from s c (functions_from main number fs ++ others)) index ≡ Some x
    → IsWithin (weight (get_or fs index no_function)) x.routine
placed_within s c main number [] others fits within index x e =
    placed_has (IsWithin 1) s c others index x within e
placed_within s c main number (f ∷ fs) others fits within zero x e =
    subst (λ (y : Placed). IsWithin (weight f) y.routine) (some_same e)
    (function_within (not (number == main) && is_leaf f) f fits.0)
placed_within s c main number (f ∷ fs) others fits within (suc index) x e =
    let r = leaf_if (not (number == main) && is_leaf f) f in
    placed_within s (past s c r) main (suc number) fs others fits.1 within index x e

pub frames_are_small : FramesAreSmall
frames_are_small p index x f fits e framed =
    placed_within (site_of p) (first_cursor p) p.main 0 p.functions
    (map (funclet p) p.funclets) fits.functions (funclets_within p p.funclets fits.funclets) index x
    e f framed
