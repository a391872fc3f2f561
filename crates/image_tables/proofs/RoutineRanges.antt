-- The regions of routines are those of bodies.
use Rattle.std.proofs.Common.{◌≡◌, ℕ, suc, ◌==◌, Bool, true, false, not, List, [], ◌∷◌, map, refl, sym, subst}
use Rattle.std.specs.Prelude.{◌&&◌}
use Rattle.std.specs.List.{AllByRecursion}
use Rattle.image_tables.specs.Words.{LinearFunction, LinearFunclet, LinearProgram, RoutineView, is_leaf, leaf_if, functions_from, funclet, routines, HasRanges, HasRegions}
use Rattle.image_tables.proofs.Lemmas.{all_append}

same_body : (b : Bool) (f : LinearFunction) → (leaf_if b f).body ≡ f.body
same_body true f = refl
same_body false f = refl

abbrev pub RoutineHasRanges : RoutineView → Type 0
RoutineHasRanges r = HasRanges r.body

functions_have : (main index : ℕ) (fs : List LinearFunction)
    → AllByRecursion (λ (f : LinearFunction). HasRanges f.body) fs
    → AllByRecursion RoutineHasRanges (functions_from main index fs)
functions_have main index [] all = tt
functions_have main index (f ∷ fs) all = (
  subst HasRanges
      (sym (same_body (not (index == main) && is_leaf f) f)) all.0,
  functions_have main (suc index) fs all.1,
)

funclets_have : (p : LinearProgram) (fs : List LinearFunclet)
    → AllByRecursion (λ (f : LinearFunclet). HasRanges f.body) fs
    → AllByRecursion RoutineHasRanges (map (funclet p) fs)
funclets_have p [] all = tt
funclets_have p (f ∷ fs) all = (all.0, funclets_have p fs all.1)

pub routines_have : (p : LinearProgram) → HasRegions p → AllByRecursion RoutineHasRanges
    (routines p)
routines_have p h =
    all_append RoutineHasRanges (functions_from p.main 0 p.functions)
    (map (funclet p) p.funclets) (functions_have p.main 0 p.functions h.functions)
    (funclets_have p p.funclets h.funclets)
