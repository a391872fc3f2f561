-- What each part of a program that fits keeps to.
use Rattle.std.proofs.Common.{◌≡◌, ℕ, ◌<◌, List, length, get_or, map, sym, ap, subst, ◌∙◌, arith}
use Rattle.std.specs.List.{AllByRecursion}
use Rattle.std.proofs.lemmas.List.{get_or-map, length-map}
use Rattle.image_link.specs.Words.{IrFunction, IrFunclet, LinearProgram, linear_function, linear_funclet, FitsFunction, FitsFunclet}
use Rattle.image_link.proofs.Lemmas.{all_at}

-- the function of an index
pub function_fits : (fs : List IrFunction) (i : ℕ) (f : IrFunction)
    → AllByRecursion FitsFunction (map linear_function fs) → i < length fs → f ≡ get_or fs i f
    → FitsFunction (linear_function f)
function_fits fs i f all lt is =
    let m = length-map fs linear_function in
    subst FitsFunction (get_or-map linear_function fs i f (linear_function f) lt
    ∙ ap linear_function (sym is)) (all_at FitsFunction (map linear_function fs) i
    (linear_function f) all (omega (arith, m)))

pub funclet_fits : (p : LinearProgram) (fs : List IrFunclet) (i : ℕ) (f : IrFunclet)
    → AllByRecursion (FitsFunclet p) (map linear_funclet fs) → i < length fs → f ≡ get_or fs i f
    → FitsFunclet p (linear_funclet f)
funclet_fits p fs i f all lt is =
    let m = length-map fs linear_funclet in
    subst (FitsFunclet p) (get_or-map linear_funclet fs i f (linear_funclet f) lt
    ∙ ap linear_funclet (sym is)) (all_at (FitsFunclet p) (map linear_funclet fs) i
    (linear_funclet f) all (omega (arith, m)))

pub function_below : (fs : List IrFunction) (i : ℕ) → i < length (map linear_function fs)
    → i < length fs
function_below fs i lt = omega (arith, length-map fs linear_function)

pub funclet_below : (fs : List IrFunclet) (i : ℕ) → i < length (map linear_funclet fs)
    → i < length fs
funclet_below fs i lt = omega (arith, length-map fs linear_funclet)
