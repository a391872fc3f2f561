use Rattle.std.proofs.Common.{List, map, sym, subst}
use Rattle.std.specs.List.{AllByRecursion}
use Rattle.image_link.specs.Words.{IrFunction, IrFunclet, linear_function, linear_funclet, linear_program, FitsFunction, FitsFunclet}
use Rattle.image_link.proofs.Fitting.{function_fits, funclet_fits}
use Rattle.image_link.proofs.routine.routines.Goals as goal

pub function_routine-requires : goal.function_routine-requires
function_routine-requires c =
    function_fits c.deref-function-items.result.now c.loop-function.function-index
    c.function-item.result
    (subst (λ (fs : List IrFunction). AllByRecursion FitsFunction (map linear_function fs))
    (sym c.deref-function-items.ensures.value) c.requires.functions)
    c.loop-function-test.true c.function-item.is

pub funclet_routine-requires-clause-funclet : goal.funclet_routine-requires-clause-funclet
funclet_routine-requires-clause-funclet c =
    let p = linear_program c.args.program.now in
    funclet_fits p c.deref-funclet-items.result.now c.loop-funclet.funclet-index
    c.funclet-item.result
    (subst (λ (fs : List IrFunclet). AllByRecursion (FitsFunclet p) (map linear_funclet fs))
    (sym c.deref-funclet-items.ensures.value) c.requires.funclets)
    c.loop-funclet-test.true c.funclet-item.is
