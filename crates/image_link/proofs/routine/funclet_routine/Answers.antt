use Rattle.image_link.proofs.Fitting.{function_fits, function_below}
use Rattle.image_link.proofs.routine.funclet_routine.Goals as goal

pub function_frame-function-requires : goal.function_frame-function-requires
function_frame-function-requires c = function_fits c.args.program.now.functions.items
    c.args.funclet.now.function c.index.result.now c.requires.program.functions
    (function_below c.args.program.now.functions.items c.args.funclet.now.function
    c.requires.funclet.function) c.index.ensures
