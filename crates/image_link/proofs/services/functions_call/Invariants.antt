use Rattle.std.proofs.Common.{◌≡◌, drop, map}
use Rattle.image_link.specs.Words.{linear_function, functions_call}
use Rattle.image_link.proofs.services.functions_call.Given as goal

abbrev pub invariant-loop-function : goal.invariant-loop-function
invariant-loop-function l =
    functions_call l.service (map linear_function (drop l.function-index l.functions))
    ≡ functions_call l.service (map linear_function l.functions)
