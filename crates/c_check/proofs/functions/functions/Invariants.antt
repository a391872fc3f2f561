use Rattle.std.proofs.Common.{◌≡◌}
use Rattle.c_check.proofs.functions.functions.Given as goal
use Rattle.c_check.proofs.FunctionsInOrder.{StillFunctions}
use Rattle.c_check.specs.Words.{least_of, scopes_of}

abbrev pub invariant-loop-x : goal.invariant-loop-x
invariant-loop-x l = (l.names ≡ l.initial.names)
    × StillFunctions l.text (scopes_of l.initial.names) l.xs l.x-index (least_of l.fn.faults)
    l.progress
