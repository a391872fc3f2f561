use Rattle.std.proofs.Common.{◌≡◌, ◌++◌, drop}
use Rattle.c_check.proofs.parameters.variables_of.Given as goal
use Rattle.c_check.specs.Words.{variables_of}

abbrev pub invariant-loop-parameter : goal.invariant-loop-parameter
invariant-loop-parameter l = l.variables.items ++ variables_of (drop l.parameter-index l.list)
    ≡ variables_of l.list
