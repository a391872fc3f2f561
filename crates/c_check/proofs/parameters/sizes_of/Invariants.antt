use Rattle.std.proofs.Common.{◌≡◌, ◌++◌, drop}
use Rattle.c_check.proofs.parameters.sizes_of.Given as goal
use Rattle.c_check.specs.Words.{sizes_of}

abbrev pub invariant-loop-parameter : goal.invariant-loop-parameter
invariant-loop-parameter l = l.sizes.items ++ sizes_of (drop l.parameter-index l.list)
    ≡ sizes_of l.list
