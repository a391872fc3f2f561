use Rattle.std.proofs.Common.{◌≡◌, ◌++◌, drop}
use Rattle.c_resolved.specs.Layout.{stacked_parameters}
use Rattle.c_stacked.proofs.layout.stacked_parameters.Given as goal

abbrev pub invariant-loop-i : goal.invariant-loop-i
invariant-loop-i l = l.made.items ++ stacked_parameters l.i (drop l.i l.places)
    ≡ stacked_parameters 0 l.places
