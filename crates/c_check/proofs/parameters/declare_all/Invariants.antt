use Rattle.std.proofs.Common.{◌≡◌}
use Rattle.c_check.proofs.parameters.declare_all.Given as goal
use Rattle.c_check.proofs.ParametersInOrder.{StillParameters}
use Rattle.c_check.specs.Words.{least_of, with_block}

abbrev pub invariant-loop-i : goal.invariant-loop-i
invariant-loop-i l = (l.names ≡ with_block l.initial.names l.names.block)
    × StillParameters l.text l.list l.i l.names.block (least_of l.initial.faults)
    (least_of l.faults)
