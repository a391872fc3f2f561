-- What is claimed of every sound program and the linear code that it is lowered to.
use Rattle.c_checked.specs.Program.{Program}
use Rattle.c_checked.specs.Sound.{IsSound}
use Rattle.seh_ir.specs.Lowered.{lowered}
use Rattle.lowering_follows.specs.FollowLaws.{Follows, NoMore}
use Rattle.lowering_follows.specs.StatementPlaces.{IsLinked}
use Rattle.lowering_follows.specs.StepsPerTurn.{weight_of, steps_per_turn_of}

-- each function is in the code, and each funclet
abbrev pub LoweredIsLinked : Type 0
LoweredIsLinked =
    (program : Program) → IsSound program
    → IsLinked program (lowered program) (steps_per_turn_of program) (weight_of program.functions)

-- from 16 n + 6 turns on the code has shown what n steps show, and has ended as they end
abbrev pub LoweredFollows : Type 0
LoweredFollows = (program : Program) → IsSound program → Follows program (lowered program)

-- m turns have shown no more than m + 1 times the steps of a turn, and no run is stuck
abbrev pub LoweredShowsNoMore : Type 0
LoweredShowsNoMore =
    (program : Program) → IsSound program → NoMore program (lowered program)
    (steps_per_turn_of program)
