-- What is claimed of every configuration that the linear code of a sound program comes to.
use Rattle.std.specs.Prelude.{◌≡◌}
use Rattle.c_checked.specs.Program.{Program}
use Rattle.c_checked.specs.Sound.{IsSound}
use Rattle.linear_machine.specs.Frames.{Configuration, Next}
use Rattle.seh_ir.specs.Lowered.{lowered}
use Rattle.lowering_invariants.specs.Nesting.{AreShallow}
use Rattle.lowering_invariants.specs.Turns.{IsReached}
use Rattle.lowering_invariants.specs.Ready.{CanContinue}
use Rattle.lowering_invariants.specs.Bodies.{IsWhole}
use Rattle.lowering_invariants.specs.Waiting.{IsStacked}
use Rattle.lowering_invariants.specs.Activations.{HasActivations}
use Rattle.lowering_invariants.specs.SmallNumbers.{HasSmallNumbers}
use Rattle.lowering_invariants.specs.Depths.{HasDepths}
use Rattle.lowering_invariants.specs.Room.{HaveRoom}
use Rattle.lowering_invariants.specs.ReturnRegions.{AllReturnsStayInRegions}

-- the funclets that bodies name are theirs, each call has as many arguments as its function takes,
-- a function that is put among the vectored handlers or taken out takes two, and what may fault
-- reads temporaries alone
abbrev pub LoweredIsWhole : Type 0
LoweredIsWhole = (program : Program) → IsSound program → IsWhole (lowered program)

-- where a program is nested within the limits, the slots of each body are enough for what its
-- instructions do
abbrev pub LoweredHasRoom : Type 0
LoweredHasRoom =
    (program : Program) → IsSound program → AreShallow program.functions
    → HaveRoom (lowered program)

-- a call and the instruction after it are inside the same regions
abbrev pub LoweredIsApart : Type 0
LoweredIsApart = (program : Program) → AllReturnsStayInRegions (lowered program)

-- it is at an instruction, and what that needs is there
abbrev pub ReachedContinues : Type 0
ReachedContinues =
    (program : Program) → IsSound program → (c : Configuration) → IsReached (lowered program) c
    → CanContinue (lowered program) c

abbrev pub ReachedIsStacked : Type 0
ReachedIsStacked =
    (program : Program) → IsSound program → (c : Configuration) → IsReached (lowered program) c
    → IsStacked (lowered program) c

abbrev pub ReachedHasActivations : Type 0
ReachedHasActivations =
    (program : Program) → IsSound program → (c : Configuration) → IsReached (lowered program) c
    → HasActivations (lowered program) c

abbrev pub ReachedIsSmall : Type 0
ReachedIsSmall =
    (program : Program) → IsSound program → (c : Configuration) → IsReached (lowered program) c
    → HasSmallNumbers c

abbrev pub ReachedHasDepths : Type 0
ReachedHasDepths =
    (program : Program) → IsSound program → (c : Configuration) → IsReached (lowered program) c
    → HasDepths (lowered program) c

-- a configuration is determined by what may be seen from it on
abbrev pub SeenAlikeIsSame : Type 0
SeenAlikeIsSame = (c d : Configuration) → ((next : Next) → next c ≡ next d) → c ≡ d
