-- What is claimed of the linear code of sound programs that are nested within the limits.
use Rattle.c_checked.specs.Program.{Program}
use Rattle.c_checked.specs.Sound.{IsSound}
use Rattle.seh_ir.specs.Lowered.{lowered}
use Rattle.lowering_invariants.specs.Nesting.{AreShallow}
use Rattle.lowering_invariants.specs.Slots.{IsSmall}

-- no frame has more than 1,000 words and 1,024 more for each 1 that its function weighs above 1,
-- one without locals no more than 460, and each slot, function and funclet that is named is there
abbrev pub LoweredIsSmall : Type 0
LoweredIsSmall =
    (program : Program) → IsSound program → AreShallow program.functions → IsSmall (lowered program)
