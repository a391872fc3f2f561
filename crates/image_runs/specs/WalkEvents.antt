-- What is claimed of programs that don't call `walk`.
use Rattle.std.specs.Prelude.{◌≡◌, ℕ, false, ℤ}
use Rattle.std.specs.List.{AllByRecursion}
use Rattle.c_checked.specs.Program.{Program}
use Rattle.c_checked.specs.Sound.{IsSound}
use Rattle.source_meaning.specs.Meaning.{meaning}
use Rattle.linear_machine.specs.BuiltInCalls.{IsNotAt}
use Rattle.seh_ir.specs.Lowered.{lowered}
use Rattle.image_link.specs.Services.{calls_walk}

-- they show no event of a printed walk
abbrev pub MeaningsWalkByCalls : Type 0
MeaningsWalkByCalls =
    (program : Program) → IsSound program → calls_walk (lowered program) ≡ false
    → (arg : ℤ) (n : ℕ) → AllByRecursion IsNotAt (meaning program arg n).events
