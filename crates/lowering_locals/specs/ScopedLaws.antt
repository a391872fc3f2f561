-- What is claimed of the linear code of a sound program that names each local where it is declared.
use Rattle.c_checked.specs.Program.{Program}
use Rattle.c_checked.specs.Sound.{IsSound}
use Rattle.seh_ir.specs.Lowered.{lowered}
use Rattle.lowering_locals.specs.Reads.{ReadsNoUnset}
use Rattle.c_checked.specs.LocalScopes.{IsScoped}
use Rattle.lowering_locals.specs.Sets.{IsSetMap}
use Rattle.lowering_locals.specs.Places.{sets_of}

abbrev pub ScopedHasSetMap : Type 0
ScopedHasSetMap =
    (program : Program) → IsSound program → IsScoped program
    → IsSetMap (lowered program) (sets_of program)

abbrev pub ScopedReadsNoUnset : Type 0
ScopedReadsNoUnset =
    (program : Program) → IsSound program → IsScoped program → ReadsNoUnset (lowered program)
