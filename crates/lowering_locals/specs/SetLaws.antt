-- What is claimed of programs at whose places it is known which locals have been set.
use Rattle.std.specs.Prelude.{ℕ}
use Rattle.linear_code.specs.Program.{LinearProgram}
use Rattle.linear_machine.specs.Frames.{BodyName}
use Rattle.lowering_invariants.specs.Bodies.{IsWhole}
use Rattle.lowering_locals.specs.Reads.{ReadsNoUnset}
use Rattle.c_checked.specs.LocalScopes.{SeenNames}
use Rattle.lowering_locals.specs.Sets.{IsSetMap}

abbrev pub SetMapReadsNoUnset : Type 0
SetMapReadsNoUnset =
    (program : LinearProgram) → IsWhole program → (sets : BodyName → ℕ → SeenNames)
    → IsSetMap program sets → ReadsNoUnset program
