-- The slots of a body are enough for what its instructions do.
use Rattle.std.specs.Prelude.{◌≡◌, ℕ, ◌+◌, ◌≤◌, Some}
use Rattle.std.specs.List.{AllByRecursion}
use Rattle.seh_num.specs.declared.limit.TheConstants.{MOST_PARAMETERS}
use Rattle.linear_code.specs.declared.instruction.Instruction.{Instruction}
use Rattle.linear_code.specs.declared.instruction.Instruction.TheVariants as instructions
use Rattle.linear_code.specs.BodyState.{Counts}
use Rattle.linear_code.specs.Meaning.{HasSlots}
use Rattle.linear_code.specs.Program.{LinearProgram, LinearBody}
use Rattle.linear_machine.specs.Frames.{BodyName, body_of}
use Rattle.lowering_invariants.specs.Depths.{depth_at}

abbrev pub counts_of : LinearBody → Counts
counts_of b = record { locals = b.locals; temporaries = b.temporaries }

-- at most eight arguments, of which those after the fourth have their places
abbrev pub PassesWell : ℕ → Instruction → Type 0
PassesWell passed (instructions.Call f first count) =
    (count ≤ MOST_PARAMETERS) × (count ≤ 4 + passed)
PassesWell passed other = Unit {0}

pub record BodyHasRoom (b : LinearBody) : Type 0 where
  pub slots : AllByRecursion (HasSlots (counts_of b)) b.code
  pub depths : (label : ℕ) → depth_at b.code label ≤ b.temporaries
  pub calls : AllByRecursion (PassesWell b.passed) b.code

-- all bodies
abbrev pub HaveRoom : LinearProgram → Type 0
HaveRoom program = (name : BodyName) (b : LinearBody) → body_of program name ≡ Some b
    → BodyHasRoom b
