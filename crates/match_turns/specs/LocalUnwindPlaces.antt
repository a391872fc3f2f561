-- What is asked of the places of local unwinds in the code of a program.
use Rattle.std.specs.Prelude.{◌≡◌, Some}
use Rattle.linear_code.specs.Program.{LinearProgram, LinearBody}
use Rattle.linear_machine.specs.Frames.{BodyName, body_of}
use Rattle.lowering_invariants.specs.BlockSeparators.{IsFollowed}
use Rattle.lowering_invariants.specs.UnwindLabels.{StaysInside}

-- in all bodies an instruction that does nothing comes after what runs `__finally` blocks
abbrev pub AreFollowed : LinearProgram → Type 0
AreFollowed program =
    (name : BodyName) (b : LinearBody) → body_of program name ≡ Some b → IsFollowed b

-- and local unwinds go to instructions of their body
abbrev pub StayInside : LinearProgram → Type 0
StayInside program =
    (name : BodyName) (b : LinearBody) → body_of program name ≡ Some b → StaysInside b
