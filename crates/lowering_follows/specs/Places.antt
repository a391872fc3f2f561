-- Instructions at places of a body, inside their regions.
use Rattle.std.specs.Prelude.{◌≡◌, ℕ, ◌+◌, List, [], ◌∷◌, Some}
use Rattle.linear_code.specs.declared.instruction.Instruction.{Instruction}
use Rattle.linear_code.specs.declared.program.Region.{Region}
use Rattle.linear_code.specs.Program.{LinearProgram}
use Rattle.linear_machine.specs.Frames.{BodyName, body_of}
use Rattle.linear_machine.specs.Regions.{regions_at}
use Rattle.linear_machine.specs.Run.{instruction_in}

-- these instructions are at a place of a body, each inside these regions
abbrev pub HasAt : LinearProgram → BodyName → List Region → ℕ → List Instruction → Type 0
HasAt linear body regions pc [] = Unit {0}
HasAt linear body regions pc (i ∷ is) =
    (instruction_in (body_of linear body) pc ≡ Some i) × (regions_at linear body pc ≡ regions)
    × HasAt linear body regions (pc + 1) is
