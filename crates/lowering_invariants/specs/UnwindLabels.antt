-- Where local unwinds go.
use Rattle.std.specs.Prelude.{◌≡◌, ℕ, ◌<◌, length, slice_get, Some}
use Rattle.linear_code.specs.declared.instruction.Instruction.TheVariants as instructions
use Rattle.linear_code.specs.Program.{LinearBody}

-- to an instruction of their body
abbrev pub StaysInside : LinearBody → Type 0
StaysInside b =
    (label to : ℕ) → slice_get b.code label ≡ Some (instructions.LocalUnwind to)
    → to < length b.code
