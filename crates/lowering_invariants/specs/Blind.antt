-- Code that reads nothing of an exception, and bodies that may.
use Rattle.std.specs.Prelude.{◌≡◌, ℕ, slice_get, Some}
use Rattle.linear_code.specs.declared.instruction.Instruction.{Instruction}
use Rattle.linear_code.specs.declared.instruction.Instruction.TheVariants as instructions
use Rattle.linear_code.specs.declared.program.FuncletKind.TheVariants.{Filter}
use Rattle.linear_code.specs.Program.{LinearProgram, LinearFunclet}
use Rattle.linear_machine.specs.Frames.{BodyName, FuncletBody}

-- an instruction that reads no field of an exception
abbrev pub IsBlind : Instruction → Type 0
IsBlind (instructions.Information to field) = ⊥
IsBlind i = Unit {0}

-- a body is a filter
pub record IsFilterBody (program : LinearProgram) (name : BodyName) : Type 0 where
  pub number : ℕ
  pub is : name ≡ FuncletBody number
  pub funclet : LinearFunclet
  pub there : slice_get program.funclets number ≡ Some funclet
  pub kind : funclet.kind ≡ Filter
