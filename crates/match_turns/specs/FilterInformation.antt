-- What is asked of a program beside what its bodies name.
use Rattle.std.specs.Prelude.{◌≡◌, ℕ, slice_get, Some}
use Rattle.linear_code.specs.declared.slot.Slot.{Slot}
use Rattle.linear_code.specs.declared.instruction.Instruction.TheVariants as instructions
use Rattle.c_operations.specs.declared.field.Field.{Field}
use Rattle.linear_code.specs.declared.program.FuncletKind.TheVariants.{Filter}
use Rattle.linear_code.specs.Program.{LinearProgram, LinearBody, LinearFunclet}
use Rattle.linear_machine.specs.Frames.{BodyName, FuncletBody, body_of}
use Rattle.x64_templates.specs.Exceptions.{IsField}

module _ (program : LinearProgram) where
  -- a body is a filter
  pub record IsFilterBody (name : BodyName) : Type 0 where
    pub number : ℕ
    pub is : name ≡ FuncletBody number
    pub funclet : LinearFunclet
    pub there : slice_get program.funclets number ≡ Some funclet
    pub kind : funclet.kind ≡ Filter

  -- only filters read their exception, and of its parameters none past the fifteenth
  abbrev pub FiltersReadInformation : Type 0
  FiltersReadInformation =
      (name : BodyName) (b : LinearBody) (label : ℕ) (to : Slot) (field : Field)
      → body_of program name ≡ Some b → slice_get b.code label
      ≡ Some (instructions.Information to field) → IsFilterBody name × IsField field
