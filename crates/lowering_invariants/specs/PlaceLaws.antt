-- What is claimed of the bodies and the funclets of every lowered program.
use Rattle.std.specs.Prelude.{◌≡◌, ℕ, ◌<◌, slice_get, Some}
use Rattle.c_operations.specs.declared.field.Field.{Field}
use Rattle.c_checked.specs.Program.{Program}
use Rattle.c_checked.specs.Sound.{IsSound}
use Rattle.linear_code.specs.declared.slot.Slot.{Slot}
use Rattle.linear_code.specs.declared.instruction.Instruction.TheVariants as instructions
use Rattle.linear_code.specs.declared.program.FuncletKind.TheVariants.{Finally}
use Rattle.linear_code.specs.Program.{LinearBody, LinearFunclet}
use Rattle.linear_machine.specs.Frames.{BodyName, body_of}
use Rattle.seh_ir.specs.Lowered.{lowered}
use Rattle.lowering_invariants.specs.BlockSeparators.{IsFollowed}
use Rattle.lowering_invariants.specs.CallRegions.{HasSameRegions}
use Rattle.lowering_invariants.specs.ColdParts.{HasColdParts}
use Rattle.lowering_invariants.specs.Separators.{HasSeparators}
use Rattle.lowering_invariants.specs.UnwindLabels.{StaysInside}
use Rattle.lowering_invariants.specs.Blind.{IsFilterBody}

abbrev pub LoweredIsFollowed : Type 0
LoweredIsFollowed =
    (program : Program) (name : BodyName) (b : LinearBody) → body_of (lowered program) name ≡ Some b
    → IsFollowed b

abbrev pub LoweredHasSameRegions : Type 0
LoweredHasSameRegions =
    (program : Program) (name : BodyName) (b : LinearBody) → body_of (lowered program) name ≡ Some b
    → HasSameRegions b

abbrev pub LoweredStaysInside : Type 0
LoweredStaysInside =
    (program : Program) (name : BodyName) (b : LinearBody) → body_of (lowered program) name ≡ Some b
    → StaysInside b

abbrev pub LoweredHasSeparators : Type 0
LoweredHasSeparators =
    (program : Program) (name : BodyName) (b : LinearBody) → body_of (lowered program) name ≡ Some b
    → HasSeparators name b

abbrev pub LoweredHasColdParts : Type 0
LoweredHasColdParts =
    (program : Program) (name : BodyName) (b : LinearBody) → body_of (lowered program) name ≡ Some b
    → HasColdParts b

-- the flag that says how a `__finally` block is run (Microsoft C language reference,
-- `AbnormalTermination`) is a local of its body
abbrev pub LoweredHasFlags : Type 0
LoweredHasFlags =
    (program : Program) (k flag : ℕ) (f : LinearFunclet)
    → slice_get (lowered program).funclets k ≡ Some f → f.kind ≡ Finally flag → flag < f.body.locals

-- only filters read their exception
abbrev pub LoweredInformsFilters : Type 0
LoweredInformsFilters =
    (program : Program) → IsSound program
    → (name : BodyName) (b : LinearBody) (label : ℕ) (to : Slot) (field : Field)
    → body_of (lowered program) name ≡ Some b
    → slice_get b.code label ≡ Some (instructions.Information to field)
    → IsFilterBody (lowered program) name
