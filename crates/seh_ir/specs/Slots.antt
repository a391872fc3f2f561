-- How many temporaries code uses, and how many arguments after the fourth its calls pass.
use Rattle.std.specs.Prelude.{ℕ, suc, ◌+◌, ◌-◌, max, List, [], ◌∷◌}
use Rattle.linear_code.specs.declared.slot.Slot.{Slot}
use Rattle.linear_code.specs.declared.slot.Slot.TheVariants.{Local, Temporary}
use Rattle.linear_code.specs.declared.instruction.Instruction.{Instruction}
use Rattle.linear_code.specs.declared.instruction.Instruction.TheVariants as instructions
use Rattle.linear_code.specs.declared.program.Region.{Region}
use Rattle.linear_code.specs.declared.program.LabelRange.{LabelRange}
use Rattle.linear_code.specs.Program.{LinearBody}

abbrev pub slot_temporaries : Slot → ℕ
slot_temporaries (Local x) = 0
slot_temporaries (Temporary i) = suc i

-- a call brings four temporaries to registers, whatever it passes
abbrev pub instruction_temporaries : Instruction → ℕ
instruction_temporaries (instructions.Compute to o first second) =
    max (slot_temporaries to) (max (slot_temporaries first) (slot_temporaries second))
instruction_temporaries (instructions.Information to field) = slot_temporaries to
instruction_temporaries (instructions.Jump label) = 0
instruction_temporaries (instructions.JumpIfZero slot label) = slot_temporaries slot
instruction_temporaries (instructions.Call f first count) = first + max 4 count
instruction_temporaries (instructions.CallBuiltIn f first) = first + 4
instruction_temporaries (instructions.CallFinally k) = 0
instruction_temporaries (instructions.LocalUnwind label) = 0
instruction_temporaries (instructions.Landing to) = slot_temporaries to
instruction_temporaries instructions.Separator = 0
instruction_temporaries (instructions.Return from) = slot_temporaries from

abbrev pub temporaries_in : List Instruction → ℕ
temporaries_in [] = 0
temporaries_in (i ∷ is) = max (instruction_temporaries i) (temporaries_in is)

abbrev pub instruction_passes : Instruction → ℕ
instruction_passes (instructions.Call f first count) = count - 4
instruction_passes i = 0

abbrev pub passed_in : List Instruction → ℕ
passed_in [] = 0
passed_in (i ∷ is) = max (instruction_passes i) (passed_in is)

-- a body of an activation with so many locals, with these cold parts
abbrev pub body_with : ℕ → List Instruction → List Region → List LabelRange → LinearBody
body_with locals code regions cold =
    record {
      locals = locals;
      temporaries = temporaries_in code;
      passed = passed_in code;
      code = code;
      regions = regions;
      cold = cold;
    }
