-- A call and the instruction after it are inside the same regions, so that the return address of a
-- body that waits in a call is.
use Rattle.std.specs.Prelude.{◌≡◌, ℕ, ◌+◌, ◌<◌, Bool, true, false, length, filter, slice_get, Some}
use Rattle.linear_code.specs.declared.instruction.Instruction.{Instruction}
use Rattle.linear_code.specs.declared.instruction.Instruction.TheVariants as instructions
use Rattle.linear_code.specs.Program.{LinearProgram, LinearBody}
use Rattle.linear_machine.specs.Frames.{BodyName, body_of}
use Rattle.linear_machine.specs.Regions.{holds}

-- what a body waits in with a return address
abbrev pub is_call : Instruction → Bool
is_call (instructions.Call f first count) = true
is_call (instructions.CallBuiltIn f first) = true
is_call (instructions.CallFinally k) = true
is_call (instructions.LocalUnwind label) = true
is_call i = false

pub record ReturnsStayInRegions (b : LinearBody) : Type 0 where
  pub within : (label : ℕ) (i : Instruction) → slice_get b.code label ≡ Some i → is_call i ≡ true
      → label + 1 < length b.code
  pub regions : (label : ℕ) (i : Instruction) → slice_get b.code label ≡ Some i → is_call i ≡ true
      → filter (holds (label + 1)) b.regions ≡ filter (holds label) b.regions

-- all bodies
abbrev pub AllReturnsStayInRegions : LinearProgram → Type 0
AllReturnsStayInRegions program = (name : BodyName) (b : LinearBody)
    → body_of program name ≡ Some b → ReturnsStayInRegions b
