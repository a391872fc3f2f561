-- What the image of a linked program is to the bridge from linear code to the machine.
use Rattle.std.specs.Prelude.{◌≡◌, ◌≢◌, ℕ, ◌<◌, true, false, length, slice_get, Some}
use Rattle.linear_code.specs.declared.instruction.Instruction.{Instruction}
use Rattle.linear_code.specs.Program.{LinearBody, LinearProgram}
use Rattle.linear_machine.specs.Frames.{BodyName, FunctionBody, body_of}
use Rattle.lowering_invariants.specs.ReturnRegions.{is_call}
use Rattle.match_bodies.specs.ProgramImages.{IsProgramImage}
use Rattle.image_states.specs.Plans.{functions_of, funclets_of, plan_of, sites_of}
use Rattle.image_states.specs.Compiled.{HasWholeImage}

-- its tables, addresses and frames
abbrev pub ImagesArePrograms : Type 0
ImagesArePrograms =
    (program : LinearProgram) → HasWholeImage program
    → IsProgramImage (functions_of program) (funclets_of program) program (plan_of program)
    (sites_of program)

-- a leaf function calls nothing (Microsoft x64 ABI, "Leaf functions")
abbrev pub LeavesCallNothing : Type 0
LeavesCallNothing =
    (program : LinearProgram) → HasWholeImage program
    → (name : BodyName) (b : LinearBody) (label : ℕ) (i : Instruction)
    → body_of program name ≡ Some b → (plan_of program).leaf name ≡ true
    → slice_get b.code label ≡ Some i → is_call i ≡ false

-- a function that has code begins elsewhere than a funclet
abbrev pub FunctionsApart : Type 0
FunctionsApart =
    (program : LinearProgram) → HasWholeImage program
    → (f k : ℕ) (b : LinearBody)
    → body_of program (FunctionBody f) ≡ Some b → 0 < length b.code → k < length program.funclets
    → (sites_of program).function f ≢ (plan_of program).funclet k
