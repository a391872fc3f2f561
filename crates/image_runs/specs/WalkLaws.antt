-- What is claimed of walks over the stack of a running image.
use Rattle.std.specs.Prelude.{◌≡◌, List, Some, Ok}
use Rattle.x64_machine.specs.Effect.{State, step}
use Rattle.virtual_unwind.specs.CallerOf.{Functions}
use Rattle.host_model.specs.declared.funclet.Funclet.{Funclet}
use Rattle.linear_code.specs.declared.instruction.Instruction.{Instruction}
use Rattle.linear_code.specs.Program.{LinearProgram}
use Rattle.linear_machine.specs.Frames.{Configuration}
use Rattle.linear_machine.specs.Run.{instruction_at}
use Rattle.x64_templates.specs.Epilogues.{IsReturn}
use Rattle.match_stack.specs.ImagePlan.{ImagePlan}
use Rattle.match_bodies.specs.CodeSites.{Sites}
use Rattle.match_bodies.specs.ProgramImages.{IsProgramImage}
use Rattle.match_bodies.specs.Bodies.{RepresentsAt}
use Rattle.match_bodies.specs.ConfigurationFacts.{IsKnown}
use Rattle.match_turns.specs.DispatchOutcome.{Represents}
use Rattle.image_states.specs.Plans.{functions_of, funclets_of, plan_of, sites_of}
use Rattle.image_states.specs.Compiled.{HasWholeImage}
use Rattle.image_runs.specs.ReturnFrames.{ReturnsWait}
use Rattle.image_runs.specs.LiveFrames.{WalkGives}
use Rattle.image_runs.specs.InstructionStates.{IsWithinInstruction, ScratchOnlyHere}

-- in every state that represents a configuration the walk gives the frames that are live there
abbrev pub WalksGiveTheFrames : Type 0
WalksGiveTheFrames =
    (t : Functions) (fs : List Funclet) (program : LinearProgram) (p : ImagePlan) (q : Sites)
    → IsProgramImage t fs program p q → ReturnsWait t fs program p q
    → (s : State) (c : Configuration) → Represents t fs program p q s c → IsKnown program c
    → WalkGives t fs program p s c

-- and within its instruction, as long as the stack from RSP up is as it was
abbrev pub WalksGiveTheFramesWithin : Type 0
WalksGiveTheFramesWithin =
    (t : Functions) (fs : List Funclet) (program : LinearProgram) (p : ImagePlan) (q : Sites)
    → IsProgramImage t fs program p q → ReturnsWait t fs program p q
    → (s u : State) (c : Configuration) → Represents t fs program p q s c → IsKnown program c
    → IsWithinInstruction t fs program p q s u c
    → WalkGives t fs program p u c

-- an instruction that is no return begins so
abbrev pub BeginningsAreWithin : Type 0
BeginningsAreWithin =
    (t : Functions) (fs : List Funclet) (program : LinearProgram) (p : ImagePlan) (q : Sites)
    → IsProgramImage t fs program p q
    → (s : State) (c : Configuration) (i : Instruction) → RepresentsAt t fs program p q s c
    → instruction_at program c ≡ Some i → (IsReturn i → ⊥)
    → IsWithinInstruction t fs program p q s s c

-- it is so after each machine instruction that writes no memory, up to the last one of the
-- instruction
abbrev pub ScratchStepsStayWithin : Type 0
ScratchStepsStayWithin =
    (t : Functions) (fs : List Funclet) (program : LinearProgram) (p : ImagePlan) (q : Sites)
    → IsProgramImage t fs program p q
    → (s u v : State) (c : Configuration) (w : IsWithinInstruction t fs program p q s u c)
    → ScratchOnlyHere t fs program p q s u c w → step u ≡ Ok v
    → IsWithinInstruction t fs program p q s v c

-- of an image that is linked, a body that is about to return is as at any other instruction
abbrev pub LinkedReturnsWait : Type 0
LinkedReturnsWait =
    (program : LinearProgram) → HasWholeImage program
    → ReturnsWait (functions_of program) (funclets_of program) program (plan_of program)
    (sites_of program)
