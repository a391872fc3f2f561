-- What is claimed of calls of functions and of their returns.
use Rattle.std.specs.Prelude.{◌≡◌, ◌⊎◌, ℕ, zero, List, Some}
use Rattle.x64_machine.specs.Effect.{State}
use Rattle.virtual_unwind.specs.CallerOf.{Functions}
use Rattle.host_model.specs.declared.funclet.Funclet.{Funclet}
use Rattle.linear_code.specs.declared.slot.Slot.{Slot}
use Rattle.linear_code.specs.declared.instruction.Instruction.TheVariants as instructions
use Rattle.linear_code.specs.Program.{LinearProgram}
use Rattle.linear_machine.specs.Frames.{FunctionBody, Configuration}
use Rattle.linear_machine.specs.Instructions.{act}
use Rattle.linear_machine.specs.Run.{instruction_at, exec}
use Rattle.match_stack.specs.ImagePlan.{ImagePlan}
use Rattle.match_runs.specs.Ends.{HasRule}
use Rattle.match_runs.specs.Matched.{Fails}
use Rattle.match_bodies.specs.CodeSites.{Sites}
use Rattle.match_bodies.specs.ProgramImages.{IsProgramImage}
use Rattle.match_bodies.specs.Bodies.{turns_left, RepresentsAt}
use Rattle.match_bodies.specs.ConfigurationFacts.{IsWellMade, IsKnown, KnownNext}
use Rattle.match_bodies.specs.StepLaws.{turns_per_step}
use Rattle.match_turns.specs.FuncletEntry.{FlagsFit}
use Rattle.match_turns.specs.ExceptionContinuation.{Continuations}
use Rattle.match_turns.specs.AskOutcome.{IsMatchedOrAsks}
use Rattle.match_turns.specs.CallOutcome.{FunctionsApart, CallBegins}

-- a function returns: to the body that waits for it, out of `main`, or to the search that has asked
-- it
abbrev pub ReturnsAreMatched : Type 0
ReturnsAreMatched =
    (t : Functions) (fs : List Funclet) (program : LinearProgram) (p : ImagePlan) (q : Sites)
    → IsProgramImage t fs program p q → IsWellMade program p → FlagsFit program
    → Continuations t fs program p q
    → (s : State) (c : Configuration) (f : ℕ) (from : Slot)
    → RepresentsAt t fs program p q s c → IsKnown program c → c.frame.body ≡ FunctionBody f
    → instruction_at program c ≡ Some (instructions.Return from)
    → HasRule (act program (instructions.Return from) (exec program zero) c)
    → KnownNext program c (instructions.Return from)
    → IsMatchedOrAsks t fs program p q s c (instructions.Return from)

-- a function is called: it begins, but where the depth would be too great
abbrev pub CallsBegin : Type 0
CallsBegin =
    (t : Functions) (fs : List Funclet) (program : LinearProgram) (p : ImagePlan) (q : Sites)
    → IsProgramImage t fs program p q → IsWellMade program p → FunctionsApart program p q
    → (s : State) (c : Configuration) (f first count : ℕ)
    → RepresentsAt t fs program p q s c → IsKnown program c
    → instruction_at program c ≡ Some (instructions.Call f first count)
    → CallBegins t fs program p q s c f first count
    ⊎ Fails t fs program turns_per_step turns_left s c (instructions.Call f first count)
