-- What is claimed of the ends of filters and `__finally` blocks.
use Rattle.std.specs.Prelude.{◌≡◌, ℕ, zero, List, Some}
use Rattle.x64_machine.specs.Effect.{State}
use Rattle.virtual_unwind.specs.CallerOf.{Functions}
use Rattle.host_model.specs.declared.funclet.Funclet.{Funclet}
use Rattle.linear_code.specs.declared.slot.Slot.{Slot}
use Rattle.linear_code.specs.declared.instruction.Instruction.TheVariants as instructions
use Rattle.linear_code.specs.Program.{LinearProgram}
use Rattle.linear_machine.specs.Frames.{FuncletBody, Configuration}
use Rattle.linear_machine.specs.Instructions.{act}
use Rattle.linear_machine.specs.Run.{instruction_at, exec}
use Rattle.match_stack.specs.ImagePlan.{ImagePlan}
use Rattle.match_runs.specs.Ends.{HasRule}
use Rattle.match_bodies.specs.CodeSites.{Sites}
use Rattle.match_bodies.specs.ProgramImages.{IsProgramImage}
use Rattle.match_bodies.specs.Bodies.{RepresentsAt}
use Rattle.match_bodies.specs.ConfigurationFacts.{IsWellMade, IsKnown, KnownNext}
use Rattle.match_turns.specs.FuncletEntry.{FlagsFit}
use Rattle.match_turns.specs.AskOutcome.{IsMatchedOrAsks}
use Rattle.match_turns.specs.ExceptionContinuation.{Continuations}

-- a filter or a `__finally` block returns: the step is matched, whatever waits below
abbrev pub FuncletReturnsAreMatched : Type 0
FuncletReturnsAreMatched =
    (t : Functions) (fs : List Funclet) (program : LinearProgram) (p : ImagePlan) (q : Sites)
    → IsProgramImage t fs program p q → IsWellMade program p → FlagsFit program
    → Continuations t fs program p q
    → (s : State) (c : Configuration) (k : ℕ) (from : Slot)
    → RepresentsAt t fs program p q s c → IsKnown program c → c.frame.body ≡ FuncletBody k
    → instruction_at program c ≡ Some (instructions.Return from)
    → HasRule (act program (instructions.Return from) (exec program zero) c)
    → KnownNext program c (instructions.Return from)
    → IsMatchedOrAsks t fs program p q s c (instructions.Return from)
