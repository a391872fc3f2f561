-- What is claimed of calls of `__finally` blocks.
use Rattle.std.specs.Prelude.{◌≡◌, ℕ, List, Some}
use Rattle.x64_machine.specs.Effect.{State}
use Rattle.virtual_unwind.specs.CallerOf.{Functions}
use Rattle.host_model.specs.declared.funclet.Funclet.{Funclet}
use Rattle.linear_code.specs.declared.instruction.Instruction.TheVariants as instructions
use Rattle.linear_code.specs.Program.{LinearProgram}
use Rattle.linear_machine.specs.Frames.{Configuration}
use Rattle.linear_machine.specs.Run.{instruction_at}
use Rattle.match_stack.specs.ImagePlan.{ImagePlan}
use Rattle.match_runs.specs.Matched.{IsMatched}
use Rattle.match_bodies.specs.CodeSites.{Sites}
use Rattle.match_bodies.specs.ProgramImages.{IsProgramImage}
use Rattle.match_bodies.specs.Bodies.{turns_left, RepresentsAt}
use Rattle.match_bodies.specs.ConfigurationFacts.{IsWellMade, IsKnown, KnownNext}
use Rattle.match_bodies.specs.StepLaws.{turns_per_step}
use Rattle.match_turns.specs.FuncletEntry.{FlagsFit, SeparatorsFollow}

-- a body calls its `__finally` block: the block begins, but where the depth would be too great
abbrev pub BlockCallsAreMatched : Type 0
BlockCallsAreMatched =
    (t : Functions) (fs : List Funclet) (program : LinearProgram) (p : ImagePlan) (q : Sites)
    → IsProgramImage t fs program p q → IsWellMade program p → FlagsFit program
    → SeparatorsFollow program
    → (s : State) (c : Configuration) (k : ℕ)
    → RepresentsAt t fs program p q s c → IsKnown program c
    → instruction_at program c ≡ Some (instructions.CallFinally k)
    → KnownNext program c (instructions.CallFinally k)
    → IsMatched t fs program turns_per_step turns_left (RepresentsAt t fs program p q) s c
    (instructions.CallFinally k)
