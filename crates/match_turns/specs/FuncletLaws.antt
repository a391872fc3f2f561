-- What is claimed of funclets: that they begin where the dispatcher calls them, and that a
-- `__finally` block which its body calls returns to the body.
use Rattle.std.specs.Prelude.{◌≡◌, ℕ, List, ◌∷◌, slice_get, Some}
use Rattle.x64_machine.specs.Effect.{State}
use Rattle.virtual_unwind.specs.CallerOf.{Functions}
use Rattle.host_model.specs.declared.funclet.Funclet.{Funclet}
use Rattle.linear_code.specs.declared.slot.Slot.{Slot}
use Rattle.linear_code.specs.declared.instruction.Instruction.TheVariants as instructions
use Rattle.linear_code.specs.declared.program.FuncletKind.TheVariants as funclets
use Rattle.linear_code.specs.Program.{LinearProgram, LinearFunclet}
use Rattle.linear_machine.specs.Frames.{FuncletBody, Frame, Item, Waits, Configuration}
use Rattle.linear_machine.specs.Run.{instruction_at}
use Rattle.match_stack.specs.ImagePlan.{ImagePlan}
use Rattle.match_runs.specs.Matched.{Moves}
use Rattle.match_bodies.specs.CodeSites.{Sites}
use Rattle.match_bodies.specs.ProgramImages.{IsProgramImage}
use Rattle.match_bodies.specs.Bodies.{turns_left, RepresentsAt}
use Rattle.match_bodies.specs.ConfigurationFacts.{IsWellMade, IsKnown}
use Rattle.match_bodies.specs.StepLaws.{turns_per_step}
use Rattle.match_turns.specs.FuncletEntry.{FlagsFit, FiltersBegin, BlocksBegin}

-- where the dispatcher calls a filter
abbrev pub CalledFiltersBegin : Type 0
CalledFiltersBegin =
    (t : Functions) (fs : List Funclet) (program : LinearProgram) (p : ImagePlan) (q : Sites)
    → IsProgramImage t fs program p q → FiltersBegin t fs program p q

-- and where it calls a `__finally` block
abbrev pub CalledBlocksBegin : Type 0
CalledBlocksBegin =
    (t : Functions) (fs : List Funclet) (program : LinearProgram) (p : ImagePlan) (q : Sites)
    → IsProgramImage t fs program p q → FlagsFit program → BlocksBegin t fs program p q

-- a `__finally` block above a body that waits
pub record IsCalledBlock (program : LinearProgram) (c : Configuration) : Type 0 where
  pub number : ℕ
  pub name : c.frame.body ≡ FuncletBody number
  pub funclet : LinearFunclet
  pub there : slice_get program.funclets number ≡ Some funclet
  pub flag : ℕ
  pub kind : funclet.kind ≡ funclets.Finally flag
  pub body : Frame
  pub items : List Item
  pub below : c.below ≡ Waits body ∷ items

-- continues in that body
abbrev pub ReturnsOfBlocksAreMatched : Type 0
ReturnsOfBlocksAreMatched =
    (t : Functions) (fs : List Funclet) (program : LinearProgram) (p : ImagePlan) (q : Sites)
    → IsProgramImage t fs program p q → IsWellMade program p
    → (s : State) (c : Configuration) (from : Slot)
    → RepresentsAt t fs program p q s c → IsKnown program c
    → instruction_at program c ≡ Some (instructions.Return from) → IsCalledBlock program c
    → Moves t fs program turns_per_step turns_left (RepresentsAt t fs program p q) s c
    (instructions.Return from)
