-- Walks over the stacks of a compiled image's run.
--
-- The main definitions: `PassesTheFrames`, `IsOfProgram`.
use Rattle.std.specs.Prelude.{◌≡◌, ℕ, ◌+◌, ◌≤◌, List, [], slice_get, ℤ, Some}
use Rattle.seh_num.specs.declared.end.RunEnd.{RunEnd}
use Rattle.seh_num.specs.declared.end.RunEnd.TheVariants as ends
use Rattle.x64_machine.specs.Effect.{State}
use Rattle.virtual_unwind.specs.CallerOf.{Functions}
use Rattle.host_model.specs.declared.funclet.Funclet.{Funclet}
use Rattle.host_model.specs.Loading as images
use Rattle.pe_write.specs.Program.{image_of}
use Rattle.c_checked.specs.Program.{Program}
use Rattle.linear_code.specs.Program.{LinearProgram, LinearFunction}
use Rattle.linear_machine.specs.Frames.{Configuration}
use Rattle.linear_machine.specs.Run.{start}
use Rattle.match_runs.specs.Comes.{Comes}
use Rattle.match_runs.specs.Matched.{turns_ahead}
use Rattle.image_runs.specs.MatchLaws.{most_before_main}
use Rattle.seh_ir.specs.Lowered.{lowered}
use Rattle.match_stack.specs.ImagePlan.{ImagePlan}
use Rattle.lowering_locals.specs.Agreement.{AgreeOnSet}
use Rattle.match_bodies.specs.Bodies.{turns_left}
use Rattle.match_bodies.specs.StepLaws.{turns_per_step}
use Rattle.image_link.specs.Linked.{linked}
use Rattle.image_states.specs.Plans.{functions_of, funclets_of, plan_of}
use Rattle.image_runs.specs.LiveFrames.{WalkGives}
use Rattle.image_runs.specs.RunStates.{Passes}

-- the walk gives the frames that are live in a configuration; a local that no instruction has set
-- may hold another number than linear code has there
pub record ShowsFrames (t : Functions) (fs : List Funclet) (program : LinearProgram) (p : ImagePlan)
    (s : State) (c : Configuration) : Type 0 where
  pub actual : Configuration
  pub agreement : AgreeOnSet program c actual
  pub walk : WalkGives t fs program p s actual

abbrev pub ShowsFramesOf : Program → State → Configuration → Type 0
ShowsFramesOf program =
    ShowsFrames (functions_of (lowered program)) (funclets_of (lowered program)) (lowered program)
    (plan_of (lowered program))

-- a few turns from the first one of the image's run, beside those ahead of it, `main` begins; from
-- there on, for each of so many steps of linear code, the run passes a state in which the walk
-- gives the live frames
pub record PassesTheFrames (program : Program) (arg : ℤ) (n : ℕ) : Type 0 where
  pub main : LinearFunction
  pub is_main : slice_get (lowered program).functions (lowered program).main ≡ Some main
  pub turns : ℕ
  pub few : turns ≤ most_before_main
      + turns_ahead (lowered program) turns_per_step (start (lowered program) arg main)
  pub state : State
  pub comes : Comes (functions_of (lowered program)) (funclets_of (lowered program)) turns
      (images.start (image_of (linked (lowered program))) arg) [] state
  pub passes : Passes (functions_of (lowered program)) (funclets_of (lowered program))
      (lowered program) turns_per_step turns_left (ShowsFramesOf program) n state
      (start (lowered program) arg main)

-- a return of `main`, or an exception that nobody handles: not the stack's limit, and no stop
abbrev pub IsOfProgram : RunEnd → Type 0
IsOfProgram (ends.Exit v) = Unit {0}
IsOfProgram (ends.Unhandled code) = Unit {0}
IsOfProgram (ends.StackLimit a) = ⊥
IsOfProgram (ends.OutOfTurns n) = ⊥
IsOfProgram (ends.Stopped why a) = ⊥
