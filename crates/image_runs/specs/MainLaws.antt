-- What is claimed of the beginning of a run.
use Rattle.std.specs.Prelude.{◌≡◌, ◌≤◌, List, slice_get, ℤ, Some}
use Rattle.x64_machine.specs.Effect.{State}
use Rattle.virtual_unwind.specs.CallerOf.{Functions}
use Rattle.host_model.specs.declared.funclet.Funclet.{Funclet}
use Rattle.linear_code.specs.Program.{LinearProgram, LinearFunction, weight, depth_weight}
use Rattle.source_meaning.specs.declared.depth.TheConstants.{DEEPEST}
use Rattle.linear_machine.specs.Run.{start}
use Rattle.template_code.specs.declared.layout.TheConstants.{MOST_WEIGHT}
use Rattle.match_stack.specs.ImagePlan.{ImagePlan}
use Rattle.lowering_invariants.specs.Ready.{CanContinue}
use Rattle.match_bodies.specs.CodeSites.{Sites}
use Rattle.match_bodies.specs.ProgramImages.{IsProgramImage}
use Rattle.match_bodies.specs.ConfigurationFacts.{IsWellMade}
use Rattle.image_runs.specs.MainStart.{IsFirst, MainBegins}

-- where linear code begins at an instruction of a `main` whose frame the stack has room for, and
-- that isn't too deep, the machine comes there
abbrev pub MainIsBegun : Type 0
MainIsBegun =
    (t : Functions) (fs : List Funclet) (program : LinearProgram) (p : ImagePlan) (q : Sites)
    → IsProgramImage t fs program p q → IsWellMade program p
    → (arg : ℤ) (main : LinearFunction) (s : State)
    → slice_get program.functions program.main ≡ Some main → weight main ≤ MOST_WEIGHT
    → depth_weight main ≤ DEEPEST
    → CanContinue program (start program arg main)
    → IsFirst t fs program p q arg s → MainBegins t fs program p q arg main s
