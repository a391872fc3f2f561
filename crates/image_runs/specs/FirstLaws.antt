-- What is claimed of the first state of a compiled program's image.
use Rattle.std.specs.Prelude.{◌≡◌, ◌≤◌, slice_get, ℤ, Some}
use Rattle.host_model.specs.Loading.{start}
use Rattle.pe_write.specs.Program.{image_of}
use Rattle.linear_code.specs.Program.{LinearProgram, LinearFunction, depth_weight}
use Rattle.source_meaning.specs.declared.depth.TheConstants.{DEEPEST}
use Rattle.linear_machine.specs.Run as linear
use Rattle.image_link.specs.Linked.{linked}
use Rattle.lowering_invariants.specs.Ready.{CanContinue}
use Rattle.match_bodies.specs.ConfigurationFacts.{IsWellMade}
use Rattle.image_states.specs.Plans.{functions_of, funclets_of, plan_of, sites_of}
use Rattle.image_states.specs.Compiled.{HasWholeImage}
use Rattle.image_states.specs.StartLaws.{HasBytes}
use Rattle.image_runs.specs.MainStart.{IsFirst, MainBegins}

-- `main` is called there
abbrev pub FirstStatesStart : Type 0
FirstStatesStart =
    (program : LinearProgram) → HasWholeImage program → HasBytes program → (arg : ℤ)
    → IsFirst (functions_of program) (funclets_of program) program (plan_of program)
    (sites_of program) arg (start (image_of (linked program)) arg)

-- and begins in a few turns
abbrev pub MainsBegin : Type 0
MainsBegin =
    (program : LinearProgram) → HasWholeImage program → HasBytes program
    → IsWellMade program (plan_of program)
    → (arg : ℤ) (main : LinearFunction) → slice_get program.functions program.main ≡ Some main
    → depth_weight main ≤ DEEPEST → CanContinue program (linear.start program arg main)
    → MainBegins (functions_of program) (funclets_of program) program (plan_of program)
    (sites_of program) arg main (start (image_of (linked program)) arg)
