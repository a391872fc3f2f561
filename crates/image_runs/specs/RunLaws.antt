-- What is claimed of the runs of images of sound programs.
use Rattle.std.specs.Prelude.{◌≡◌, ℕ, ◌+◌, ◌*◌, ◌≤◌, true, List, [], slice_get, ℤ, Some}
use Rattle.x64_machine.specs.Effect.{State}
use Rattle.virtual_unwind.specs.CallerOf.{Functions}
use Rattle.host_model.specs.declared.funclet.Funclet.{Funclet}
use Rattle.host_model.specs.HostStep.{host}
use Rattle.host_model.specs.Machine.{run}
use Rattle.c_checked.specs.Program.{Program}
use Rattle.c_checked.specs.Sound.{IsSound}
use Rattle.source_meaning.specs.Meaning.{meaning, Calm}
use Rattle.linear_code.specs.declared.instruction.Instruction.{Instruction}
use Rattle.linear_code.specs.Program.{LinearFunction}
use Rattle.linear_machine.specs.Frames.{Configuration}
use Rattle.linear_machine.specs.Run.{instruction_at}
use Rattle.match_stack.specs.ImagePlan.{ImagePlan}
use Rattle.seh_ir.specs.Lowered.{lowered}
use Rattle.lowering_follows.specs.StepsPerTurn.{steps_per_turn_of}
use Rattle.lowering_locals.specs.Reads.{ReadsNoUnset}
use Rattle.lowering_locals.specs.Agreement.{AgreeOnSet}
use Rattle.match_runs.specs.Laws.{ShowsAll, ShowsNoMore}
use Rattle.match_runs.specs.Matched.{Simulates}
use Rattle.match_bodies.specs.CodeSites.{Sites}
use Rattle.match_bodies.specs.Bodies.{turns_left}
use Rattle.match_bodies.specs.ConfigurationFacts.{IsKnown, KnownNext}
use Rattle.match_bodies.specs.StepLaws.{turns_per_step}
use Rattle.image_runs.specs.SoundImages.{IsSoundImage}
use Rattle.image_runs.specs.MainStart.{MainBegins}
use Rattle.image_runs.specs.AgreementStates.{RepresentsWhereSet}

-- what the step laws ask of a configuration holds of the actual one, and after each step
pub record IsKnownAgreeing (program : Program) (d : Configuration) : Type 0 where
  pub known : IsKnown (lowered program) d
  pub next : (i : Instruction) → instruction_at (lowered program) d ≡ Some i
      → KnownNext (lowered program) d i

abbrev pub AgreeingAreKnown : Type 0
AgreeingAreKnown =
    (program : Program) → IsSound program → ReadsNoUnset (lowered program)
    → (c d : Configuration) → AgreeOnSet (lowered program) c d → IsKnownAgreeing program d

-- the machine keeps representing the configuration where its locals are set
abbrev pub AgreementSimulates : Type 0
AgreementSimulates =
    (t : Functions) (fs : List Funclet) (program : Program) (p : ImagePlan) (q : Sites)
    → IsSound program → ReadsNoUnset (lowered program) → IsSoundImage t fs (lowered program) p q
    → Simulates t fs (lowered program) turns_per_step turns_left
    (λ n. RepresentsWhereSet t fs (lowered program) p q)

-- in 256 n + 256 turns the machine shows what the program shows within n steps, and has ended as it
-- ends
abbrev pub ImagesShowAll : Type 0
ImagesShowAll =
    (t : Functions) (fs : List Funclet) (program : Program) (p : ImagePlan) (q : Sites)
    → IsSound program → ReadsNoUnset (lowered program) → IsSoundImage t fs (lowered program) p q
    → (arg : ℤ) (main : LinearFunction) (s : State)
    → slice_get (lowered program).functions (lowered program).main ≡ Some main
    → MainBegins t fs (lowered program) p q arg main s → (n : ℕ)
    → ShowsAll (meaning program arg n) (run t fs (256 * n + 256) (host s) [])

-- in m turns it shows no more than (m + 1) * K steps show, where these are calm, and ends only as
-- they end
abbrev pub ImagesShowNoMore : Type 0
ImagesShowNoMore =
    (t : Functions) (fs : List Funclet) (program : Program) (p : ImagePlan) (q : Sites)
    → IsSound program → ReadsNoUnset (lowered program) → IsSoundImage t fs (lowered program) p q
    → (arg : ℤ) (main : LinearFunction) (s : State)
    → slice_get (lowered program).functions (lowered program).main ≡ Some main
    → MainBegins t fs (lowered program) p q arg main s
    → (m n : ℕ) → (m + 1) * steps_per_turn_of program ≤ n → Calm program arg n ≡ true
    → ShowsNoMore (meaning program arg n) (run t fs m (host s) [])
