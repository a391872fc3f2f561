-- What whole runs of the machine show of a program whose linear code they match, step by step.
use Rattle.std.specs.Prelude.{◌≡◌, ℕ, ◌+◌, ◌*◌, ◌≤◌, true, List, [], ℤ, None}
use Rattle.x64_machine.specs.declared.context.Context.{Context}
use Rattle.x64_machine.specs.Effect.{State}
use Rattle.virtual_unwind.specs.CallerOf.{Functions}
use Rattle.host_model.specs.declared.funclet.Funclet.{Funclet}
use Rattle.host_model.specs.HostStep.{host}
use Rattle.host_model.specs.Machine.{run}
use Rattle.c_checked.specs.Program.{Program}
use Rattle.c_checked.specs.Sound.{IsSound}
use Rattle.source_meaning.specs.Meaning.{meaning, Calm}
use Rattle.linear_machine.specs.Frames.{Configuration}
use Rattle.seh_ir.specs.Lowered.{lowered}
use Rattle.lowering_follows.specs.StepsPerTurn.{steps_per_turn_of}
use Rattle.match_runs.specs.Shadow.{WalkGives}
use Rattle.match_runs.specs.Shadowed.{WalkGivesShadow}
use Rattle.match_runs.specs.Laws.{RunBegins, ShowsAll, ShowsNoMore}

-- turns of the machine for a step of linear code, and before `main`
abbrev pub turns_per_step : ℕ
turns_per_step = 16

-- turns before `main` begins, at most
abbrev pub most_before_main : ℕ
most_before_main = 160

-- in 256 n + 256 turns the machine shows what the program shows within n steps, and has ended as it
-- ends
abbrev pub MatchedRunsShowAll : Type 0
MatchedRunsShowAll =
    (t : Functions) (fs : List Funclet) (program : Program) → IsSound program
    → (credit : Configuration → ℕ) (arg : ℤ) (first n : ℕ) (s : State)
    → RunBegins t fs (lowered program) turns_per_step credit arg first s (16 * n + 6)
    → first ≤ most_before_main
    → ShowsAll (meaning program arg n) (run t fs (256 * n + 256) (host s) [])

-- in m turns it shows no more than the program shows within (m + 1) * K steps, where these are
-- calm, and ends only as it ends
abbrev pub MatchedRunsShowNoMore : Type 0
MatchedRunsShowNoMore =
    (t : Functions) (fs : List Funclet) (program : Program) → IsSound program
    → (credit : Configuration → ℕ) (arg : ℤ) (first m n : ℕ) (s : State)
    → RunBegins t fs (lowered program) turns_per_step credit arg first s m → (m + 1) *
    steps_per_turn_of program ≤ n
    → Calm program arg n ≡ true
    → ShowsNoMore (meaning program arg n) (run t fs m (host s) [])

-- after m turns, where the run has not ended by then, the walk gives the shadow, if it does in the
-- first state
abbrev pub MatchedRunsWalkTheShadow : Type 0
MatchedRunsWalkTheShadow =
    (t : Functions) (fs : List Funclet) (program : Program) → IsSound program
    → (credit : Configuration → ℕ) (arg : ℤ) (first m n : ℕ) (s : State) (cs : List Context)
    → RunBegins t fs (lowered program) turns_per_step credit arg first s m → (m + 1) *
    steps_per_turn_of program ≤ n
    → Calm program arg n ≡ true → WalkGives t s cs → (run t fs m (host s) []).end ≡ None
    → WalkGivesShadow t fs m s cs
