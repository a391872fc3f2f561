-- What whole runs show.
use Rattle.std.specs.Prelude.{◌≡◌, ℕ, ◌+◌, ◌*◌, ◌≤◌, List, [], slice_get, ℤ, Some, None}
use Rattle.seh_num.specs.declared.end.RunEnd.{RunEnd}
use Rattle.seh_num.specs.Shown.{Shown}
use Rattle.x64_machine.specs.declared.context.Context.{Context}
use Rattle.x64_machine.specs.Effect.{State}
use Rattle.virtual_unwind.specs.CallerOf.{Functions}
use Rattle.host_model.specs.declared.funclet.Funclet.{Funclet}
use Rattle.host_model.specs.HostStep.{host}
use Rattle.host_model.specs.Machine.{run}
use Rattle.host_model.specs.Laws.{Covers}
use Rattle.source_meaning.specs.Laws.{IsPrefixOf}
use Rattle.source_meaning.specs.declared.ended.Ended.{Ended}
use Rattle.linear_code.specs.Program.{LinearProgram, LinearFunction}
use Rattle.linear_machine.specs.Frames.{Configuration}
use Rattle.linear_machine.specs.Run.{exec, start, seen, shown, linear_meaning}
use Rattle.match_runs.specs.Shadow.{WalkGives}
use Rattle.match_runs.specs.Shadowed.{WalkGivesShadow}
use Rattle.match_runs.specs.Comes.{Comes}
use Rattle.match_runs.specs.Ends.{run_end_of, HasRule, IsCalm}
use Rattle.match_runs.specs.Matched.{turns_ahead, StepsAreMatched}

-- a run of the machine shows these events at least; where the program has ended, the run has ended
-- so and shows nothing else
abbrev pub ShowsAll : Shown Ended → Shown RunEnd → Type 0
ShowsAll meant machine = Covers meant.events (run_end_of meant.end) machine

-- a run of the machine shows none but these events, from the first on; where it has ended, the
-- program has ended so and shows nothing else
pub record ShowsNoMore (meant : Shown Ended) (machine : Shown RunEnd) : Type 0 where
  pub shows : IsPrefixOf machine.events meant.events
  pub ends : (e : RunEnd) → machine.end ≡ Some e
      → (run_end_of meant.end ≡ Some e) × (machine.events ≡ meant.events)

-- ---- from a configuration on

-- in enough turns, with those ahead of the first step, the machine shows what so many steps show:
-- where these end among the separators of a function that has just begun, all that they show comes
-- before its call
abbrev pub RunsShowAll : Type 0
RunsShowAll =
    (t : Functions) (fs : List Funclet) (program : LinearProgram) (turns_per_step : ℕ)
    (credit : Configuration → ℕ)
    (n turns : ℕ) (s : State) (c : Configuration)
    → StepsAreMatched t fs program turns_per_step credit n s c → HasRule (exec program n c)
    → turns_per_step * n + credit c ≤ turns + turns_ahead program turns_per_step c
    → ShowsAll (shown (exec program n c)) (run t fs turns (host s) c.events)

-- in as many turns at most the machine shows no more than these
abbrev pub RunsShowNoMore : Type 0
RunsShowNoMore =
    (t : Functions) (fs : List Funclet) (program : LinearProgram) (turns_per_step : ℕ)
    (credit : Configuration → ℕ)
    (m n : ℕ) (s : State) (c : Configuration)
    → StepsAreMatched t fs program turns_per_step credit n s c → IsCalm (exec program n c) → m ≤ n
    → ShowsNoMore (shown (exec program n c)) (run t fs m (host s) c.events)

-- ---- whole programs

-- turns that show nothing, at most so many beside those ahead of `main`, lead to its beginning, and
-- so many steps of linear code are matched from there on
pub record RunBegins (t : Functions) (fs : List Funclet) (program : LinearProgram)
    (turns_per_step : ℕ)
    (credit : Configuration → ℕ) (arg : ℤ) (first : ℕ) (s : State) (n : ℕ) : Type 0 where
  pub main : LinearFunction
  pub is_main : slice_get program.functions program.main ≡ Some main
  pub turns : ℕ
  pub few : turns ≤ first + turns_ahead program turns_per_step (start program arg main)
  pub state : State
  pub comes : Comes t fs turns s [] state
  pub no_credit : credit (start program arg main) ≡ 0
  pub steps : StepsAreMatched t fs program turns_per_step credit n state (start program arg main)

-- a program's run shows all that its linear code shows
abbrev pub ProgramsShowAll : Type 0
ProgramsShowAll =
    (t : Functions) (fs : List Funclet) (program : LinearProgram) (turns_per_step : ℕ)
    (credit : Configuration → ℕ)
    (arg : ℤ) (first n turns : ℕ) (s : State)
    → RunBegins t fs program turns_per_step credit arg first s n → HasRule (seen program arg n)
    → first + turns_per_step * n ≤ turns
    → ShowsAll (linear_meaning program arg n) (run t fs turns (host s) [])

-- a program's run shows no more than its linear code
abbrev pub ProgramsShowNoMore : Type 0
ProgramsShowNoMore =
    (t : Functions) (fs : List Funclet) (program : LinearProgram) (turns_per_step : ℕ)
    (credit : Configuration → ℕ)
    (arg : ℤ) (first m n : ℕ) (s : State)
    → RunBegins t fs program turns_per_step credit arg first s n → IsCalm (seen program arg n) → m ≤
    n
    → ShowsNoMore (linear_meaning program arg n) (run t fs m (host s) [])

-- where the walk gives these callers in the first state, it gives the shadow after each number of
-- turns, up to an end; as long as the program's steps are calm
abbrev pub ProgramsWalkTheShadow : Type 0
ProgramsWalkTheShadow =
    (t : Functions) (fs : List Funclet) (program : LinearProgram) (turns_per_step : ℕ)
    (credit : Configuration → ℕ)
    (arg : ℤ) (first m n : ℕ) (s : State) (cs : List Context)
    → RunBegins t fs program turns_per_step credit arg first s n → IsCalm (seen program arg n) → m ≤
    n
    → WalkGives t s cs → (run t fs m (host s) []).end ≡ None
    → WalkGivesShadow t fs m s cs

-- linear code makes at most 16 turns for each step of a program, and 6 more: where the machine
-- makes at most 16 for each of these, and 160 before them, it makes at most 256 for each step of
-- the program, and as many again
abbrev pub TurnsAreEnough : Type 0
TurnsAreEnough = (n first : ℕ) → first ≤ 160 → first + 16 * (16 * n + 6) ≤ 256 * n + 256
