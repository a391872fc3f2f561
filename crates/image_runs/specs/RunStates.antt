-- A run of the machine that passes, for each step of linear code, a state in which something holds.
--
-- The main definition: `Passes`.
use Rattle.std.specs.Prelude.{◌≡◌, ℕ, zero, suc, ◌+◌, ◌≤◌, List, ◌++◌}
use Rattle.seh_num.specs.declared.event.Event.{Event}
use Rattle.x64_machine.specs.Effect.{State}
use Rattle.virtual_unwind.specs.CallerOf.{Functions}
use Rattle.host_model.specs.declared.funclet.Funclet.{Funclet}
use Rattle.linear_code.specs.Program.{LinearProgram}
use Rattle.linear_machine.specs.Frames.{Configuration, Seen, Running, Finished, Stuck}
use Rattle.linear_machine.specs.Run.{exec}
use Rattle.match_runs.specs.Comes.{Comes}
use Rattle.match_runs.specs.Matched.{turns_ahead}

-- linear code has not ended
abbrev pub IsRunning : Seen → Type 0
IsRunning (Running es) = Unit {0}
IsRunning (Finished e es) = ⊥
IsRunning (Stuck es) = ⊥

module _ (t : Functions) (fs : List Funclet) (program : LinearProgram) (turns_per_step : ℕ)
    (credit : Configuration → ℕ) where
  -- linear code continues by a step, and the machine by some turns, which show the same events
  pub record HasNextStep (Rest : State → Configuration → Type 0) (s : State)
      (c : Configuration) : Type 0 where
    pub turns : ℕ
    pub some : 1 ≤ turns
    pub configuration : Configuration
    pub few : turns + credit configuration + turns_ahead program turns_per_step c
        ≤ turns_per_step + credit c + turns_ahead program turns_per_step configuration
    pub state : State
    pub events : List Event
    pub comes : Comes t fs turns s events state
    pub shown : configuration.events ≡ c.events ++ events
    pub continues : (n : ℕ) → exec program (suc n) c ≡ exec program n configuration
    pub rest : Rest state configuration

  -- something holds in a state for each of n steps that linear code makes, one after another in the
  -- run
  abbrev pub Passes : (State → Configuration → Type 0) → ℕ → State → Configuration → Type 0
  Passes Holds zero s c = Holds s c
  Passes Holds (suc n) s c = Holds s c × HasNextStep (Passes Holds n) s c
