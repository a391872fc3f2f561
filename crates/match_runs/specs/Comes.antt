-- Turns of the machine one after another.
--
-- The main definition: `Comes`.
use Rattle.std.specs.Prelude.{◌≡◌, ℕ, zero, suc, ◌==◌, ◌≤◌, false, List, [], ◌++◌}
use Rattle.seh_num.specs.declared.event.Event.{Event}
use Rattle.x64_machine.specs.Effect.{State}
use Rattle.virtual_unwind.specs.CallerOf.{Functions}
use Rattle.host_model.specs.declared.funclet.Funclet.{Funclet}
use Rattle.host_model.specs.Turns.{Continues}
use Rattle.host_model.specs.HostStep.{turn}
use Rattle.linear_machine.specs.Frames.{Configuration}
use Rattle.match_runs.specs.Shadow.{KeepsShadow}

-- a run has not ended in this state
abbrev pub IsLive : State → Type 0
IsLive s = (s.cpu.rip == 0) ≡ false

-- a live state makes a turn, which shows the first of these events and keeps the shadow; the rest
-- comes after it
pub record Turns (t : Functions) (fs : List Funclet) (s : State) (events : List Event)
    (Rest : List Event → State → Type 0) : Type 0 where
  pub live : IsLive s
  pub state : State
  pub first : List Event
  pub others : List Event
  pub turns : turn t fs s ≡ Continues state first
  pub shadow : KeepsShadow t fs s state
  pub whole : events ≡ first ++ others
  pub rest : Rest others state

-- so many turns lead from a state to another, and show these events
abbrev pub Comes : Functions → List Funclet → ℕ → State → List Event → State → Type 0
Comes t fs zero s events u = (events ≡ []) × (s ≡ u)
Comes t fs (suc n) s events u = Turns t fs s events (λ others v. Comes t fs n v others u)

-- a state leads, in at most so many turns that show nothing, to one that represents a configuration
pub record LeadsTo (t : Functions) (fs : List Funclet) (most : ℕ)
    (Represents : State → Configuration → Type 0) (s : State) (c : Configuration) : Type 0 where
  pub turns : ℕ
  pub few : turns ≤ most
  pub state : State
  pub comes : Comes t fs turns s [] state
  pub is_there : Represents state c
