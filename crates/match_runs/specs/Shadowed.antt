-- The states of a run, each with the run's shadow there.
--
-- The main definitions: `shadowed`, `WalkGivesShadow`.
use Rattle.std.specs.Prelude.{◌≡◌, ℕ, zero, suc, ◌==◌, Bool, true, false, List, [], ◌∷◌, Option, Some, None}
use Rattle.x64_machine.specs.declared.context.Context.{Context}
use Rattle.x64_machine.specs.Effect.{State}
use Rattle.virtual_unwind.specs.CallerOf.{Functions}
use Rattle.host_model.specs.declared.funclet.Funclet.{Funclet}
use Rattle.host_model.specs.Turns.{Turn, Continues, Ends}
use Rattle.host_model.specs.HostStep.{turn}
use Rattle.match_runs.specs.Shadow.{caller_at, shadow_after, WalkGives}

-- a state with the shadow beside it
pub record Shadowed : Type 0 where
  pub state : State
  pub shadow : List Context

-- a run begins at the first byte of a routine
abbrev pub first_shadow : State → List Context
first_shadow s = caller_at s ∷ []

-- a turn that ends the run leads to no state
abbrev pub by_turn : Functions → List Funclet → (State → List Context → Option Shadowed) → State
    → List Context → Turn → Option Shadowed
by_turn t fs rest s cs (Continues u es) = rest u (shadow_after t fs s u cs)
by_turn t fs rest s cs (Ends es end) = None

-- nor does a state whose run is over
abbrev pub unless_over : Option Shadowed → Bool → Option Shadowed
unless_over next true = None
unless_over next false = next

-- the state after m turns, with the list that began as `caller_at` of the first state
unfoldable pub shadowed : ℕ → Functions → List Funclet → State → List Context → Option Shadowed
shadowed zero t fs s cs = Some (record { state = s; shadow = cs })
shadowed (suc m) t fs s cs =
    unless_over (by_turn t fs (shadowed m t fs) s cs (turn t fs s)) (s.cpu.rip == 0)

-- m turns lead to a state, and the walk from there gives exactly the shadow, entry by entry, and
-- then RIP 0
pub record WalkGivesShadow (t : Functions) (fs : List Funclet) (m : ℕ) (s : State)
    (cs : List Context) : Type 0 where
  pub there : Shadowed
  pub comes : shadowed m t fs s cs ≡ Some there
  pub walk : WalkGives t there.state there.shadow
