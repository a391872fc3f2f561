-- What a turn of the dispatcher comes to, against what linear code continues with.
--
-- The main definitions: `Represents`, `Outcome`.
use Rattle.std.specs.Prelude.{◌≡◌, ◌⊎◌, ℕ, ◌+◌, ◌≤◌, false, nat_lt, List, [], ◌∷◌, ◌++◌, length, None}
use Rattle.seh_num.specs.declared.event.Code.{Code}
use Rattle.seh_num.specs.declared.event.Event.{Event}
use Rattle.seh_num.specs.declared.end.RunEnd.TheVariants as ends
use Rattle.x64_instr.specs.declared.register.Reg.TheVariants.{Rsp}
use Rattle.x64_machine.specs.declared.context.Context.{Context}
use Rattle.x64_machine.specs.Effect.{State, register}
use Rattle.virtual_unwind.specs.Contexts.{rsp}
use Rattle.virtual_unwind.specs.CallerOf.{Functions, distance}
use Rattle.host_model.specs.declared.funclet.Funclet.{Funclet}
use Rattle.host_model.specs.Turns.{Turn, Continues, Ends}
use Rattle.host_model.specs.Funclets.{arrivals}
use Rattle.source_meaning.specs.declared.ended.Ended.TheVariants as source
use Rattle.source_meaning.specs.declared.depth.TheConstants.{DEEPEST}
use Rattle.linear_code.specs.Program.{LinearProgram}
use Rattle.linear_machine.specs.Frames.{Item, Waits, Searches, Unwinds, Store, Configuration, Seen, Finished, Next, deeper}
use Rattle.match_stack.specs.Stack.{StackItem}
use Rattle.match_stack.specs.ImagePlan.{ImagePlan}
use Rattle.match_stack.specs.DispatchStates.{IsWellFormed, host_list}
use Rattle.match_stack.specs.ItemMatches.{leaf_values}
use Rattle.match_runs.specs.Shadow.{drop_below, started, WalkGives, KeepsShadow}
use Rattle.match_runs.specs.Comes.{LeadsTo}
use Rattle.match_bodies.specs.CodeSites.{Sites}
use Rattle.match_bodies.specs.Callers.{callers}
use Rattle.match_bodies.specs.ProgramImages.{WorksAgain, IsMachineMemory}
use Rattle.match_bodies.specs.Bodies.{InBody, RepresentsAt, turns_left}
use Rattle.match_bodies.specs.ConfigurationFacts.{IsKnown}
use Rattle.match_turns.specs.FuncletEntry.{entry_turns}

-- events before those of a turn
abbrev pub with_events : List Event → Turn → Turn
with_events before (Continues s es) = Continues s (before ++ es)
with_events before (Ends es end) = Ends (before ++ es) end

-- the callers on the list from where the dispatcher walks, and the stack pointer there, above which
-- all of them are
pub record LiveCallers : Type 0 where
  pub low : ℕ
  pub callers : List Context

abbrev pub live_from : Context → List StackItem → LiveCallers
live_from c is = record { low = rsp c; callers = callers c is }

-- no body that waits has just taken over for an exception
abbrev pub NoneLanded : List Item → Type 0
NoneLanded [] = Unit {0}
NoneLanded (Waits f ∷ below) = (f.landed ≡ None) × NoneLanded below
NoneLanded (Searches exception resumption asked ∷ below) = NoneLanded below
NoneLanded (Unwinds rest target ∷ below) = NoneLanded below

module _ (t : Functions) (fs : List Funclet) (program : LinearProgram) (p : ImagePlan)
    (q : Sites) where
  -- within an operation that is made again: linear code is at its instruction, the machine
  -- at the instruction that had faulted, with the operands in its registers
  pub record WorksOn (s : State) (c : Configuration) : Type 0 where
    pub well_formed : IsWellFormed (host_list p c.store) s
    pub memory : IsMachineMemory t fs program p q s.memory c.store.memory
    pub body : InBody t fs program p q s c
    pub again : WorksAgain t fs program p q c.frame
        (leaf_values (p.leaf c.frame.body) c.frame.body body.acts) s.cpu

  -- an instruction begins, or, after a fault that was continued, the machine is within the
  -- operation that linear code makes again
  abbrev pub Represents : State → Configuration → Type 0
  Represents s c = RepresentsAt t fs program p q s c ⊎ WorksOn s c

  -- what the walk gives after it, of the callers before it, wherever RSP was below them
  abbrev pub WalkContinues : LiveCallers → State → List Event → Type 0
  WalkContinues live u es =
      (s : State) → register s.cpu Rsp ≤ live.low
      → WalkGives t u (drop_below (register u.cpu Rsp) (started s u es live.callers))

  -- after these events it comes to a body that continues, in a configuration with no more than so
  -- many turns left
  pub record ContinuesAs (turn : Turn) (seen : Next → Seen) (es : List Event) (left : ℕ)
      (live : LiveCallers) : Type 0 where
    pub state : State
    pub events : List Event
    pub turns : turn ≡ Continues state events
    pub configuration : Configuration
    pub few : turns_left configuration ≤ left
    pub acts : (next : Next) → seen next ≡ next configuration
    pub shown : configuration.events ≡ es ++ events
    pub silent : arrivals state.cpu (distance t.base state.cpu.rip) 1 fs ≡ []
    pub walk : WalkContinues live state []
    pub leads : IsKnown program configuration
        → LeadsTo t fs entry_turns Represents state configuration

  -- or to a funclet, which begins unless the depth would be too great
  pub record EntersFunclet (turn : Turn) (seen : Next → Seen) (es : List Event) (left : ℕ)
      (live : LiveCallers) : Type 0 where
    pub state : State
    pub event : Event
    pub turns : turn ≡ Continues state (event ∷ [])
    pub configuration : Configuration
    pub more : ℕ
    pub held : ℕ
    pub store : Store
    pub few : nat_lt DEEPEST (length store.activations + held + more) ≡ false
        → turns_left configuration ≤ left
    pub acts : (next : Next) → seen next ≡ deeper more held store es (next configuration)
    pub shown : configuration.events ≡ es ++ event ∷ []
    pub arrives : arrivals state.cpu (distance t.base state.cpu.rip) 1 fs ≡ event ∷ []
    pub walk : WalkContinues live state (event ∷ [])
    pub leads : nat_lt DEEPEST (length store.activations + held + more) ≡ false
        → IsKnown program configuration → LeadsTo t fs entry_turns Represents state configuration

  -- or nobody handles the exception
  pub record EndsRun (turn : Turn) (seen : Next → Seen) (es : List Event) : Type 0 where
    pub code : Code
    pub turns : turn ≡ Ends [] (ends.Unhandled code)
    pub acts : (next : Next) → seen next ≡ Finished (source.Unhandled code) es

  -- a turn of the dispatcher comes to a body that continues, enters a funclet or ends the run.
  -- Where RSP was no higher before it than where the walk began (`LiveCallers`), the walk gives the
  -- callers that are live then, and past a funclet's first byte its own (`WalkContinues`).
  abbrev pub Outcome : Turn → (Next → Seen) → List Event → ℕ → LiveCallers → Type 0
  Outcome turn seen es left live =
      ContinuesAs turn seen es left live ⊎ (EntersFunclet turn seen es left live
      ⊎ EndsRun turn seen es)

  -- a turn shows some events before those of its outcome
  pub record Shows (turn : Turn) (before : List Event) (seen : Next → Seen) (es : List Event)
      (left : ℕ) (live : LiveCallers) : Type 0 where
    pub further : Turn
    pub turns : turn ≡ with_events before further
    pub outcome : Outcome further seen (es ++ before) left live

  -- a turn from here keeps the shadow where the walk continues with these callers
  abbrev pub KeepsWith : State → LiveCallers → Type 0
  KeepsWith s live =
      (u : State) (es : List Event) → arrivals u.cpu (distance t.base u.cpu.rip) 1 fs ≡ es
      → WalkContinues live u es → KeepsShadow t fs s u
