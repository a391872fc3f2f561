-- What a turn comes to that asks a vectored handler, against what linear code continues with.
--
-- The main definitions: `EntersHandler`, `HandlerStarts`, `OutcomeOrAsks`, `ShowsOrAsks`,
-- `AskBegins`, `IsMatchedOrAsks`.
use Rattle.std.specs.Prelude.{◌≡◌, ◌⊎◌, ℕ, ◌+◌, ◌-◌, ◌*◌, ◌<◌, ◌≤◌, false, nat_lt, List, [], ◌∷◌, ◌++◌, length, slice_get, Some}
use Rattle.seh_num.specs.declared.event.Event.{Event}
use Rattle.flat_memory.specs.Memory.{number_at}
use Rattle.x64_instr.specs.declared.register.Reg.TheVariants.{Rsp}
use Rattle.x64_machine.specs.Effect.{State, register}
use Rattle.virtual_unwind.specs.CallerOf.{Functions, distance}
use Rattle.seh_walk.specs.Walk.{vectored_return}
use Rattle.host_model.specs.declared.funclet.Funclet.{Funclet}
use Rattle.host_model.specs.Turns.{Turn, Continues}
use Rattle.host_model.specs.Funclets.{arrivals}
use Rattle.source_meaning.specs.declared.depth.TheConstants.{DEEPEST}
use Rattle.linear_code.specs.declared.instruction.Instruction.{Instruction}
use Rattle.linear_code.specs.Program.{LinearProgram, LinearFunction, weight, depth_weight}
use Rattle.linear_machine.specs.Frames.{FunctionBody, body_of, Item, Store, Configuration, Seen, Next, deeper}
use Rattle.linear_machine.specs.Instructions.{begin_function, act}
use Rattle.match_stack.specs.ImagePlan.{ImagePlan}
use Rattle.match_runs.specs.Shadow.{caller_at, drop_below, started, WalkGives, KeepsShadow}
use Rattle.match_runs.specs.Comes.{Comes}
use Rattle.match_runs.specs.Matched.{separators_in, IsMatched}
use Rattle.lowering_invariants.specs.SmallNumbers.{AreSmall}
use Rattle.match_bodies.specs.CodeSites.{Sites}
use Rattle.match_bodies.specs.Bodies.{RepresentsAt, held_below, turns_left}
use Rattle.match_bodies.specs.ConfigurationFacts.{IsKnown}
use Rattle.match_bodies.specs.StepLaws.{turns_per_step}
use Rattle.match_turns.specs.CallOutcome.{begun}
use Rattle.match_turns.specs.DispatchOutcome.{LiveCallers, Represents, Outcome, with_events}

-- turns from the first byte of a name thunk to its function's first instruction at most
abbrev pub turns_to_handler : (surplus : ℕ) → ℕ
turns_to_handler surplus = 27 + 8 * surplus

module _ (t : Functions) (fs : List Funclet) (program : LinearProgram) (p : ImagePlan)
    (q : Sites) where
  -- from the first byte of its name thunk the machine comes to a function's first instruction: the
  -- exception's code and flag are its first locals, and what the stack or a register held is in the
  -- others, which linear code begins with 0
  pub record HandlerStarts (u : State) (f : ℕ) (function : LinearFunction) (arguments : List ℕ)
      (held : ℕ) (below : List Item) (store : Store) (es : List Event) : Type 0 where
    pub given : length arguments ≡ function.parameters
    pub others : List ℕ
    pub as_many : length others ≡ function.body.locals - function.parameters
    pub small : AreSmall others
    pub turns : ℕ
    pub few : turns ≤ turns_to_handler function.surplus
    pub state : State
    pub comes : Comes t fs turns u [] state
    pub begins : RepresentsAt t fs program p q state
        (begun f (arguments ++ others) (held + (function.surplus + function.data_surplus)) below
        store store.activations es)

  -- the turn comes to the name thunk of a vectored handler, below a stack pointer; the handler
  -- begins unless the depth would be too great, with more separators than its frame weighs
  pub record EntersHandler (turn : Turn) (seen : Next → Seen) (es : List Event) (left here : ℕ)
      (live : LiveCallers) : Type 0 where
    pub state : State
    pub turns : turn ≡ Continues state []
    pub handler : ℕ
    pub function : LinearFunction
    pub there : slice_get program.functions handler ≡ Some function
    pub weighs : weight function < separators_in (body_of program (FunctionBody handler)) 0
    pub arguments : List ℕ
    pub held : ℕ
    pub below : List Item
    pub store : Store
    pub few : 3 * held_below below ≤ left + 6
    pub acts : (next : Next) → seen next ≡ deeper (2 + depth_weight function) held store es
        (next (begin_function handler function arguments (held + 2) below store es))
    pub silent : arrivals state.cpu (distance t.base state.cpu.rip) 1 fs ≡ []
    -- the dispatcher has called it, which no event shows
    pub lower : register state.cpu Rsp < here
    pub returns : number_at state.memory.byte 8 (register state.cpu Rsp) ≡ vectored_return
    pub walk : WalkGives t state (caller_at state ∷ live.callers)
    pub starts : nat_lt DEEPEST (length store.activations + held + (2 + depth_weight function))
        ≡ false → IsKnown program (begin_function handler function arguments (held + 2) below store
        es) → HandlerStarts state handler function arguments (held + 2) below store es

  -- a turn of the dispatcher that may ask a vectored handler
  abbrev pub OutcomeOrAsks : Turn → (Next → Seen) → List Event → (left here : ℕ) → LiveCallers
      → Type 0
  OutcomeOrAsks turn seen es left here live =
      Outcome t fs program p q turn seen es left live ⊎ EntersHandler turn seen es left here live

  -- it shows some events before those of its outcome
  pub record ShowsOrAsks (turn : Turn) (before : List Event) (seen : Next → Seen) (es : List Event)
      (left here : ℕ) (live : LiveCallers) : Type 0 where
    pub further : Turn
    pub turns : turn ≡ with_events before further
    pub outcome : OutcomeOrAsks further seen (es ++ before) left here live

  -- a turn from here keeps the shadow where the walk continues so
  abbrev pub KeepsHere : State → LiveCallers → Type 0
  KeepsHere s live =
      (u : State) (es : List Event) → arrivals u.cpu (distance t.base u.cpu.rip) 1 fs ≡ es
      → WalkGives t u (drop_below (register u.cpu Rsp) (started s u es live.callers))
      → KeepsShadow t fs s u

  -- a step asks a vectored handler, whose function begins: what the step shows is shown first, and
  -- the turns after it may take those of the separators that the function begins with
  pub record AskBegins (most : ℕ) (s : State) (c : Configuration) (i : Instruction) : Type 0 where
    pub handler : ℕ
    pub function : LinearFunction
    pub there : slice_get program.functions handler ≡ Some function
    pub weighs : weight function < separators_in (body_of program (FunctionBody handler)) 0
    pub arguments : List ℕ
    pub given : length arguments ≡ function.parameters
    pub others : List ℕ
    pub as_many : length others ≡ function.body.locals - function.parameters
    pub small : AreSmall others
    pub held : ℕ
    pub below : List Item
    pub store : Store
    pub first : ℕ
    pub some : 1 ≤ first
    pub events : List Event
    pub middle : State
    pub shows : Comes t fs first s events middle
    pub turns : ℕ
    pub state : State
    pub comes : Comes t fs turns middle [] state
    pub soon : first + 3 * held_below below ≤ most + turns_left c
    pub few : turns ≤ turns_to_handler function.surplus
    pub acts : (next : Next) → act program i next c
        ≡ next (begin_function handler function arguments held below store (c.events ++ events))
    pub begins : RepresentsAt t fs program p q state
        (begun handler (arguments ++ others) (held + (function.surplus + function.data_surplus))
        below store store.activations (c.events ++ events))

  -- a step that may raise an exception, within so many turns
  abbrev pub IsTakenWithin : ℕ → State → Configuration → Instruction → Type 0
  IsTakenWithin most s c i =
      IsMatched t fs program most turns_left (Represents t fs program p q) s c i
      ⊎ AskBegins most s c i

  abbrev pub IsMatchedOrAsks : State → Configuration → Instruction → Type 0
  IsMatchedOrAsks s c i = IsTakenWithin turns_per_step s c i
