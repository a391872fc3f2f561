-- Tasks that are done at once.
use Rattle.std.specs.Prelude.{◌≡◌, ℕ, suc, Bool, true, false, List, map, reverse, Option, Some}
use Rattle.std.specs.Prelude.{MatchOption}
use Rattle.seh_num.specs.declared.event.Event.{Event}
use Rattle.c_checked.specs.Expression.{Expression}
use Rattle.c_checked.specs.Program.{Program}
use Rattle.source_meaning.specs.State.{State, Value}
use Rattle.source_meaning.specs.Tasks.{Task, Eval}
use Rattle.source_machine.specs.Frames.{Place, ContinuationFrame, Next, Give, Start}
use Rattle.source_machine.specs.Machine.{Machine}
use Rattle.source_machine.specs.Runs.{after}
use Rattle.source_plans.specs.Views.{frame_of, result_of, next_of}
use Rattle.source_plans.specs.declared.frame.Completion.{Completion}
use Rattle.source_values.specs.Leading.{Leads}
use Rattle.source_steps.specs.Machines.{machine_of, state_of, shown_after}
use Rattle.source_steps.specs.declared.machine.MachineStep.{MachineStep}
use Rattle.source_steps.specs.declared.machine.Interpreter.{Interpreter}

-- steps that show nothing lead from what was to be done next to what is
abbrev pub Hastened : Program → Interpreter → Next → Interpreter → Next → Type 0
Hastened program m next m' next' =
    (es : List Event) → Leads program (machine_of m next es) (machine_of m' next' es)

-- nothing that the machine means has changed
abbrev pub Unchanged : Interpreter → Interpreter → Type 0
Unchanged m m' = (x : Next) (es : List Event) → machine_of m' x es ≡ machine_of m x es

-- a state became another by a change that may fail, and nothing else has changed
abbrev pub WrittenTo : Interpreter → (State → Option State) → Interpreter → Bool → Type 0
WrittenTo m change m' true =
    (es : List Event)
    → (st : State) × (change (state_of m es) ≡ Some st)
    × ((x : Next) → machine_of m' x es ≡ record (machine_of m x es) { state = st })
WrittenTo m change m' false = Unchanged m m'

-- such a change was made, after which so many steps are left, and gives a value
pub record MadeTo (m : Interpreter) (change : State → Option State) (m' : Interpreter)
    (left v given : ℕ)
    : Type 0 where
  pub gives : given ≡ v
  pub before : Interpreter
  pub written : WrittenTo m change before true
  pub is : m' ≡ record before { steps_left = left }

abbrev pub Made : Interpreter → (State → Option State) → Interpreter → ℕ → ℕ → Option ℕ → Type 0
Made m change m' left v given = MatchOption given (Unchanged m m') (MadeTo m change m' left v)

-- a task was done by such steps, which gave its result
abbrev pub DoneAtOnce : Program → Interpreter → Task → Place → Interpreter → Option Completion
    → Type 0
DoneAtOnce program m task p m' how =
    MatchOption how (Unchanged m m')
    (λ how. Hastened program m (Start task p) m' (Give (result_of how)))

-- ---- expressions, whatever waits

abbrev pub stack_of : Interpreter → List ContinuationFrame
stack_of m = reverse (map frame_of m.stack.items)

abbrev pub waiting : List ContinuationFrame → Machine → Machine
waiting fs m = record m { stack = fs }

-- an expression was evaluated by such steps, with so many of the meaning's left before them
pub record EvaluatedTo (program : Program) (m : Interpreter) (left : ℕ) (e : Expression) (p : Place)
    (m' : Interpreter) (v : ℕ) : Type 0 where
  pub leads : (es : List Event) (fs : List ContinuationFrame)
      → Leads program
      (waiting fs (machine_of (record m { steps_left = left }) (Start (Eval e) p) es))
      (waiting fs (machine_of m' (Give (Value v)) es))
  pub stack : stack_of m' ≡ stack_of m

abbrev pub Evaluated : Program → Interpreter → ℕ → Expression → Place → Interpreter → Option ℕ
    → Type 0
Evaluated program m left e p m' value =
    MatchOption value (Unchanged m m') (EvaluatedTo program m left e p m')

-- some steps that show nothing, and one that may show events
pub record Led (program : Program) (m m' : Machine) : Type 0 where
  pub before : ℕ
  pub silent : (after program before m).state.events ≡ m.state.events
  pub is : after program (suc before) m ≡ m'

abbrev pub Advanced : Program → Interpreter → Next → Interpreter → MachineStep → Type 0
Advanced program m next m' step =
    (es : List Event)
    → Led program (machine_of m next es)
    (machine_of m' (next_of step.next) (shown_after m' es step.shown))
