-- What the code's machine represents, with what was shown.
use Rattle.std.specs.Prelude.{◌≡◌, List, [], ◌∷◌, ◌++◌, map, reverse, Result}
use Rattle.std.specs.Prelude.{IfOk}
use Rattle.seh_num.specs.declared.event.Event.{Event}
use Rattle.x64_memory.specs.PageMaps.{memory_of}
use Rattle.source_meaning.specs.State.{State, walk_events}
use Rattle.source_machine.specs.Frames as frames
use Rattle.source_machine.specs.Machine.{Machine}
use Rattle.source_steps.specs.declared.machine.Interpreter.{Interpreter}
use Rattle.source_steps.specs.Activations.{frames_of}
use Rattle.source_steps.specs.Functions.{numbers_of}
use Rattle.source_plans.specs.Views.{handler_of, frame_of, next_of}
use Rattle.source_plans.specs.declared.frame.Next.{Next as Next'}
use Rattle.source_steps.specs.declared.machine.MachineStep.{MachineStep}
use Rattle.source_steps.specs.declared.machine.StepEvents.{StepEvents}
use Rattle.source_steps.specs.declared.machine.StepEvents.TheVariants.{Nothing, One, Walk}

abbrev pub state_of : Interpreter → List Event → State
state_of m es =
    record {
      steps_left = m.steps_left;
      memory = memory_of m.memory;
      frames = frames_of m.activations;
      functions = numbers_of m.functions;
      held = m.held;
      events = es;
      vectored = m.vectored;
    }

-- with what is done next
abbrev pub machine_of : Interpreter → frames.Next → List Event → Machine
machine_of m next es =
    record {
      state = state_of m es;
      handlers = map handler_of m.handlers.items;
      stack = reverse (map frame_of m.stack.items);
      next = next;
    }

-- the events after a step that shows these; a walk shows the functions that the machine has
abbrev pub shown_after : Interpreter → List Event → StepEvents → List Event
shown_after m es Nothing = es
shown_after m es (One e) = es ++ e ∷ []
shown_after m es Walk = es ++ walk_events (reverse (numbers_of m.functions))

-- a machine became another by a change, which shows nothing, and this is done next
abbrev pub Moved : Interpreter → Interpreter → (Machine → Machine) → Next' → Type 0
Moved m m' change next =
    (x : frames.Next) (es : List Event)
    → change (machine_of m x es) ≡ machine_of m' (next_of next) es

-- the same, where the change may show events
abbrev pub Showed : Interpreter → Interpreter → (Machine → Machine) → MachineStep → Type 0
Showed m m' change step =
    (x : frames.Next) (es : List Event)
    → change (machine_of m x es) ≡ machine_of m' (next_of step.next) (shown_after m' es step.shown)

-- where a change moved a machine, the step shows that change and no events
abbrev pub ShowsNothing : {E : Type 0} → Result Next' E → Result MachineStep E → Type 0
ShowsNothing next step =
    (m m' : Interpreter) (change : Machine → Machine)
    → IfOk next (Moved m m' change) → IfOk step (Showed m m' change)
