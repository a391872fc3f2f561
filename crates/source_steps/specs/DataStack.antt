-- What the machine does with the data stack, which may end the run.
use Rattle.std.specs.Prelude.{◌≡◌, ℕ, false, List, ◌++◌, length, replicate, Option, Some, None}
use Rattle.seh_num.specs.declared.event.Event.{Event}
use Rattle.c_operations.specs.Performed.{OperationResult}
use Rattle.c_checked.specs.declared.function.StackedParameter.{StackedParameter}
use Rattle.c_checked.specs.Program.{DataFrame, Function, Program}
use Rattle.source_meaning.specs.State.{with_activation}
use Rattle.source_meaning.specs.Tasks.{DataPart, part_of}
use Rattle.source_meaning.specs.Expressions.{no_exception}
use Rattle.source_machine.specs.Frames.{Next, Plan, Push, EndsCall, Proceed}
use Rattle.source_machine.specs.Machine.{Machine, at_state, follow, over, stored, brought, opened}
use Rattle.source_plans.specs.Views.{finish_of}
use Rattle.source_plans.specs.declared.frame.Finish.{Finish}
use Rattle.source_steps.specs.Machines.{machine_of}
use Rattle.source_steps.specs.declared.machine.Interpreter.{Interpreter}

-- the rest, unless the run is over
abbrev pub unless_over : Option Finish → (Machine → Machine) → Machine → Machine
unless_over None go m = go m
unless_over (Some how) go m = over m (finish_of how)

-- what follows where an activation has begun, of a function with this surplus, and what the
-- activation has of the data stack
abbrev pub after_begin : Function → ℕ → Option DataPart → (activation : ℕ) → Plan
after_begin f surplus part k =
    Push (EndsCall k surplus part) (Proceed f.body (record {
      activation = k;
      data_part = part;
      exception = no_exception;
      abnormal = false;
    }))

-- an activation begins, after what it counts
abbrev pub activated : Program → Machine → ℕ → Function → List ℕ → ℕ → Machine
activated program m number f vs surplus =
    let n = length m.state.frames in
    opened program f.data_frame n (after_begin f surplus (part_of f.data_frame) n)
    (at_state m (with_activation number (vs ++ replicate (length f.locals) 0) m.state))

-- an operation of the data stack was performed, and what it comes to
abbrev pub Stored : Interpreter → OperationResult → Interpreter → Option Finish → Type 0
Stored m r m' how =
    (go : Machine → Machine) (x : Next) (es : List Event)
    → stored (machine_of m x es) r go ≡ unless_over how go (machine_of m' x es)

-- parameters were brought to where they stand
abbrev pub Brought : Program → Interpreter → (base : ℕ) → List StackedParameter → (activation : ℕ)
    → Interpreter → Option Finish → Type 0
Brought program m base ps k m' how =
    (plan : Plan) (x : Next) (es : List Event)
    → brought program base ps k plan (machine_of m x es)
    ≡ unless_over how (λ m. follow m plan) (machine_of m' x es)

-- an activation's part of the data stack was begun
abbrev pub Opened : Program → Interpreter → Option DataFrame → (activation : ℕ) → Interpreter
    → Option Finish → Type 0
Opened program m frame k m' how =
    (plan : Plan) (x : Next) (es : List Event)
    → opened program frame k plan (machine_of m x es)
    ≡ unless_over how (λ m. follow m plan) (machine_of m' x es)
