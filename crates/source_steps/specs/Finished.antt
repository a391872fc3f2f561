-- What follows an operation that was made, whose memory the machine has, and a result, whose frame
-- was taken off.
use Rattle.std.specs.Prelude.{ℕ, false, Some}
use Rattle.c_operations.specs.declared.operation.Operation.{Operation}
use Rattle.source_operations.specs.declared.performing.Performed.{Performed}
use Rattle.source_operations.specs.declared.performing.Performed.TheVariants as performed
use Rattle.source_meaning.specs.declared.ended.Ended.TheVariants.{Undefined}
use Rattle.source_meaning.specs.State.{Result, Value, End}
use Rattle.source_meaning.specs.Tasks as tasks
use Rattle.source_machine.specs.Frames as frames
use Rattle.source_machine.specs.Frames.{Place, ContinuationFrame, Sequel, Give, Start, Push}
use Rattle.source_machine.specs.Machine.{Machine, with_next, follow, over, outside, resumed}

abbrev pub operation_finished : Machine → Operation → ℕ → ℕ → Place → Performed → Machine
operation_finished m o a b p (performed.Gives v) = with_next m (Give (Value v))
operation_finished m o a b p (performed.Raises code access) =
    follow m (Push (Sequel (frames.Retries o a b p))
    (Start (tasks.Raise (record { code = code.0; flag = false; access = access })) p))
operation_finished m o a b p (performed.Undefined at) = over m (End (Some (Undefined at)))

-- a frame's result, where the frame's handler is still there
abbrev pub resumed_from : Machine → ContinuationFrame → Result → Machine
resumed_from m f how = resumed (record m { handlers = outside f m.handlers }) f how
