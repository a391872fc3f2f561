-- What a turn of the host keeps.
use Rattle.std.specs.Prelude.{◌≡◌, ℕ, None, List}
use Rattle.seh_num.specs.declared.event.Event.{Event}
use Rattle.flat_memory.specs.Memory.{Memory}
use Rattle.x64_machine.specs.Effect.{State}
use Rattle.virtual_unwind.specs.CallerOf.{Functions}
use Rattle.seh_records.specs.declared.dispatch.DispatchRecord.{DispatchRecord}
use Rattle.seh_records.specs.Record.{misplaced, placed}
use Rattle.host_model.specs.declared.funclet.Funclet.{Funclet}
use Rattle.host_model.specs.Turns.{Continues}
use Rattle.host_model.specs.HostStep.{Live, turn, after}
use Rattle.x64_decoded.specs.Fixed.{KeepsFixed}

-- a record is placed in bytes that may be written
abbrev pub PlacingKeepsFixed : Type 0
PlacingKeepsFixed =
    (m : Memory) (at : ℕ) (r : DispatchRecord) → misplaced m at ≡ None
    → KeepsFixed m (placed m at r)

-- a turn that continues
abbrev pub TurnsKeepFixed : Type 0
TurnsKeepFixed =
    (t : Functions) (fs : List Funclet) (s u : State) (shown : List Event)
    → turn t fs s ≡ Continues u shown → KeepsFixed s.memory u.memory

-- a host that lives after a turn
abbrev pub HostsKeepFixed : Type 0
HostsKeepFixed =
    (t : Functions) (fs : List Funclet) (s u : State) → after (turn t fs s) ≡ Live u
    → KeepsFixed s.memory u.memory
