-- What a turn of the host comes to.
use Rattle.std.specs.Prelude.{List, [], ◌∷◌}
use Rattle.seh_num.specs.declared.event.Event.{Event}
use Rattle.seh_num.specs.declared.end.RunEnd.{RunEnd}
use Rattle.seh_num.specs.declared.end.RunEnd.TheVariants as ends
use Rattle.x64_machine.specs.Effect.{State}
use Rattle.seh_walk.specs.declared.stop_cause.StopCause.{StopCause}

-- the state after it, or an end, with what it showed
pub data Turn : Type 0 where
  Continues : State → List Event → Turn
  Ends : List Event → RunEnd → Turn

-- an event before those of a turn
abbrev pub with_event : Event → Turn → Turn
with_event e (Continues s es) = Continues s (e ∷ es)
with_event e (Ends es end) = Ends (e ∷ es) end

-- the run is stopped
abbrev pub stopped : StopCause → Turn
stopped y = Ends [] (ends.Stopped y.reason y.address)

-- the events of a turn
abbrev pub shown_in : Turn → List Event
shown_in (Continues t shown) = shown
shown_in (Ends shown end) = shown
