-- One step of a printed walk, by what the walk finds.
use Rattle.std.specs.Prelude.{List, [], option_map, Option, Some, None, Result, Ok, Err}
use Rattle.seh_num.specs.declared.event.Event.{Event}
use Rattle.seh_num.specs.declared.event.Event.TheVariants as events
use Rattle.virtual_unwind.specs.CallerOf.{Functions}
use Rattle.seh_walk.specs.declared.stop_cause.StopCause.{StopCause}
use Rattle.seh_walk.specs.declared.walk.WalkState.{WalkState}
use Rattle.seh_walk.specs.Walk.{Visited, Over, Past, Frame, Broken}
use Rattle.seh_walk.specs.Controls.{number_at}
use Rattle.seh_dispatch.specs.FuncletLists.{listed}

-- the state that the walk continues from; at its end, what stops it, if anything does
abbrev pub followed : Visited → Result WalkState (Option StopCause)
followed Over = Err None
followed (Past u) = Ok u
followed (Frame f u) = Ok u
followed (Broken y) = Err (Some y)

-- the function of a frame whose control address is in a row of the image's names
abbrev pub shown_at : Functions → WalkState → Visited → List Event
shown_at t w Over = []
shown_at t w (Past u) = []
shown_at t w (Frame f u) = listed (option_map events.At (number_at t w.context.rip))
shown_at t w (Broken y) = []
