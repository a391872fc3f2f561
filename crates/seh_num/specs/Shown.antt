-- What a run shows.
--
-- `RunEnd`: how a run of an image ended.
--
-- `Event`: what a run shows: a number that was put, a raise, a filter's begin, its answer, a
-- finally block's begin, a landing.
--
-- The main definition: `Shown`.
use Rattle.std.specs.Prelude.{List, Option}
use Rattle.seh_num.specs.declared.event.Event.{Event}

-- the events of a run so far, and its end, if it has one: programs and images have their own ends
pub record Shown (End : Type 0) : Type 0 where
  pub events : List Event
  pub end : Option End
