use Rattle.std.proofs.Common.{◌≡◌, ◌++◌, ◌+◌, drop}
use Rattle.image_link.specs.Text as spec
use Rattle.image_link.specs.Words.{IsNear, places_from}
use Rattle.image_link.proofs.place.places_at.Given as goal

abbrev pub invariant-loop-routine : goal.invariant-loop-routine
invariant-loop-routine l = record {
  bounds : l.bounds.items ++ spec.bounds l.at (drop l.routine-index l.routines)
      ≡ spec.bounds l.fn.start l.routines;
  each : l.each.items ++ places_from l.at l.end (drop l.routine-index l.routines)
      ≡ places_from l.fn.start l.fn.cold l.routines;
  end : l.end + spec.cold_total (drop l.routine-index l.routines)
      ≡ l.fn.cold + spec.cold_total l.routines;
  index : l.index ≡ l.routine-index;
  room : IsNear (l.at + spec.room (drop l.routine-index l.routines));
  cold_room : IsNear (l.end + spec.room (drop l.routine-index l.routines));
}
