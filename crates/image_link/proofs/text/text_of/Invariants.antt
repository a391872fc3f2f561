use Rattle.std.proofs.Common.{◌≡◌, ◌++◌, ◌+◌, drop}
use Rattle.image_link.specs.Text as spec
use Rattle.image_link.proofs.text.text_of.Given as goal
use Rattle.image_link.specs.Words.{IsNear, places_from, spelled}
use Rattle.image_link.proofs.Entries.{cold_after}

abbrev pub invariant-loop-routine : goal.invariant-loop-routine
invariant-loop-routine l =
    let s = l.site in
    let begin = spec.first_routine_at s.imports s.text in
    let first = begin + spec.total l.routines in
    let cold = cold_after first l.routines l.routine-index in record {
      done : l.code.items ++ spec.routines_bytes s l.at cold (drop l.routine-index l.routines)
          ≡ spelled (spec.front_code s.imports s.text s.rdata)
          ++ spec.routines_bytes s begin first l.routines;
      parts : l.apart.items ++ spec.all_apart_bytes s l.at cold (drop l.routine-index l.routines)
          ≡ spec.all_apart_bytes s begin first l.routines;
      index : l.index ≡ l.routine-index;
      left : drop l.index l.places ≡ places_from l.at cold (drop l.routine-index l.routines);
      room : IsNear (l.at + spec.room (drop l.routine-index l.routines));
      cold_room : IsNear (cold + spec.room (drop l.routine-index l.routines));
    }
