use Rattle.std.proofs.Common.{◌≡◌, ◌++◌, ◌+◌, map, drop}
use Rattle.image_link.specs.Text as spec
use Rattle.image_link.specs.Words.{IsNear}
use Rattle.image_link.proofs.place.sizes_of.Given as goal

abbrev pub invariant-loop-routine : goal.invariant-loop-routine
invariant-loop-routine l = record {
  entries : l.entries.items ++ map spec.entry_size (drop l.routine-index l.routines)
      ≡ map spec.entry_size l.routines;
  total : l.total + spec.total (drop l.routine-index l.routines) ≡ spec.total l.routines;
  room : IsNear (l.total + spec.room (drop l.routine-index l.routines));
}
