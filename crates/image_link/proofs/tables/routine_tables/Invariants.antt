use Rattle.std.proofs.Common.{◌≡◌, ◌++◌, ◌+◌, ◌*◌, ◌≤◌, length, drop}
use Rattle.image_link.specs.Tables as spec
use Rattle.image_link.specs.Words.{total, places_from}
use Rattle.image_link.proofs.Entries.{cold_after}
use Rattle.image_link.proofs.tables.routine_tables.Given as goal

abbrev pub invariant-loop-routine : goal.invariant-loop-routine
invariant-loop-routine l =
    let first = l.fn.first + total l.routines in
    let cold = cold_after first l.routines l.routine-index in record {
      infos : l.infos.items ++ spec.infos l.site l.at cold (drop l.routine-index l.routines)
          ≡ spec.infos l.site l.fn.first first l.routines;
      entries : l.ranges.items ++ spec.ranges l.site (l.xdata_at + length l.infos.items) l.at cold
          (drop l.routine-index l.routines)
          ≡ spec.ranges l.site l.xdata_at l.fn.first first l.routines;
      parts : l.fragments.items ++ spec.fragments l.site (l.xdata_at + length l.infos.items) l.at
          cold (drop l.routine-index l.routines)
          ≡ spec.fragments l.site l.xdata_at l.fn.first first l.routines;
      index : l.index ≡ l.routine-index;
      left : drop l.index l.places ≡ places_from l.at cold (drop l.routine-index l.routines);
      small : length l.infos.items + 16 * length l.fragments.items
          + spec.infos_room (drop l.routine-index l.routines) ≤ spec.infos_room l.routines;
    }
