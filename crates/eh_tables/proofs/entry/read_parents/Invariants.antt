use Rattle.std.proofs.Common.{◌≡◌, ◌≤◌, ◌-◌, length}
use Rattle.eh_tables.specs.Words.{onto, parents}
use Rattle.eh_tables.proofs.entry.read_parents.Given as goal

abbrev pub invariant-loop-parent : goal.invariant-loop-parent
invariant-loop-parent l = record {
  room : length l.parents.items ≤ 31;
  same : onto l.parents.items (parents (31 - length l.parents.items) l.image l.index l.parent)
      ≡ parents 31 l.image l.index l.fn.first;
}

abbrev pub decreases-loop-parent : goal.decreases-loop-parent
decreases-loop-parent l = 31 - length l.parents.items
