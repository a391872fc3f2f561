use Rattle.std.proofs.Common.{◌≤◌, ◌-◌, length}
use Rattle.eh_index.specs.Indexes.{EndBy}
use Rattle.eh_index.proofs.filling.next_above.Given as goal

abbrev pub invariant-loop-index : goal.invariant-loop-index
invariant-loop-index l = record {
  within : l.index ≤ length l.tables.ranges;
  below : EndBy l.tables.ranges l.index l.at;
}

abbrev pub decreases-loop-index : goal.decreases-loop-index
decreases-loop-index l = length l.tables.ranges - l.index
