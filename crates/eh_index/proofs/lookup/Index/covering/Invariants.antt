use Rattle.std.proofs.Common.{ℕ, ◌≤◌, ◌<◌, ◌-◌, length, get_or}
use Rattle.eh_tables.specs.Tables.{no_range}
use Rattle.eh_index.specs.Ordered.{IsOrdered}
use Rattle.eh_index.proofs.lookup.Index.covering.Given as goal

abbrev pub invariant-loop-low : goal.invariant-loop-low
invariant-loop-low l = record {
  within : l.high ≤ length l.tables.ranges;
  below : IsOrdered l.tables.ranges l.self
      → (k : ℕ) → k < l.low → (get_or l.tables.ranges k no_range).end ≤ l.rva;
  above : IsOrdered l.tables.ranges l.self → l.high < length l.tables.ranges
      → l.rva < (get_or l.tables.ranges l.high no_range).begin;
}

abbrev pub decreases-loop-low : goal.decreases-loop-low
decreases-loop-low l = l.high - l.low
