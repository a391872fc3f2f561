use Rattle.std.proofs.Common.{ℕ, ◌≤◌, ◌<◌, ◌-◌, length, get_or}
use Rattle.eh_tables.specs.Words.{no_range}
use Rattle.eh_tables.proofs.tables.Tables.index_covering.Given as goal

abbrev pub invariant-loop-low : goal.invariant-loop-low
invariant-loop-low l = record {
  within : l.high ≤ length l.self.ranges;
  ordered : l.low ≤ l.high;
  below : (k : ℕ) → k < l.low → (get_or l.self.ranges k no_range).end ≤ l.rva;
  above : l.high < length l.self.ranges → l.rva < (get_or l.self.ranges l.high no_range).begin;
}

abbrev pub decreases-loop-low : goal.decreases-loop-low
decreases-loop-low l = l.high - l.low
