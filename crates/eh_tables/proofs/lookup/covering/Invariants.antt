use Rattle.std.proofs.Common.{ℕ, ◌≤◌, ◌<◌, ◌+◌, ◌-◌, ◌*◌, ◌^◌, length, get_or}
use Rattle.eh_tables.specs.Words.{no_range}
use Rattle.eh_tables.proofs.lookup.covering.Given as goal

abbrev pub invariant-loop-low : goal.invariant-loop-low
invariant-loop-low g l = record {
  within : l.high ≤ length l.ranges.ranges;
  ordered : l.low ≤ l.high;
  below : (k : ℕ) → k < l.low → (get_or l.ranges.ranges k no_range).end ≤ l.rva;
  above : l.high < length l.ranges.ranges → l.rva < (get_or l.ranges.ranges l.high no_range).begin;
  counted : l.initial.steps ≤ l.steps;
  left : 2 ^ (l.steps - l.initial.steps) * (l.high - l.low) ≤ length l.ranges.ranges;
  cost : 2 ^ (l.steps - l.initial.steps) ≤ 2 * length l.ranges.ranges + 1;
}

abbrev pub decreases-loop-low : goal.decreases-loop-low
decreases-loop-low g l = l.high - l.low
