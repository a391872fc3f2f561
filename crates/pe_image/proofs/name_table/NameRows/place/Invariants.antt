use Rattle.std.proofs.Common.{ℕ, ◌≤◌, ◌<◌, ◌-◌, length, get_or}
use Rattle.pe_image.specs.NameRows.{no_row}
use Rattle.pe_image.proofs.name_table.NameRows.place.Given as goal

abbrev pub invariant-loop-low : goal.invariant-loop-low
invariant-loop-low l = record {
  within : l.high ≤ length l.self;
  ordered : l.low ≤ l.high;
  below : (k : ℕ) → k < l.low → (get_or l.self k no_row).end ≤ l.rva;
  above : l.high < length l.self → l.rva < (get_or l.self l.high no_row).begin;
}

abbrev pub decreases-loop-low : goal.decreases-loop-low
decreases-loop-low l = l.high - l.low
