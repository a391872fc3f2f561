use Rattle.std.proofs.Common.{◌≡◌, ◌++◌, ◌≤◌, length, take, drop}
use Rattle.std.specs.List.{flat_map}
use Rattle.eh_write.specs.Words.{range_bytes}
use Rattle.eh_write.proofs.writing.write_pdata.Given as goal

abbrev pub invariant-loop-range : goal.invariant-loop-range
invariant-loop-range l = record {
  same : l.to.items ++ flat_map range_bytes (drop l.range-index l.ranges)
      ≡ l.fn.to.items ++ flat_map range_bytes l.ranges;
  front : take (length l.fn.to.items) l.to.items ≡ l.fn.to.items;
  before : l.before ≡ length l.fn.to.items;
  within : length l.fn.to.items ≤ length l.to.items;
}
