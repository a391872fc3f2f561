use Rattle.std.proofs.Common.{◌≡◌, ◌≤◌, ◌<◌, ◌*◌, ◌^◌, ℕ, length, slice_index}
use Rattle.eh_index.specs.Indexes.{EndBy, IsFirst}
use Rattle.eh_index.proofs.filling.fill.Given as goal

abbrev pub invariant-loop-bucket : goal.invariant-loop-bucket
invariant-loop-bucket l = record {
  within : l.index ≤ length l.tables.ranges;
  below : EndBy l.tables.ranges l.index (l.bucket * 2 ^ l.shift);
  size : length l.first ≡ length l.initial.first;
  filled : (i : ℕ) → i < l.bucket
      → IsFirst l.tables.ranges (i * 2 ^ l.shift) (slice_index l.first i);
}
