use Rattle.std.proofs.Common.{◌≡◌, ◌≤◌, ◌+◌, ◌++◌, length}
use Rattle.frame_layout.proofs.Steps.{saving}
use Rattle.frame_layout.proofs.operations.put_saves.Given as goal

abbrev pub invariant-loop-index : goal.invariant-loop-index
invariant-loop-index l = record {
  value : l.operations.items ≡ l.initial.operations.items ++ saving l.slots l.index;
  few : length l.operations.items ≤ length l.initial.operations.items + l.index;
}
