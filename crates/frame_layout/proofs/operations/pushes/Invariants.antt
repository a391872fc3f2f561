use Rattle.std.proofs.Common.{◌≡◌, ◌≤◌, ◌+◌, length}
use Rattle.frame_layout.proofs.Steps.{pushing}
use Rattle.frame_layout.proofs.operations.pushes.Given as goal

abbrev pub invariant-loop-index : goal.invariant-loop-index
invariant-loop-index l = record {
  value : l.operations.items ≡ pushing l.index l.framed;
  few : length l.operations.items ≤ l.index + 1;
}
