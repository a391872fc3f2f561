use Rattle.std.proofs.Common.{◌≡◌, ◌≤◌, ◌+◌, [], drop, length}
use Rattle.frame_layout.proofs.Sizes.{taken}
use Rattle.frame_layout.proofs.Codes.{coded}
use Rattle.frame_layout.proofs.infos.unwind_of.Given as goal

abbrev pub invariant-loop-operation : goal.invariant-loop-operation
invariant-loop-operation l = record {
  codes : coded l.frame 0 l.offset l.codes.items (drop l.operation-index l.operation-items)
      ≡ coded l.frame 0 0 [] l.operation-items;
  left : l.offset + taken l.frame 0 (drop l.operation-index l.operation-items)
      ≡ taken l.frame 0 l.operation-items;
  few : length l.codes.items ≤ l.operation-index;
}
