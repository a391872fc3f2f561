use Rattle.std.proofs.Common.{◌≡◌, ◌++◌, ◌+◌, drop}
use Rattle.x64_emit.specs.Words.{body_size, code_room, labels_from, IsNear}
use Rattle.x64_emit.proofs.body.put_labels.Given as goal

abbrev pub invariant-loop-instruction : goal.invariant-loop-instruction
invariant-loop-instruction l = record {
  starts : l.starts.items ++ labels_from l.layout l.at (drop l.instruction-index l.stretch)
      ≡ l.fn.starts.items ++ labels_from l.layout l.fn.start l.stretch;
  end : l.at + body_size l.layout (drop l.instruction-index l.stretch)
      ≡ l.fn.start + body_size l.layout l.stretch;
  room : IsNear (l.at + code_room (drop l.instruction-index l.stretch));
}
