use Rattle.std.proofs.Common.{◌≡◌, ◌+◌, drop}
use Rattle.x64_emit.specs.Words.{body_size, code_room, IsNear}
use Rattle.x64_emit.proofs.body.stretch_size.Given as goal

abbrev pub invariant-loop-instruction : goal.invariant-loop-instruction
invariant-loop-instruction l = record {
  total : l.total + body_size l.layout (drop l.instruction-index l.stretch)
      ≡ body_size l.layout l.stretch;
  room : IsNear (l.total + code_room (drop l.instruction-index l.stretch));
}
