use Rattle.std.proofs.Common.{◌≡◌, ◌++◌, ◌+◌, drop}
use Rattle.x64_emit.specs.Words.{body_size, spelled, code_from, links_of, code_room, IsNear}
use Rattle.x64_emit.proofs.body.put_stretch.Given as goal

abbrev pub invariant-loop-instruction : goal.invariant-loop-instruction
invariant-loop-instruction l = record {
  code : l.code.items ++ spelled (code_from (links_of l.links) l.layout l.at
      (drop l.instruction-index l.stretch)) ≡ l.fn.code.items
      ++ spelled (code_from (links_of l.links) l.layout l.fn.start l.stretch);
  end : l.at + body_size l.layout (drop l.instruction-index l.stretch)
      ≡ l.fn.start + body_size l.layout l.stretch;
  room : IsNear (l.at + code_room (drop l.instruction-index l.stretch));
}
