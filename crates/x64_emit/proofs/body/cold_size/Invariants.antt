use Rattle.std.proofs.Common.{◌≡◌, ◌+◌, true, drop}
use Rattle.template_code.specs.ColdParts.{side_from}
use Rattle.x64_emit.specs.Words.{body_size, code_room, IsNear}
use Rattle.x64_emit.proofs.Parts.{parts_code}
use Rattle.x64_emit.proofs.body.cold_size.Given as goal

abbrev pub invariant-loop-part : goal.invariant-loop-part
invariant-loop-part l = record {
  total : l.total + body_size l.layout (parts_code (drop l.part-index l.parts) l.body)
      ≡ body_size l.layout (side_from l.parts true 0 l.body);
  room : IsNear (l.total + code_room (parts_code (drop l.part-index l.parts) l.body));
}
