use Rattle.std.proofs.Common.{◌≡◌, ◌+◌, ◌++◌, true, drop}
use Rattle.template_code.specs.ColdParts.{side_from}
use Rattle.x64_emit.specs.Words.{spelled, code_from, links_of, code_room, IsNear}
use Rattle.x64_emit.proofs.Parts.{parts_code}
use Rattle.x64_emit.proofs.body.put_cold.Given as goal

abbrev pub invariant-loop-part : goal.invariant-loop-part
invariant-loop-part l = record {
  code : l.code.items ++ spelled (code_from (links_of l.links) l.layout l.at
      (parts_code (drop l.part-index l.parts) l.body))
      ≡ l.fn.code.items ++ spelled (code_from (links_of l.links) l.layout l.fn.start
      (side_from l.parts true 0 l.body));
  room : IsNear (l.at + code_room (parts_code (drop l.part-index l.parts) l.body));
}
