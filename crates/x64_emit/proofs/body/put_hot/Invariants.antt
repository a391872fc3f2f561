use Rattle.std.proofs.Common.{◌≡◌, ◌+◌, ◌++◌, false, length, drop}
use Rattle.template_code.specs.ColdParts.{AreParts, side_from}
use Rattle.x64_emit.specs.Words.{spelled, code_from, links_of, code_room, IsNear}
use Rattle.x64_emit.proofs.body.put_hot.Given as goal

abbrev pub invariant-loop-part : goal.invariant-loop-part
invariant-loop-part l = record {
  parts : AreParts l.from (drop l.part-index l.parts) (length l.body);
  code : l.code.items ++ spelled (code_from (links_of l.links) l.layout l.at
      (side_from (drop l.part-index l.parts) false l.from (drop l.from l.body)))
      ≡ l.fn.code.items ++ spelled (code_from (links_of l.links) l.layout l.fn.start
      (side_from l.parts false 0 l.body));
  room : IsNear (l.at + code_room (drop l.from l.body));
}
