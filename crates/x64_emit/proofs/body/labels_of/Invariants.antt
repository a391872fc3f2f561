use Rattle.std.proofs.Common.{◌≡◌, ◌+◌, ◌++◌, true, false, length, drop}
use Rattle.template_code.specs.ColdParts.{AreParts, side_from}
use Rattle.x64_emit.specs.Words.{body_size, code_room, label_list, part_ranges, IsNear}
use Rattle.x64_emit.proofs.body.labels_of.Given as goal

abbrev pub invariant-loop-part : goal.invariant-loop-part
invariant-loop-part l = record {
  parts : AreParts l.from (drop l.part-index l.parts) (length l.body);
  starts : l.starts.items ++ label_list l.layout (drop l.part-index l.parts) l.from l.end l.begin
      (drop l.from l.body) ≡ label_list l.layout l.parts 0 l.hot l.cold l.body;
  ranges : l.ranges.items ++ part_ranges l.layout l.begin (drop l.part-index l.parts) l.body
      ≡ part_ranges l.layout l.cold l.parts l.body;
  end : l.end + body_size l.layout
      (side_from (drop l.part-index l.parts) false l.from (drop l.from l.body))
      ≡ l.hot + body_size l.layout (side_from l.parts false 0 l.body);
  cold_end : l.begin + body_size l.layout
      (side_from (drop l.part-index l.parts) true l.from (drop l.from l.body))
      ≡ l.cold + body_size l.layout (side_from l.parts true 0 l.body);
  room : IsNear (l.end + code_room (drop l.from l.body));
  cold_room : IsNear (l.begin + code_room (drop l.from l.body));
}
