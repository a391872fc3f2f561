use Rattle.std.proofs.Common.{◌≡◌, ◌++◌, drop}
use Rattle.image_link.specs.Words.{part_rows}
use Rattle.image_link.proofs.walks.put_part_rows.Given as goal

abbrev pub invariant-loop-part : goal.invariant-loop-part
invariant-loop-part l =
    l.rows.items ++ part_rows l.number (drop l.part-index l.parts)
    ≡ l.fn.rows.items ++ part_rows l.number l.parts
