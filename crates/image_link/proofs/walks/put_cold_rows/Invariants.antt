use Rattle.std.proofs.Common.{◌≡◌, ◌++◌, ◌+◌, map, drop}
use Rattle.image_link.specs.Words.{all_part_rows, parts_of}
use Rattle.image_link.proofs.walks.put_cold_rows.Given as goal

abbrev pub invariant-loop-place : goal.invariant-loop-place
invariant-loop-place l = record {
  done : l.rows.items ++ all_part_rows l.number (map parts_of (drop l.place-index l.places))
      ≡ l.fn.rows.items ++ all_part_rows 1 (map parts_of l.places);
  number : l.number ≡ l.place-index + 1;
}
