use Rattle.std.proofs.Common.{◌≡◌, ◌+◌, ◌++◌, drop}
use Rattle.pe_write.specs.NameTable.{names_size, rows_bytes}
use Rattle.pe_write.proofs.name_table.put_rows.Given as goal

abbrev pub invariant-loop-row : goal.invariant-loop-row
invariant-loop-row l = record {
  same : l.out.items ++ rows_bytes l.at (drop l.row-index l.rows)
      ≡ l.initial.out.items ++ rows_bytes l.first l.rows;
  room : l.at + names_size (drop l.row-index l.rows) ≡ l.first + names_size l.rows;
}
