use Rattle.std.proofs.Common.{◌≡◌, ◌+◌, drop}
use Rattle.pe_write.specs.NameTable.{names_size}
use Rattle.pe_write.proofs.name_table.names_size.Given as goal

abbrev pub invariant-loop-row : goal.invariant-loop-row
invariant-loop-row l =
    l.size + names_size (drop l.row-index l.rows) ≡ names_size l.rows
