use Rattle.std.proofs.Common.{◌≡◌, ◌++◌, drop}
use Rattle.pe_write.specs.NameTable.{names_bytes}
use Rattle.pe_write.proofs.name_table.put_names.Given as goal

abbrev pub invariant-loop-row : goal.invariant-loop-row
invariant-loop-row l = l.out.items ++ names_bytes (drop l.row-index l.rows)
    ≡ l.initial.out.items ++ names_bytes l.rows
