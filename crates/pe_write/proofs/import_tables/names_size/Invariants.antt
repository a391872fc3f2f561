use Rattle.std.proofs.Common.{◌≡◌, ◌+◌, ◌*◌, ◌≤◌, drop}
use Rattle.pe_write.specs.ImportTables.{names_size}
use Rattle.pe_write.proofs.import_tables.names_size.Given as goal

abbrev pub invariant-loop-service : goal.invariant-loop-service
invariant-loop-service l = record {
  same : l.size + names_size (drop l.service-index l.imports) ≡ names_size l.imports;
  below : l.size ≤ 256 * l.service-index;
}
