use Rattle.std.proofs.Common.{◌≡◌, ◌+◌, ◌*◌, ◌^◌, ◌≤◌, ◌++◌, drop}
use Rattle.pe_write.specs.ImportTables.{addresses}
use Rattle.pe_write.proofs.import_tables.put_addresses.Given as goal

abbrev pub invariant-loop-service : goal.invariant-loop-service
invariant-loop-service l = record {
  same : l.out.items ++ addresses l.at (drop l.service-index l.services)
      ≡ l.initial.out.items ++ addresses l.first l.services;
  below : l.at ≤ 2 ^ 32 + 256 * l.service-index;
}
