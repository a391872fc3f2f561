use Rattle.std.proofs.Common.{◌≡◌, ◌+◌, drop}
use Rattle.pe_write.specs.ImportTables.{place_of}
use Rattle.pe_write.proofs.import_tables.place_of.Given as goal

abbrev pub invariant-loop-other : goal.invariant-loop-other
invariant-loop-other l = record {
  same : l.place + place_of (drop l.other-index l.imports) l.service ≡ place_of l.imports l.service;
  counted : l.place ≡ l.other-index;
}
