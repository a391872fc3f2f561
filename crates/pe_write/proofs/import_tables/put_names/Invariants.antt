use Rattle.std.proofs.Common.{◌≡◌, ◌++◌, drop}
use Rattle.std.specs.List.{flat_map}
use Rattle.pe_write.specs.ImportTables.{hint_name}
use Rattle.pe_write.proofs.import_tables.put_names.Given as goal

abbrev pub invariant-loop-service : goal.invariant-loop-service
invariant-loop-service l = l.out.items ++ flat_map hint_name (drop l.service-index l.services)
    ≡ l.initial.out.items ++ flat_map hint_name l.services
