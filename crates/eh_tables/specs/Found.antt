-- What a look-up finds of an entry.
use Rattle.eh_tables.specs.declared.lookup.FunctionEntry.{FunctionEntry}
use Rattle.eh_tables.specs.Tables.{Entry}

-- an entry without the infos that its own is chained to
abbrev pub function_entry : Entry → FunctionEntry
function_entry e = record { range = e.range; info = e.info }
