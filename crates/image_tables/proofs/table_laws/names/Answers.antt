use Rattle.image_tables.proofs.NameRows.{names_are_read, functions_have_names}
use Rattle.image_tables.proofs.table_laws.names.Goals as goal

pub returns : goal.returns
returns c = record { read = names_are_read; named = functions_have_names }
