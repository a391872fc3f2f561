use Rattle.image_tables.proofs.Table.{tables_are_read}
use Rattle.image_tables.proofs.table_laws.tables.Goals as goal

pub returns : goal.returns
returns c = tables_are_read
