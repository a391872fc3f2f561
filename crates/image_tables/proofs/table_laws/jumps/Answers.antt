use Rattle.image_tables.proofs.Handlers.{jumps_are_spelled}
use Rattle.image_tables.proofs.table_laws.jumps.Goals as goal

pub returns : goal.returns
returns c = jumps_are_spelled
