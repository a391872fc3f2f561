use Rattle.image_tables.proofs.TryRows.{lowered_is_shaped}
use Rattle.image_tables.proofs.region_laws.rows.Goals as goal

pub returns : goal.returns
returns c = lowered_is_shaped
