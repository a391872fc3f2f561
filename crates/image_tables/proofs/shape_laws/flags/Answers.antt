use Rattle.image_tables.proofs.Shape.{entries_are_flagged, parts_are_passed_over}
use Rattle.image_tables.proofs.shape_laws.flags.Goals as goal

pub returns : goal.returns
returns c = record { own = entries_are_flagged; parts = parts_are_passed_over }
