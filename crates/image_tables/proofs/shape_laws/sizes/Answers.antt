use Rattle.image_tables.proofs.FrameSizes.{frames_are_small}
use Rattle.image_tables.proofs.shape_laws.sizes.Goals as goal

pub returns : goal.returns
returns c = frames_are_small
