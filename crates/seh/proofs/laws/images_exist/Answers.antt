use Rattle.seh.proofs.Existence.{images_exist}
use Rattle.seh.proofs.laws.images_exist.Goals as goal

pub returns : goal.returns
returns c = images_exist
