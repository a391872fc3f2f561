use Rattle.image_runs.proofs.ImageCode.{lowered_is_compiled}
use Rattle.image_runs.proofs.SoundImages.{lowered_has_image}
use Rattle.image_runs.proofs.image_laws.laws.Goals as goal

pub returns : goal.returns
returns c = record { compiled = lowered_is_compiled; image = lowered_has_image }
