use Rattle.image_states.proofs.Starting.{images_start, images_load}
use Rattle.image_states.proofs.start_laws.starts.Goals as goal

pub returns : goal.returns
returns c = record { memory = images_start; loads = images_load }
