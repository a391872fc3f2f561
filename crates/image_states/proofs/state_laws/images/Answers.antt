use Rattle.image_states.proofs.Images.{images_are_programs}
use Rattle.image_states.proofs.state_laws.images.Goals as goal

pub returns : goal.returns
returns c = images_are_programs
