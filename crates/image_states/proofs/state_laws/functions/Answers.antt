use Rattle.image_states.proofs.Leaves.{functions_apart}
use Rattle.image_states.proofs.state_laws.functions.Goals as goal

pub returns : goal.returns
returns c = functions_apart
