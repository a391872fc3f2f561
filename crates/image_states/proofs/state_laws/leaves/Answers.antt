use Rattle.image_states.proofs.Leaves.{leaves_call_nothing}
use Rattle.image_states.proofs.state_laws.leaves.Goals as goal

pub returns : goal.returns
returns c = leaves_call_nothing
