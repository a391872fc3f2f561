use Rattle.image_runs.proofs.WalkEvents.{meanings_walk_by_calls}
use Rattle.image_runs.proofs.walk_event_laws.laws.Goals as goal

pub returns : goal.returns
returns c = meanings_walk_by_calls
