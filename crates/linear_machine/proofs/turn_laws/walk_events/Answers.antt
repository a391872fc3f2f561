use Rattle.linear_machine.proofs.WalkEvents.{walks_are_called}
use Rattle.linear_machine.proofs.turn_laws.walk_events.Goals as goal

pub returns : goal.returns
returns c = walks_are_called
