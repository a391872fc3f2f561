use Rattle.named_walks.proofs.ProgramWalks.{walks_are_named}
use Rattle.named_walks.proofs.laws.named.Goals as goal

pub returns : goal.returns
returns c = walks_are_named
