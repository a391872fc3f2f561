use Rattle.seh.proofs.PrintedWalk.{printed_walk}
use Rattle.seh.proofs.laws.printed_walk.Goals as goal

pub returns : goal.returns
returns c = printed_walk
