use Rattle.seh.proofs.Headline.{walks}
use Rattle.seh.proofs.laws.walks.Goals as goal

pub returns : goal.returns
returns c = record { shadow = walks }
