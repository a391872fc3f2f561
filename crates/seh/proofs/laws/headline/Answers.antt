use Rattle.seh.proofs.Headline.{headline, nothing_more}
use Rattle.seh.proofs.laws.headline.Goals as goal

pub returns : goal.returns
returns c = record { shows = headline; nothing_more = nothing_more }
