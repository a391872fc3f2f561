use Rattle.x64_laws.proofs.Effects.{cmp_decides}
use Rattle.x64_laws.proofs.comparing.comparisons.Goals as goal

pub returns : goal.returns
returns c = cmp_decides
