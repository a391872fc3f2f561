use Rattle.eh_tables.proofs.EitherAlike.{reads_alike}
use Rattle.eh_tables.proofs.laws.version_1_alike.Goals as goal

pub returns : goal.returns
returns c = reads_alike
