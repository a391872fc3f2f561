use Rattle.x64_laws.proofs.Effects.{sar_is_floor}
use Rattle.x64_laws.proofs.arithmetic.floors.Goals as goal

pub returns : goal.returns
returns c = sar_is_floor
