use Rattle.std.proofs.Common.{refl}
use Rattle.dump_stacks.proofs.laws.worked_ranges.Goals as goal

pub returns : goal.returns
returns c = record { below = refl; second = refl; both = refl; first = refl; above = refl }
