use Rattle.std.specs.Prelude.{◌-◌}
use Rattle.eh_index.proofs.filling.+shift_from.Given as goal

abbrev pub decreases-shift_from : goal.decreases-shift_from
decreases-shift_from l = 31 - l.shift
