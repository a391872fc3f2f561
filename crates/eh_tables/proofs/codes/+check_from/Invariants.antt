use Rattle.std.proofs.Common.{length}
use Rattle.eh_tables.proofs.codes.+check_from.Given as goal

abbrev pub decreases-check_from : goal.decreases-check_from
decreases-check_from l = length l.slots.now
