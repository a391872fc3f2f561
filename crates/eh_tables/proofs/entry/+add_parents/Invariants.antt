use Rattle.std.proofs.Common.{◌-◌, length}
use Rattle.eh_tables.proofs.entry.+add_parents.Given as goal

abbrev pub decreases-add_parents : goal.decreases-add_parents
decreases-add_parents l = 31 - length l.parents.now.items
