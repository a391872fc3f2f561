use Rattle.std.proofs.Common.{length}
use Rattle.eh_tables.proofs.epilogues.+leading_epilogues.Given as goal

abbrev pub decreases-leading_epilogues : goal.decreases-leading_epilogues
decreases-leading_epilogues l = length l.slots.now
