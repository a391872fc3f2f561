use Rattle.std.proofs.Common.{length}
use Rattle.unwind_check.proofs.loads.+are_restored.Given as goal

abbrev pub decreases-are_restored : goal.decreases-are_restored
decreases-are_restored l = length l.codes.now
