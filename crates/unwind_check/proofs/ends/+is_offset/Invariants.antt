use Rattle.std.proofs.Common.{length}
use Rattle.unwind_check.proofs.ends.+is_offset.Given as goal

abbrev pub decreases-is_offset : goal.decreases-is_offset
decreases-is_offset l = length l.codes.now
