use Rattle.std.proofs.Common.{length}
use Rattle.abi_unwind.proofs.epilogues.+is_inside.Given as goal

abbrev pub decreases-is_inside : goal.decreases-is_inside
decreases-is_inside l = length l.slots.now
