use Rattle.std.proofs.Common.{length}
use Rattle.unwind_check.proofs.prologue.+prologue_fault.Given as goal

abbrev pub decreases-prologue_fault : goal.decreases-prologue_fault
decreases-prologue_fault g l = length l.codes.now
