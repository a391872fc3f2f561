use Rattle.std.proofs.Common.{length, ◌-◌}
use Rattle.c_stacked.proofs.Placings.{StillToPlace}
use Rattle.c_stacked.proofs.layout.place_all.Given as goal

abbrev pub invariant-loop-next : goal.invariant-loop-next
invariant-loop-next l = StillToPlace l.variables l.marks l.next l.placing

abbrev pub decreases-loop-next : goal.decreases-loop-next
decreases-loop-next l = length l.variables - l.next
