use Rattle.std.proofs.Common.{◌≡◌, ◌++◌}
use Rattle.std.specs.Prelude.{false, replicate}
use Rattle.c_stacked.proofs.layout.unmarked.Given as goal

abbrev pub invariant-loop-left : goal.invariant-loop-left
invariant-loop-left l = l.marks.items ++ replicate l.left false ≡ replicate l.fn.count false

abbrev pub decreases-loop-left : goal.decreases-loop-left
decreases-loop-left l = l.left
