use Rattle.std.proofs.Common.{◌≡◌, take, false}
use Rattle.vectored_list.specs.Lists as spec
use Rattle.vectored_list.proofs.VectoredList.contains.Given as goal

abbrev pub invariant-loop-other : goal.invariant-loop-other
invariant-loop-other l = spec.is_listed l.handler (take l.other-index l.items) ≡ false
