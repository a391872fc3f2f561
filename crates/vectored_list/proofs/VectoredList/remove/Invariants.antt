use Rattle.std.proofs.Common.{◌≡◌, take, false}
use Rattle.vectored_list.specs.Lists as spec
use Rattle.vectored_list.proofs.VectoredList.remove.Given as goal

abbrev pub invariant-loop-place : goal.invariant-loop-place
invariant-loop-place l =
    (l.self-inside.items.items ≡ l.initial.self-inside.items.items)
    × (spec.is_listed l.handler (take l.place l.self-inside.items.items) ≡ false)
