use Rattle.std.proofs.Common.{◌≡◌}
use Rattle.c_check.proofs.PlaceOfMain.{place_from}
use Rattle.c_check.proofs.entry.place_of_function.Given as goal

abbrev pub invariant-loop-x : goal.invariant-loop-x
invariant-loop-x l = place_from l.xs l.x-index l.left ≡ place_from l.xs 0 l.number
