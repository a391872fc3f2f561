use Rattle.std.proofs.Common.{◌≡◌}
use Rattle.c_stacked.proofs.Placings.{AnyLeft}
use Rattle.c_stacked.proofs.layout.any_placed.Given as goal

abbrev pub invariant-loop-place : goal.invariant-loop-place
invariant-loop-place l = AnyLeft l.places l.place-index ≡ AnyLeft l.places 0
