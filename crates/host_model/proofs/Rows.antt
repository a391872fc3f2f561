-- The worked images, run by computing.
use Rattle.std.proofs.Common.{refl}
use Rattle.host_model.specs.Worked.{PrintsFourteen, RunsOutOfTurns, StopsOutside}
use Rattle.host_model.proofs.Computed.{computed_image}

pub prints_fourteen : PrintsFourteen
unfolding computed_image
prints_fourteen = (refl, refl)

pub runs_out_of_turns : RunsOutOfTurns
unfolding computed_image
runs_out_of_turns = refl

pub stops_outside : StopsOutside
unfolding computed_image
stops_outside = refl
