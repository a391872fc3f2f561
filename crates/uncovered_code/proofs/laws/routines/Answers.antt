use Rattle.uncovered_code.proofs.Routines.{uncovered_bytes_are_in_routines, routines_are_apart}
use Rattle.uncovered_code.proofs.laws.routines.Goals as goal

pub returns : goal.returns
returns c = record { inside = uncovered_bytes_are_in_routines; apart = routines_are_apart }
