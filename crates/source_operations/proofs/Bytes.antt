-- One byte more of an access, for the search of the first byte that is refused.
use Rattle.x64_memory.proofs.Steps.{first_refused-here, first_refused-zero}

pub ruleset refused_steps = (first_refused-here, first_refused-zero)
