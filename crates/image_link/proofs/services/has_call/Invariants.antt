use Rattle.std.proofs.Common.{◌≡◌, drop}
use Rattle.image_link.specs.Words.{has_call}
use Rattle.image_link.proofs.services.has_call.Given as goal

abbrev pub invariant-loop-instruction : goal.invariant-loop-instruction
invariant-loop-instruction l =
    has_call l.service (drop l.instruction-index l.code) ≡ has_call l.service l.code
