use Rattle.std.proofs.Common.{◌≡◌, take}
use Rattle.seh_ir.specs.Slots as spec
use Rattle.seh_ir.proofs.bodies.temporaries_in.Given as goal

abbrev pub invariant-loop-instruction : goal.invariant-loop-instruction
invariant-loop-instruction l = l.most ≡ spec.temporaries_in (take l.instruction-index l.code)
