use Rattle.std.proofs.Common.{◌≡◌, drop}
use Rattle.image_link.specs.Words.{all_spare}
use Rattle.image_link.proofs.routine.all_spare.Given as goal

abbrev pub invariant-loop-instruction : goal.invariant-loop-instruction
invariant-loop-instruction l = all_spare l.parameters (drop l.instruction-index l.code)
    ≡ all_spare l.parameters l.code
