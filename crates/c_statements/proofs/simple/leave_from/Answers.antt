use Rattle.std.proofs.Common.{[], ◌∷◌, refl, ap}
use Rattle.c_statements.proofs.simple.leave_from.Goals as goal

pub returns : goal.returns
returns c =
    λ around block. record {
      done = ap (λ s. s ∷ []) c.leave_of.ensures;
      counts = refl;
      block = refl;
      faults = c.jump.ensures;
    }
