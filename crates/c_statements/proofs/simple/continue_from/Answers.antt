use Rattle.std.proofs.Common.{[], ◌∷◌, refl, ap}
use Rattle.c_statements.proofs.simple.continue_from.Goals as goal

pub returns : goal.returns
returns c =
    λ around block. record {
      done = ap (λ s. s ∷ []) c.continue_of.ensures;
      counts = refl;
      block = refl;
      faults = c.jump.ensures;
    }
