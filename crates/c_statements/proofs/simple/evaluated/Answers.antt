use Rattle.std.proofs.Common.{[], ◌∷◌, refl, ap, ◌∙◌}
use Rattle.c_checked.specs.Statement as checked
use Rattle.c_statements.proofs.simple.evaluated.Goals as goal

pub returns : goal.returns
returns c =
    let v = c.in_ok-value.ensures in
    record {
      done = ap (λ s. s ∷ []) (c.evaluate_of.ensures ∙ ap checked.Evaluate v.value);
      counts = refl;
      block = refl;
      faults = v.faults;
    }
