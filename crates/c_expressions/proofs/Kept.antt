-- What is kept of a list of faults in parts.
use Rattle.std.proofs.Common.{◌≡◌, List, [], ◌∷◌, ◌++◌, Option, refl, sym, ap, ◌∙◌}
use Rattle.c_expressions.specs.Words.{kept_one, kept, FaultAt}

pub kept_append : (first : Option FaultAt) (a b : List FaultAt)
    → kept first (a ++ b) ≡ kept (kept first a) b
kept_append first [] b = refl
kept_append first (f ∷ a) b = kept_append (kept_one first f) a b

-- two parts, one after another
pub kept_more : (first w w' : Option FaultAt) (a b : List FaultAt) → w ≡ kept first a
    → w' ≡ kept w b → w' ≡ kept first (a ++ b)
kept_more first w w' a b p q = q ∙ ap (λ x. kept x b) p ∙ sym (kept_append first a b)
