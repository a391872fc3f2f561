-- Where the depth would rise above the greatest, where too few steps are left, and where not.
use Rattle.std.proofs.Common.{◌≡◌, ap, sym, ◌∙◌, true, false, Bool, Some, None}
use Rattle.source_meaning.specs.declared.ended.Ended.TheVariants.{Deep}
use Rattle.source_meaning.specs.State.{End}
use Rattle.source_machine.specs.Machine.{Machine, over, unless_deep, unless_few}

pub too_deep_is : (b : Bool) (m other next : Machine) → b ≡ true
    → next ≡ over m (End (Some (Deep 1001))) → unless_deep b m other ≡ next
too_deep_is b m other next e n = ap (λ b. unless_deep b m other) e ∙ sym n

pub goes_deeper : (b : Bool) (m other : Machine) → b ≡ false → unless_deep b m other ≡ other
goes_deeper b m other e = ap (λ b. unless_deep b m other) e

pub too_few_is : (b : Bool) (m other next : Machine) → b ≡ true → next ≡ over m (End None)
    → unless_few b m other ≡ next
too_few_is b m other next e n = ap (λ b. unless_few b m other) e ∙ sym n

pub has_enough : (b : Bool) (m other : Machine) → b ≡ false → unless_few b m other ≡ other
has_enough b m other e = ap (λ b. unless_few b m other) e
