-- The name that a slot is bound to, one import after another.
use Rattle.std.proofs.Common.{◌≡◌, ℕ, ◌==◌, Bool, true, false, cond, List, [], ◌∷◌, Option, Some, None, option_map, refl, sym, ap, ◌∙◌}
use Rattle.std.specs.Prelude.{reverse, find}
use Rattle.std.specs.Option.{option_or}
use Rattle.std.proofs.lemmas.List.{reverse-append}
use Rattle.std.proofs.lemmas.List.Folds.{find-append}
use Rattle.pe_image.specs.Imports.{Import}
use Rattle.pe_image.specs.Bound.{bound_name}

-- where a slot has a name already, and others follow
abbrev pub bound_after : ℕ → Option (List ℕ) → List Import → Option (List ℕ)
bound_after slot known [] = known
bound_after slot known (i ∷ is) = bound_after slot (cond (i.slot == slot) (Some i.name) known) is

name_or : (a b : Option Import) → option_map (λ i. i.name) (option_or a b)
    ≡ option_or (option_map (λ i. i.name) a) (option_map (λ i. i.name) b)
name_or None b = refl
name_or (Some i) b = refl

or_of : (a b : Option (List ℕ)) (t : Bool) (x : List ℕ) → option_or a (cond t (Some x) b)
    ≡ option_or (option_or a (cond t (Some x) None)) b
or_of None b true x = refl
or_of None b false x = refl
or_of (Some y) b t x = refl

one : (slot : ℕ) (i : Import) (t : Bool) → option_map (λ j. j.name) (cond t (Some i) None)
    ≡ cond t (Some i.name) None
one slot i true = refl
one slot i false = refl

first : (slot : ℕ) (i : Import) (is : List Import) → bound_name slot (i ∷ is)
    ≡ option_or (bound_name slot is) (cond (i.slot == slot) (Some i.name) None)
first slot i is =
    ap (λ js. option_map (λ j. j.name) (find (λ j. j.slot == slot) js)) (reverse-append (i ∷ []) is)
    ∙ ap (option_map (λ j. j.name)) (find-append (λ j. j.slot == slot) (reverse is) (i ∷ []))
    ∙ name_or (find (λ j. j.slot == slot) (reverse is)) (cond (i.slot == slot) (Some i) None)
    ∙ ap (option_or (bound_name slot is)) (one slot i (i.slot == slot))

after_known : (slot : ℕ) (known : Option (List ℕ)) (is : List Import)
    → bound_after slot known is ≡ option_or (bound_name slot is) known
after_known slot known [] = refl
after_known slot known (i ∷ is) =
    after_known slot (cond (i.slot == slot) (Some i.name) known) is
    ∙ or_of (bound_name slot is) known (i.slot == slot) i.name
    ∙ ap (λ o. option_or o known) (sym (first slot i is))

or_none : (o : Option (List ℕ)) → option_or o None ≡ o
or_none None = refl
or_none (Some x) = refl

pub bound_from_none : (slot : ℕ) (is : List Import) → bound_after slot None is ≡ bound_name slot is
bound_from_none slot is = after_known slot None is ∙ or_none (bound_name slot is)
