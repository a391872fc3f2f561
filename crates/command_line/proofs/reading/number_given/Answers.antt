use Rattle.std.proofs.Common.{◌≡◌, ◌∙◌, ℕ, List, Option, Some, None, codes, refl, sym, ap}
use Rattle.std.specs.Fmt.{decimal}
use Rattle.clap.specs.Words.{found_of}
use Rattle.clap.proofs.WalkLemmas.{first_value-rows}
use Rattle.command_line.proofs.reading.number_given.Goals as goal

the_same : (x y : List ℕ) → Some x ≡ Some y → x ≡ y
the_same x y e = cc

there : (o : Option (List ℕ)) (n : ℕ) → None ≡ o → o ≡ Some (decimal n) → ⊥
there o n none some = let q : None ≡ Some (decimal n) = none ∙ some in cc

pub returns-in-None-clause-usage : goal.returns-in-None-clause-usage
returns-in-None-clause-usage c =
    let text_is = c.in-None.ensures ∙ first_value-rows (found_of c.args.matches.now)
    (codes "number")
    in
    (refl, λ n h. there _ n text_is h.0)

pub returns-in-Some-number_of-clause-found : goal.returns-in-Some-number_of-clause-found
returns-in-Some-number_of-clause-found c =
    let text_is = c.in-Some.ensures ∙ first_value-rows (found_of c.args.matches.now)
    (codes "number")
    in
    let number = c.in-Some-number_of.ensures.some in
    (sym text_is ∙ ap Some number.0, number.1)

pub returns-in-None-number_of-clause-usage : goal.returns-in-None-number_of-clause-usage
returns-in-None-number_of-clause-usage c =
    let text_is = c.in-Some.ensures ∙ first_value-rows (found_of c.args.matches.now)
    (codes "number")
    in
    (refl, λ n h. c.in-None-number_of.ensures.none refl n h.1 (the_same _ _ (text_is ∙ h.0)))
