-- There is one list at most of elements between commas, where there is one element at most up to a
-- comma or the end.
use Rattle.std.proofs.Common.{◌≡◌, ◌<◌, List, [], ◌∷◌, refl, sym, ap, ◌∙◌, arith}
use Rattle.c_syntax.specs.Words.{Punctuator, Token, punctuator_follows, Stops, assignment, AreMore, AreSeparated, Phrase, HasPunctuator}
use Rattle.c_lex.specs.declared.punctuator.Punctuator.TheVariants as punctuators
use Rattle.c_syntax.proofs.Fronts.{punctuator_same, has_same}
use Rattle.c_syntax.proofs.Once.{has_stops}

-- one element at most, before a rest that no assignment continues with
abbrev pub Once : {A : Type 0} → (A → Phrase) → Type 0
Once {A = A} Element =
    (x y : A) (ts us rest end : List Token) → ts ≡ us → Stops assignment rest → Stops assignment end
    → Element x ts rest → Element y us end → (x ≡ y) × (rest ≡ end)

-- the same tokens begin with one punctuator
pub other_punctuator : (s z : Punctuator) (ts us rest end : List Token) → ts ≡ us
    → HasPunctuator s ts rest → HasPunctuator z us end → s ≡ z
other_punctuator s z ts us rest end p h g = (punctuator_same s z h.0 g.0 ts us rest end p h.1 g.1).0

-- no assignment continues with further elements
pub more_stop : {A : Type 0} (Element : A → Phrase) (s : Punctuator) (xs : List A)
    (ts rest : List Token) → assignment < punctuator_follows s → AreMore Element s xs ts rest
    → Stops assignment ts
more_stop Element s [] ts rest l h = has_stops s ts rest assignment h l
more_stop Element s (x ∷ xs) ts rest l h =
    has_stops punctuators.Comma ts h.after_comma assignment h.comma (omega arith)

pub more_once : {A : Type 0} (Element : A → Phrase) (s : Punctuator) (xs ys : List A)
    (ts us rest end : List Token) → Once Element → assignment < punctuator_follows s
    → (s ≡ punctuators.Comma → ⊥) → ts ≡ us → AreMore Element s xs ts rest
    → AreMore Element s ys us end → (xs ≡ ys) × (rest ≡ end)
more_once Element s [] [] ts us rest end once l other p h g =
    (refl, has_same s ts us rest end p h g)
more_once Element s [] (y ∷ ys) ts us rest end once l other p h g =
    absurd (other (other_punctuator s punctuators.Comma ts us rest g.after_comma p h g.comma))
more_once Element s (x ∷ xs) [] ts us rest end once l other p h g =
    absurd (other (sym (other_punctuator punctuators.Comma s ts us h.after_comma end p h.comma g)))
more_once {A = A} Element s (x ∷ xs) (y ∷ ys) ts us rest end once l other p h g =
    let a = has_same punctuators.Comma ts us h.after_comma g.after_comma p h.comma g.comma in
    let b = more_stop Element s xs h.after_element rest l h.others in
    let c = more_stop Element s ys g.after_element end l g.others in
    let e = once x y h.after_comma g.after_comma h.after_element g.after_element a b c h.element
    g.element in
    let f = more_once Element s xs ys h.after_element g.after_element rest end once l other e.1
    h.others g.others in
    (ap (λ (z : A). z ∷ xs) e.0 ∙ ap (λ (zs : List A). y ∷ zs) f.0, f.1)

pub separated_once : {A : Type 0} (Element : A → Phrase) (s : Punctuator) (xs ys : List A)
    (ts us rest end : List Token) → Once Element → assignment < punctuator_follows s
    → (s ≡ punctuators.Comma → ⊥) → ts ≡ us → AreSeparated Element s xs ts rest
    → AreSeparated Element s ys us end → (xs ≡ ys) × (rest ≡ end)
separated_once Element s [] ys ts us rest end once l other p h g = absurd h
separated_once Element s (x ∷ xs) [] ts us rest end once l other p h g = absurd g
separated_once {A = A} Element s (x ∷ xs) (y ∷ ys) ts us rest end once l other p h g =
    let b = more_stop Element s xs h.0 rest l h.2 in
    let c = more_stop Element s ys g.0 end l g.2 in
    let e = once x y ts us h.0 g.0 p b c h.1 g.1 in
    let f = more_once Element s xs ys h.0 g.0 rest end once l other e.1 h.2 g.2 in
    (ap (λ (z : A). z ∷ xs) e.0 ∙ ap (λ (zs : List A). y ∷ zs) f.0, f.1)
