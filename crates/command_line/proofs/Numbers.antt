-- The numbers of options, in decimal.
use Rattle.std.proofs.Common.{◌≡◌, ◌<◌, ◌^◌, ℕ, true, false, nat_eq, eq-eqb, List, Option, Some, None, [], ◌∷◌, refl, sym, ap, subst, ◌∙◌, arith, inl, inr}
use Rattle.std.proofs.lemmas.Bool.{cases_eq, ne_eqb}
use Rattle.std.proofs.lemmas.Fmt.{decimal_is_IsNumeral}
use Rattle.std.specs.Cmp.Lexicographic.{pointwise}
use Rattle.std.specs.Char.{digit_value}
use Rattle.std.specs.Fmt.{decimal}
use Rattle.command_line.specs.Lines.{IsNumber}
use Rattle.std.specs.Str.Parse.{AllDigits, IsNumeral, digits_value, without_leading_plus}

no_plus : (ds : List ℕ) → AllDigits 10 ds → without_leading_plus ds ≡ ds
no_plus [] h = refl
no_plus (c ∷ cs) h = elim (cases_eq c 43) [
  | inl e ↦ let d : digit_value 43 < 10 = subst (λ (x : ℕ). digit_value x < 10) e h.0 in
      absurd (omega arith)
  | inr n ↦ rw (ne_eqb c 43 n) refl
]

-- what is written of a number is read as that number
pub is_read : (text : List ℕ) (n : ℕ) → n < 2 ^ 63 → text ≡ decimal n
    → IsNumeral 10 (without_leading_plus text) × (digits_value 10 (without_leading_plus text) ≡ n)
is_read text n lt e =
    let d = decimal_is_IsNumeral n (omega arith) in
    let same : without_leading_plus text ≡ decimal n = ap without_leading_plus e
    ∙ no_plus (decimal n) d.0.1 in
    (subst (IsNumeral 10) (sym same) d.0, ap (digits_value 10) same ∙ d.1)

same_bytes : (xs : List ℕ) → pointwise nat_eq xs xs ≡ true
same_bytes [] = refl
same_bytes (x ∷ xs) = rw (eq-eqb x x refl) (same_bytes xs)

pub unlike : (xs ys : List ℕ) → xs ≡ ys → false ≡ pointwise nat_eq xs ys → ⊥
unlike xs ys e h = let t = subst (λ (z : List ℕ). pointwise nat_eq xs z ≡ true) e (same_bytes xs) in
    let f : false ≡ true = h ∙ t in cc

-- a number that is read of an option is below 2^63
pub number_small : (other : ℕ) (text : Option (List ℕ)) (n : ℕ) → other < 2 ^ 63
    → IsNumber other text n → n < 2 ^ 63
number_small other None n lt h = omega (arith, h)
number_small other (Some text) n lt h = h.1
