-- Nothing else is a punctuator, a keyword or a reserved word than what is spelled so.
use Rattle.std.proofs.Common.{◌≡◌, ℕ, true, nat_eq, List, [], ◌∷◌, refl, sym, arith, Some}
use Rattle.std.specs.Str.{bytes_eq}
use Rattle.std.proofs.lemmas.Bool.Decides.{nat_tests}
use Rattle.std.proofs.lemmas.Slice.Eq.{bytes_eq-Decides}
use Rattle.c_lex.specs.Vocabulary.{Keyword, Reserved, Punctuator, keyword_of, reserved_of, is_same, punctuator_of}
use Rattle.c_lex.specs.Keywords as keywords
use Rattle.c_lex.specs.ReservedWords as reserved_words
use Rattle.c_lex.specs.Punctuators as punctuators
use Rattle.c_lex.proofs.Tokens.{found_passes, and_true}

same_text : (v w : List ℕ) → is_same v w ≡ true → v ≡ w
same_text [] [] e = refl
same_text [] (b ∷ w) e = absurd (cc)
same_text (a ∷ v) [] e = absurd (cc)
same_text (a ∷ v) (b ∷ w) e =
    let t = and_true (is_same v w) (nat_eq a b) e in
    let k = same_text v w t.0 in
    let h = t.1 in
    let l : a ≡ b = grind (arith, nat_tests) in
    cc

pub punctuators_only : (s : Punctuator) (w : List ℕ) → punctuator_of w ≡ Some s
    → w ≡ punctuators.spelling s
unfolding punctuator_of
punctuators_only s w e =
    same_text w (punctuators.spelling s)
    (found_passes (λ t. is_same w (punctuators.spelling t)) punctuators.punctuators s e)

pub keywords_only : (k : Keyword) (w : List ℕ) → keyword_of w ≡ Some k → w ≡ keywords.spelling k
unfolding keyword_of
keywords_only k w e =
    sym ((bytes_eq-Decides (keywords.spelling k) w).0
    (found_passes (λ t. bytes_eq (keywords.spelling t) w) keywords.keywords k e))

pub reserved_only : (r : Reserved) (w : List ℕ) → reserved_of w ≡ Some r
    → w ≡ reserved_words.spelling r
unfolding reserved_of
reserved_only r w e =
    sym ((bytes_eq-Decides (reserved_words.spelling r) w).0
    (found_passes (λ t. bytes_eq (reserved_words.spelling t) w) reserved_words.reserved_words r e))
