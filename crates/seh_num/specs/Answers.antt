-- Answers with a refusal: the first refusal is the answer. A `do` in the definitions of the crates
-- above is over these.
use Rattle.std.specs.Prelude.{Bool, true, false, Option, Some, None, Result, Ok, Err, List, ◌∷◌, ◌++◌}

infixl 10 ◌>>=◌
abbrev pub ◌>>=◌ : {A B E : Type 0} → Result A E → (A → Result B E) → Result B E
(Ok x) >>= f = f x
(Err e) >>= f = Err e

abbrev pub unless : {E : Type 0} → Bool → E → Result Unit E
unless true e = Ok tt
unless false e = Err e

abbrev pub or_refused : {A E : Type 0} → Option A → E → Result A E
or_refused (Some x) e = Ok x
or_refused None e = Err e

-- a list's answer after one element, and after others
abbrev pub prepend : {A E : Type 0} → A → Result (List A) E → Result (List A) E
prepend x (Ok xs) = Ok (x ∷ xs)
prepend x (Err e) = Err e

abbrev pub onto : {A E : Type 0} → List A → Result (List A) E → Result (List A) E
onto xs (Ok ys) = Ok (xs ++ ys)
onto xs (Err e) = Err e
