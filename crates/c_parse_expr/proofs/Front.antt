-- The punctuator at the front.
use Rattle.std.specs.Prelude.{IfSome, IfNone}
use Rattle.std.proofs.Common.{◌≡◌, ℕ, List, Option, Some, None, sym, ◌∙◌, option_map}
use Rattle.c_parse_expr.specs.Words.{Punctuator, Token, IsPunctuator, after_punctuator}
use Rattle.c_parse_expr.proofs.Lemmas.{punctuator_at, punctuator_is}

pub front_found : {A : Type 0} (r : Option A) (f : A → Punctuator × ℕ × List Token)
    (ts : List Token) → option_map f r ≡ after_punctuator ts
    → IfSome r (λ x. IsPunctuator (f x).0 (f x).1 ts (f x).2)
front_found None f ts e = tt
front_found (Some x) f ts e = punctuator_is ts (f x).2 (f x).0 (f x).1 (sym e)

absent : (ts : List Token) → None ≡ after_punctuator ts
    → (s : Punctuator) (at : ℕ) (rest : List Token) → IsPunctuator s at ts rest → ⊥
absent ts e s at rest h = let q : None ≡ Some (s, at, rest) = e ∙ punctuator_at s at ts rest h in cc

pub front_none : {A : Type 0} (r : Option A) (f : A → Punctuator × ℕ × List Token) (ts : List Token)
    → option_map f r ≡ after_punctuator ts → IfNone r
    ((s : Punctuator) (at : ℕ) (rest : List Token) → IsPunctuator s at ts rest → ⊥)
front_none None f ts e = absent ts e
front_none (Some x) f ts e = tt
