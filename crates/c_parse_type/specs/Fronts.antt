-- What is at the front of tokens.
use Rattle.std.specs.Prelude.{ℕ, List, [], ◌∷◌, Option, Some, None}
use Rattle.c_lex.specs.declared.keyword.Keyword.{Keyword}
use Rattle.c_lex.specs.declared.punctuator.Punctuator.{Punctuator}
use Rattle.c_lex.specs.declared.token.Kind.{Kind}
use Rattle.c_lex.specs.declared.token.Kind.TheVariants as kinds
use Rattle.c_lex.specs.declared.token.Token.{Token}

abbrev pub first : List Token → Option (Token × List Token)
first [] = None
first (t ∷ ts) = Some (t, ts)

abbrev pub keyword_of : Kind → List Token → Option (Keyword × List Token)
keyword_of kinds.Identifier ts = None
keyword_of (kinds.Keyword k) ts = Some (k, ts)
keyword_of (kinds.Reserved r) ts = None
keyword_of (kinds.Integer value type) ts = None
keyword_of (kinds.CharacterConstant value) ts = None
keyword_of (kinds.Punctuator s) ts = None

abbrev pub after_keyword : List Token → Option (Keyword × List Token)
after_keyword [] = None
after_keyword (t ∷ ts) = keyword_of t.kind ts

abbrev pub punctuator_of : Kind → ℕ → List Token → Option (Punctuator × ℕ × List Token)
punctuator_of kinds.Identifier at ts = None
punctuator_of (kinds.Keyword k) at ts = None
punctuator_of (kinds.Reserved r) at ts = None
punctuator_of (kinds.Integer value type) at ts = None
punctuator_of (kinds.CharacterConstant value) at ts = None
punctuator_of (kinds.Punctuator s) at ts = Some (s, at, ts)

abbrev pub after_punctuator : List Token → Option (Punctuator × ℕ × List Token)
after_punctuator [] = None
after_punctuator (t ∷ ts) = punctuator_of t.kind t.start ts
