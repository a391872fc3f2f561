-- What productions share: phrases in turn, enclosed phrases, and elements with commas between them.
use Rattle.std.specs.Prelude.{List, [], ◌∷◌}
use Rattle.c_lex.specs.declared.punctuator.Punctuator.{Punctuator}
use Rattle.c_lex.specs.declared.punctuator.Punctuator.TheVariants as punctuators
use Rattle.c_lex.specs.declared.token.Token.{Token}
use Rattle.c_syntax.specs.Tokens.{Phrase, HasPunctuator}

-- one phrase after another
abbrev pub InTurn : Phrase → Phrase → Phrase
InTurn First Second ts rest = (mid : List Token) × First ts mid × Second mid rest

-- a phrase after what opens it, and the punctuator that closes it
pub record IsEnclosed (Opening Inner : Phrase) (close : Punctuator)
    (ts rest : List Token) : Type 0 where
  pub after_opening : List Token
  pub after_inner : List Token
  pub opening : Opening ts after_opening
  pub inner : Inner after_opening after_inner
  pub closing : HasPunctuator close after_inner rest

-- ---- lists

-- a comma, an element and the others
pub record IsAnother (Element Others : Phrase) (ts rest : List Token) : Type 0 where
  pub after_comma : List Token
  pub after_element : List Token
  pub comma : HasPunctuator punctuators.Comma ts after_comma
  pub element : Element after_comma after_element
  pub others : Others after_element rest

-- further elements, and the punctuator that ends them
abbrev pub AreMore : {A : Type 0} → (A → Phrase) → Punctuator → List A → Phrase
AreMore Element end [] = HasPunctuator end
AreMore Element end (x ∷ xs) = IsAnother (Element x) (AreMore Element end xs)

-- at least one element
abbrev pub AreSeparated : {A : Type 0} → (A → Phrase) → Punctuator → List A → Phrase
AreSeparated Element end [] ts rest = ⊥
AreSeparated Element end (x ∷ xs) ts rest = InTurn (Element x) (AreMore Element end xs) ts rest
