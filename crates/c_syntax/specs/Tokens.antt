-- The tokens of a production: of each its kind, and where a fault can be reported there its place.
--
-- `The tokens of a production`: the first token is of a kind and has a place, and the others are
-- the rest. Each relation below holds of a tree, of tokens and of the tokens after it.
use Rattle.std.specs.Prelude.{◌≡◌, ℕ, List, ◌∷◌, slice_range}
use Rattle.c_lex.specs.declared.keyword.Keyword.{Keyword}
use Rattle.c_lex.specs.declared.punctuator.Punctuator.{Punctuator}
use Rattle.c_lex.specs.declared.token.Kind.{Kind}
use Rattle.c_lex.specs.declared.token.Kind.TheVariants as kinds
use Rattle.c_lex.specs.declared.token.Token.{Token}
use Rattle.c_syntax.specs.declared.expression.Identifier.{Identifier}

-- which tokens spell a phrase, up to the rest after it
abbrev pub Phrase : Type 1
Phrase = List Token → List Token → Type 0

abbrev pub token : Kind → ℕ → ℕ → Token
token kind start end = record { kind = kind; start = start; end = end }

-- The first token is of a kind and is at a place; the others are the rest.
abbrev pub IsKind : Kind → ℕ → List Token → List Token → Type 0
IsKind kind at ts rest = (end : ℕ) × (ts ≡ token kind at end ∷ rest)

abbrev pub IsPunctuator : Punctuator → ℕ → List Token → List Token → Type 0
IsPunctuator punctuator at ts rest = IsKind (kinds.Punctuator punctuator) at ts rest

abbrev pub IsKeyword : Keyword → ℕ → List Token → List Token → Type 0
IsKeyword keyword at ts rest = IsKind (kinds.Keyword keyword) at ts rest

abbrev pub IsIdentifier : Identifier → List Token → List Token → Type 0
IsIdentifier name ts rest = ts ≡ token kinds.Identifier name.start name.end ∷ rest

-- wherever it is
abbrev pub HasPunctuator : Punctuator → List Token → List Token → Type 0
HasPunctuator punctuator ts rest = (at : ℕ) × IsPunctuator punctuator at ts rest

abbrev pub HasKeyword : Keyword → List Token → List Token → Type 0
HasKeyword keyword ts rest = (at : ℕ) × IsKeyword keyword at ts rest

-- a name with this spelling
abbrev pub HasWord : List ℕ → List ℕ → List Token → List Token → Type 0
HasWord text word ts rest =
    (name : Identifier) × IsIdentifier name ts rest × (slice_range text name.start name.end ≡ word)
