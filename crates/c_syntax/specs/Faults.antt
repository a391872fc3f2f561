-- Where the reading of a phrase fails: the first token with which no phrase of the kind continues.
--
-- The main definition: `Failed`.
use Rattle.std.specs.Prelude.{◌≡◌, ℕ, suc, List, [], ◌∷◌, ◌++◌, length, codes, slice_range}
use Rattle.c_lex.specs.declared.token.Token.{Token}
use Rattle.c_syntax.specs.declared.expression.Identifier.{Identifier}
use Rattle.c_syntax.specs.Limits.{every_limit}

-- A kind of phrase, or that there is none of it, by how many limits hold, the text of the names,
-- and tokens.
abbrev pub Family : Type 1
Family = ℕ → List ℕ → List Token → Type 0

-- Each token is spelled in both texts in the same way.
abbrev pub Alike : List ℕ → List ℕ → List Token → Type 0
Alike text other [] = Unit {0}
Alike text other (t ∷ ts) =
    (slice_range text t.start t.end ≡ slice_range other t.start t.end) × Alike text other ts

-- both begin with the same token, or both are empty
abbrev pub SameFirst : List Token → List Token → Type 0
SameFirst [] other = other ≡ []
SameFirst (t ∷ ts) other = (more : List Token) × (other ≡ t ∷ more)

-- the place of the first token; the text's length where there is none
abbrev pub place : List ℕ → List Token → ℕ
place text [] = length text
place text (t ∷ ts) = t.start

-- Somewhere in the text are the words with which the reading of an exception's record can always
-- end.
pub record Speaks (text : List ℕ) : Type 0 where
  pub of_record : Identifier
  pub of_code : Identifier
  pub spells_record : slice_range text of_record.start of_record.end ≡ codes "ExceptionRecord"
  pub spells_code : slice_range text of_code.start of_code.end ≡ codes "ExceptionCode"

-- Tokens can be completed to a phrase.
pub record Able (Has : Family) (n : ℕ) (text : List ℕ) (front : List Token) : Type 0 where
  pub more : List Token
  pub has : Has n text (front ++ more)

-- They can be with the first token of what follows.
pub record Onward (Has : Family) (n : ℕ) (text : List ℕ) (front fault : List Token) : Type 0 where
  pub token : Token
  pub rest : List Token
  pub more : List Token
  pub is : fault ≡ token ∷ rest
  pub has : Has n text (front ++ token ∷ more)

-- The reading of a phrase fails at a place: the tokens before it can be completed within all
-- limits; with the token there, whatever follows it, there is no phrase within the first limits, so
-- many as the kind says; and there is one within one limit fewer.
pub record Failed (kind at : ℕ) (No Has : Family) (text : List ℕ) (ts : List Token) : Type 0 where
  pub front : List Token
  pub fault : List Token
  pub split : ts ≡ front ++ fault
  pub located : at ≡ place text fault
  pub against : (text' : List ℕ) (other : List Token) → Alike text text' ts → SameFirst fault other
      → No kind text' (front ++ other)
  pub able : (text' : List ℕ) → Alike text text' ts → Speaks text'
      → Able Has every_limit text' front
  pub further : (text' : List ℕ) (k : ℕ) → Alike text text' ts → Speaks text' → kind ≡ suc k
      → Onward Has k text' front fault

-- A phrase is in a greater one, which begins with the tokens before it.
pub record Wraps (No Has No' Has' : Family) (text : List ℕ) (ts ts' : List Token) : Type 0 where
  pub before : List Token
  pub split : ts' ≡ before ++ ts
  pub no : (n : ℕ) (text' : List ℕ) (other : List Token) → Alike text text' ts' → SameFirst ts other
      → No n text' other → No' n text' (before ++ other)
  pub has : (n : ℕ) (text' : List ℕ) (inner : List Token) → Alike text text' ts' → Speaks text'
      → Has n text' inner → Able Has' n text' (before ++ inner)
