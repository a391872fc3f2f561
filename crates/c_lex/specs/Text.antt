-- A text as a list of tokens.
--
-- The main definitions: `Cut`, `IsTokens`, `IsLexicalFault`.
use Rattle.std.specs.Prelude.{◌≡◌, ℕ, ◌+◌, List, [], ◌∷◌, ◌++◌, length}
use Rattle.c_lex.specs.declared.token.Kind.{Kind}
use Rattle.c_lex.specs.declared.token.Token.{Token}
use Rattle.c_lex.specs.declared.word.Word.{Word}
use Rattle.c_lex.specs.declared.word.Word.TheVariants.{Lexeme, Blank, Bad}
use Rattle.c_lex.specs.declared.word.Fault.{Fault}
use Rattle.c_lex.specs.Longest.{IsLongest}
use Rattle.c_lex.specs.Words.{word}

-- a word of a text: its bytes, and what they are
pub record Piece : Type 0 where
  pub bytes : List ℕ
  pub is : Word

-- The text is these words one after another, each the longest that is at its place, and then rest.
abbrev pub Cut : List Piece → List ℕ → List ℕ → Type 0
Cut [] text rest = text ≡ rest
Cut (p ∷ ps) text rest =
    (after : List ℕ) × IsLongest word text p.bytes after p.is × Cut ps after rest

-- a token, white space or a comment
abbrev pub IsGood : Word → Type 0
IsGood (Lexeme k) = Unit {0}
IsGood Blank = Unit {0}
IsGood (Bad f) = ⊥

abbrev pub AreGood : List Piece → Type 0
AreGood [] = Unit {0}
AreGood (p ∷ ps) = IsGood p.is × AreGood ps

abbrev pub size : List Piece → ℕ
size [] = 0
size (p ∷ ps) = length p.bytes + size ps

abbrev pub token : Kind → ℕ → ℕ → Token
token kind start end = record { kind = kind; start = start; end = end }

-- the token that a word at a place is, if it is one
abbrev pub token_of : ℕ → List ℕ → Word → List Token
token_of at bytes (Lexeme k) = token k at (at + length bytes) ∷ []
token_of at bytes Blank = []
token_of at bytes (Bad f) = []

-- the tokens among words that begin at a place
abbrev pub tokens_of : ℕ → List Piece → List Token
tokens_of at [] = []
tokens_of at (p ∷ ps) = token_of at p.bytes p.is ++ tokens_of (at + length p.bytes) ps

-- The text is made of tokens, white space and comments, and these are the tokens.
pub record IsTokens (text : List ℕ) (tokens : List Token) : Type 0 where
  pub pieces : List Piece
  pub good : AreGood pieces
  pub cut : Cut pieces text []
  pub exact : tokens ≡ tokens_of 0 pieces

-- The first text that is no token, white space or comment starts there.
pub record IsLexicalFault (text : List ℕ) (fault : Fault) (at : ℕ) : Type 0 where
  pub pieces : List Piece
  pub rest : List ℕ
  pub good : AreGood pieces
  pub cut : Cut pieces text rest
  pub place : at ≡ size pieces
  pub bytes : List ℕ
  pub after : List ℕ
  pub faulty : IsLongest word rest bytes after (Bad fault)
