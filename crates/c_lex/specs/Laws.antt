-- What holds of every text.
use Rattle.std.specs.Prelude.{◌≡◌, ◌≤◌, ◌<◌, ◌+◌, ◌⊎◌, ℕ, List, [], ◌∷◌, ◌++◌, length, Some}
use Rattle.c_lex.specs.declared.keyword.Keyword.{Keyword}
use Rattle.c_lex.specs.declared.reserved.Reserved.{Reserved}
use Rattle.c_lex.specs.declared.punctuator.Punctuator.{Punctuator}
use Rattle.c_lex.specs.declared.token.Kind.TheVariants as kinds
use Rattle.c_lex.specs.declared.token.Token.{Token}
use Rattle.c_lex.specs.declared.word.Word.TheVariants.{Lexeme, Blank}
use Rattle.c_lex.specs.declared.word.Fault.{Fault}
use Rattle.c_lex.specs.Keywords as keywords
use Rattle.c_lex.specs.ReservedWords as reserved_words
use Rattle.c_lex.specs.Punctuators as punctuators
use Rattle.c_lex.specs.Words.{word}
use Rattle.c_lex.specs.Text.{IsTokens, IsLexicalFault}

-- a text has one list of tokens
abbrev pub OneList : Type 0
OneList = (text : List ℕ) (ts us : List Token) → IsTokens text ts → IsTokens text us → ts ≡ us

-- a text has one first fault
abbrev pub OneFault : Type 0
OneFault =
    (text : List ℕ) (f g : Fault) (at to : ℕ) → IsLexicalFault text f at → IsLexicalFault text g to
    → (f ≡ g) × (at ≡ to)

-- a text with a list has no fault
abbrev pub NotBoth : Type 0
NotBoth =
    (text : List ℕ) (ts : List Token) (f : Fault) (at : ℕ) → IsTokens text ts
    → IsLexicalFault text f at → ⊥

-- a text has a list or a first fault
abbrev pub EachText : Type 0
EachText =
    (text : List ℕ) → ((ts : List Token) × IsTokens text ts)
    ⊎ ((f : Fault) × (at : ℕ) × IsLexicalFault text f at)

-- each token has bytes, begins where the one before it ends or later, and the last ends within the
-- text
abbrev pub Rises : ℕ → List Token → ℕ → Type 0
Rises at [] end = at ≤ end
Rises at (t ∷ ts) end = (at ≤ t.start) × (t.start < t.end) × Rises t.end ts end

abbrev pub RangesRise : Type 0
RangesRise = (text : List ℕ) (ts : List Token) → IsTokens text ts → Rises 0 ts (length text)

-- white space and comments one after another
abbrev pub IsBlank : List (List ℕ) → List ℕ → Type 0
IsBlank [] bytes = bytes ≡ []
IsBlank (w ∷ ws) bytes =
    (rest : List ℕ) × (bytes ≡ w ++ rest) × (word w ≡ Some Blank) × IsBlank ws rest

-- A text that begins at a place: white space and comments, the bytes of the first token, and so on.
abbrev pub IsCovered : ℕ → List ℕ → List Token → Type 0
IsCovered at text [] = (blanks : List (List ℕ)) × IsBlank blanks text
IsCovered at text (t ∷ ts) =
    (blanks : List (List ℕ)) × (gap : List ℕ) × (bytes : List ℕ) × (rest : List ℕ)
    × (text ≡ gap ++ (bytes ++ rest)) × IsBlank blanks gap
    × (word bytes ≡ Some (Lexeme t.kind)) × (t.start ≡ at + length gap)
    × (t.end ≡ t.start + length bytes) × IsCovered t.end rest ts

-- every byte of a text belongs to a token, to white space or to a comment
abbrev pub EveryByte : Type 0
EveryByte = (text : List ℕ) (ts : List Token) → IsTokens text ts → IsCovered 0 text ts

-- each punctuator, keyword and reserved word is what its spelling is
abbrev pub Spellings : Type 0
Spellings =
    ((s : Punctuator) → word (punctuators.spelling s) ≡ Some (Lexeme (kinds.Punctuator s)))
    × ((k : Keyword) → word (keywords.spelling k) ≡ Some (Lexeme (kinds.Keyword k)))
    × ((r : Reserved) → word (reserved_words.spelling r) ≡ Some (Lexeme (kinds.Reserved r)))

-- and nothing else is
abbrev pub NoOtherSpellings : Type 0
NoOtherSpellings =
    ((s : Punctuator) (w : List ℕ) → punctuators.punctuator_of w ≡ Some s
    → w ≡ punctuators.spelling s)
    × ((k : Keyword) (w : List ℕ) → keywords.keyword_of w ≡ Some k → w ≡ keywords.spelling k)
    × ((r : Reserved) (w : List ℕ) → reserved_words.reserved_of w ≡ Some r
    → w ≡ reserved_words.spelling r)
