-- Punctuators (C11, 6.4.6).
use Rattle.std.specs.Prelude.{ℕ, Bool, true, false, ◌&&◌, ◌==◌, List, [], ◌∷◌, Option, find, codes}
use Rattle.c_lex.specs.declared.punctuator.Punctuator.{Punctuator}
use Rattle.c_lex.specs.declared.punctuator.Punctuator.TheVariants.{OpenParenthesis}
use Rattle.c_lex.specs.declared.punctuator.Punctuator.TheVariants.{CloseParenthesis, OpenBracket}
use Rattle.c_lex.specs.declared.punctuator.Punctuator.TheVariants.{CloseBracket, OpenBrace}
use Rattle.c_lex.specs.declared.punctuator.Punctuator.TheVariants.{CloseBrace, Semicolon, Comma}
use Rattle.c_lex.specs.declared.punctuator.Punctuator.TheVariants.{Question, Colon, Arrow, Assign}
use Rattle.c_lex.specs.declared.punctuator.Punctuator.TheVariants.{PlusAssign, MinusAssign}
use Rattle.c_lex.specs.declared.punctuator.Punctuator.TheVariants.{StarAssign, SlashAssign}
use Rattle.c_lex.specs.declared.punctuator.Punctuator.TheVariants.{PercentAssign, AmpersandAssign}
use Rattle.c_lex.specs.declared.punctuator.Punctuator.TheVariants.{BarAssign, CaretAssign}
use Rattle.c_lex.specs.declared.punctuator.Punctuator.TheVariants.{ShiftLeftAssign}
use Rattle.c_lex.specs.declared.punctuator.Punctuator.TheVariants.{ShiftRightAssign, BarBar}
use Rattle.c_lex.specs.declared.punctuator.Punctuator.TheVariants.{AmpersandAmpersand, Bar, Caret}
use Rattle.c_lex.specs.declared.punctuator.Punctuator.TheVariants.{Ampersand, Equal, NotEqual, Less}
use Rattle.c_lex.specs.declared.punctuator.Punctuator.TheVariants.{Greater, LessEqual, GreaterEqual}
use Rattle.c_lex.specs.declared.punctuator.Punctuator.TheVariants.{ShiftLeft, ShiftRight, Plus}
use Rattle.c_lex.specs.declared.punctuator.Punctuator.TheVariants.{Minus, Star, Slash, Percent}
use Rattle.c_lex.specs.declared.punctuator.Punctuator.TheVariants.{Exclamation, Tilde, PlusPlus}
use Rattle.c_lex.specs.declared.punctuator.Punctuator.TheVariants.{MinusMinus}

abbrev pub spelling : Punctuator → List ℕ
spelling OpenParenthesis = codes "("
spelling CloseParenthesis = codes ")"
spelling OpenBracket = codes "["
spelling CloseBracket = codes "]"
spelling OpenBrace = codes "{"
spelling CloseBrace = codes "}"
spelling Semicolon = codes ";"
spelling Comma = codes ","
spelling Question = codes "?"
spelling Colon = codes ":"
spelling Arrow = codes "->"
spelling Assign = codes "="
spelling PlusAssign = codes "+="
spelling MinusAssign = codes "-="
spelling StarAssign = codes "*="
spelling SlashAssign = codes "/="
spelling PercentAssign = codes "%="
spelling AmpersandAssign = codes "&="
spelling BarAssign = codes "|="
spelling CaretAssign = codes "^="
spelling ShiftLeftAssign = codes "<<="
spelling ShiftRightAssign = codes ">>="
spelling BarBar = codes "||"
spelling AmpersandAmpersand = codes "&&"
spelling Bar = codes "|"
spelling Caret = codes "^"
spelling Ampersand = codes "&"
spelling Equal = codes "=="
spelling NotEqual = codes "!="
spelling Less = codes "<"
spelling Greater = codes ">"
spelling LessEqual = codes "<="
spelling GreaterEqual = codes ">="
spelling ShiftLeft = codes "<<"
spelling ShiftRight = codes ">>"
spelling Plus = codes "+"
spelling Minus = codes "-"
spelling Star = codes "*"
spelling Slash = codes "/"
spelling Percent = codes "%"
spelling Exclamation = codes "!"
spelling Tilde = codes "~"
spelling PlusPlus = codes "++"
spelling MinusMinus = codes "--"

-- those of expressions, but for brackets, `?`, `:`, `->` and assignments
abbrev pub IsOperator : Punctuator → Type 0
IsOperator BarBar = Unit {0}
IsOperator AmpersandAmpersand = Unit {0}
IsOperator Bar = Unit {0}
IsOperator Caret = Unit {0}
IsOperator Ampersand = Unit {0}
IsOperator Equal = Unit {0}
IsOperator NotEqual = Unit {0}
IsOperator Less = Unit {0}
IsOperator Greater = Unit {0}
IsOperator LessEqual = Unit {0}
IsOperator GreaterEqual = Unit {0}
IsOperator ShiftLeft = Unit {0}
IsOperator ShiftRight = Unit {0}
IsOperator Plus = Unit {0}
IsOperator Minus = Unit {0}
IsOperator Star = Unit {0}
IsOperator Slash = Unit {0}
IsOperator Percent = Unit {0}
IsOperator Exclamation = Unit {0}
IsOperator Tilde = Unit {0}
IsOperator PlusPlus = Unit {0}
IsOperator MinusMinus = Unit {0}
IsOperator other = ⊥

abbrev pub punctuators : List Punctuator
punctuators =
    OpenParenthesis ∷ CloseParenthesis ∷ OpenBracket ∷ CloseBracket ∷ OpenBrace ∷ CloseBrace ∷
    Semicolon ∷ Comma ∷ Question ∷ Colon ∷ Arrow ∷ Assign ∷
    PlusAssign ∷ MinusAssign ∷ StarAssign ∷ SlashAssign ∷ PercentAssign ∷ AmpersandAssign ∷
    BarAssign ∷ CaretAssign ∷ ShiftLeftAssign ∷ ShiftRightAssign ∷ BarBar ∷ AmpersandAmpersand ∷
    Bar ∷ Caret ∷ Ampersand ∷ Equal ∷ NotEqual ∷ Less ∷
    Greater ∷ LessEqual ∷ GreaterEqual ∷ ShiftLeft ∷ ShiftRight ∷ Plus ∷
    Minus ∷ Star ∷ Slash ∷ Percent ∷ Exclamation ∷ Tilde ∷
    PlusPlus ∷ MinusMinus ∷ []

-- the bytes are the same, the last ones first
abbrev pub is_same : List ℕ → List ℕ → Bool
is_same [] [] = true
is_same [] (b ∷ bs) = false
is_same (a ∷ as_) [] = false
is_same (a ∷ as_) (b ∷ bs) = is_same as_ bs && a == b

-- the punctuator that is spelled so
unfoldable pub punctuator_of : List ℕ → Option Punctuator
punctuator_of word = find (λ s. is_same word (spelling s)) punctuators
