-- Characters as they are read from the left.
use Rattle.std.specs.Prelude.{ℕ, ℤ, ◌+◌, ◌*◌, ◌&&◌, ◌==◌, nat_lt, if◌then◌else◌, List, [], ◌∷◌}
use Rattle.std.specs.Prelude.{Option, Some, None}
use Rattle.c_lex.specs.declared.token.Kind.TheVariants as kinds
use Rattle.c_lex.specs.declared.word.Word.{Word}
use Rattle.c_lex.specs.declared.word.Word.TheVariants.{Lexeme, Bad}
use Rattle.c_lex.specs.declared.word.Fault.TheVariants.{BadChar}
use Rattle.c_lex.specs.Integers.{digit}
use Rattle.c_lex.specs.Characters.{is_plain, signed_char, escaped}

-- what reading gives: the value and the bytes after the closing quote
abbrev pub closed : Option ℕ → List ℕ → Option (ℤ × List ℕ)
closed None bs = None
closed (Some n) [] = None
closed (Some n) (b ∷ bs) = if b == 39 then Some (signed_char n, bs) else None

-- after `\x`
abbrev pub two_digits : List ℕ → Option (ℤ × List ℕ)
two_digits [] = None
two_digits (a ∷ []) = None
two_digits (a ∷ (b ∷ bs)) =
    if nat_lt (digit a) 16 && nat_lt (digit b) 16 then closed (Some (16 * digit a + digit b)) bs
    else None

-- after `\`
abbrev pub escape : List ℕ → Option (ℤ × List ℕ)
escape [] = None
escape (b ∷ bs) = if b == 120 then two_digits bs else closed (escaped b) bs

-- after the opening quote
abbrev pub character : List ℕ → Option (ℤ × List ℕ)
character [] = None
character (b ∷ bs) =
    if b == 92 then escape bs
    else (if is_plain b then closed (Some b) bs
    else None)

-- all of the bytes
abbrev pub whole : Option (ℤ × List ℕ) → Option Word
whole None = None
whole (Some (v, [])) = Some (Lexeme (kinds.CharacterConstant v))
whole (Some (v, b ∷ bs)) = None

-- what may follow a quote; alone it is no character
abbrev pub quoted : List ℕ → Option Word
quoted [] = Some (Bad BadChar)
quoted (b ∷ bs) = whole (character (b ∷ bs))
