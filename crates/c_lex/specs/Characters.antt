-- CharacterConstant constants of one character (C11, 6.4.4.4).
--
-- A character is a byte from 32 to 126, an escape, or `\x` and two digits, between quotes, as a
-- signed char (C11, 6.4.4.4).
use Rattle.std.specs.Prelude.{ℕ, ℤ, pos, ◌+◌, ◌*◌, ◌-ℤ◌, Bool, ◌&&◌, ◌==◌, not, nat_le, nat_lt}
use Rattle.std.specs.Prelude.{if◌then◌else◌, List, [], ◌∷◌, Option, Some, None, option_map}
use Rattle.c_lex.specs.declared.token.Kind.TheVariants as kinds
use Rattle.c_lex.specs.declared.word.Word.{Word}
use Rattle.c_lex.specs.declared.word.Word.TheVariants.{Lexeme, Bad}
use Rattle.c_lex.specs.declared.word.Fault.TheVariants.{BadChar}
use Rattle.c_lex.specs.Integers.{digit}

-- 32 to 126 other than `'` and `\`
abbrev pub is_plain : ℕ → Bool
is_plain b = nat_le 32 b && nat_le b 126 && not (b == 39) && not (b == 92)

-- the value as a signed char
abbrev pub signed_char : ℕ → ℤ
signed_char n = if nat_lt n 128 then pos n else pos n -ℤ pos 256

-- what a letter after a `\` means
unfoldable pub escaped : ℕ → Option ℕ
escaped b =
    if b == 110 then Some 10  -- \n
    else (if b == 116 then Some 9  -- \t
    else (if b == 114 then Some 13  -- \r
    else (if b == 48 then Some 0  -- \0
    else (if b == 92 then Some 92
    else (if b == 39 then Some 39
    else (if b == 34 then Some 34
    else None))))))

abbrev pub char : ℕ → Word
char n = Lexeme (kinds.CharacterConstant (signed_char n))

abbrev pub is_hexadecimal : ℕ → Bool
is_hexadecimal b = nat_lt (digit b) 16

-- what may follow a quote: a byte, an escape, or `\x` and two digits, and a quote; alone it is no
-- character
unfoldable pub quoted : List ℕ → Option Word
quoted [] = Some (Bad BadChar)
quoted (b ∷ []) = None
quoted (b ∷ (q ∷ [])) = if q == 39 && is_plain b then Some (char b) else None
quoted (s ∷ (b ∷ (q ∷ []))) = if q == 39 && s == 92 then option_map char (escaped b) else None
quoted (s ∷ (x ∷ (a ∷ (b ∷ [])))) = None
quoted (s ∷ (x ∷ (a ∷ (b ∷ (q ∷ []))))) =
    if q == 39 && (s == 92 && (x == 120 && (is_hexadecimal a && is_hexadecimal b)))
    then Some (char (16 * digit a + digit b))
    else None
quoted (s ∷ (x ∷ (a ∷ (b ∷ (q ∷ (c ∷ bs)))))) = None
