-- Integer literals (C11, 6.4.4.1).
--
-- An integer is digits of a base, then a suffix. The value is the sum of the digits by their
-- places; the type is the first of its list that holds it (C11, 6.4.4.1; `long` has 32 bits).
use Rattle.std.specs.Prelude.{ℕ, ◌+◌, ◌-◌, ◌*◌, ◌^◌, Bool, true, false, ◌&&◌, ◌||◌, ◌==◌, nat_le}
use Rattle.std.specs.Prelude.{nat_lt, if◌then◌else◌, List, [], ◌∷◌, length, Option, Some, None}
use Rattle.std.specs.Prelude.{option_map, find}
use Rattle.c_lex.specs.Longest.{span}
use Rattle.c_lex.specs.declared.integer.Suffix.{Suffix}
use Rattle.c_lex.specs.declared.token.IntegerType.{IntegerType}
use Rattle.c_lex.specs.declared.token.IntegerType.TheVariants.{Int, Unsigned, LongLong}
use Rattle.c_lex.specs.declared.token.IntegerType.TheVariants.{UnsignedLongLong}
use Rattle.c_lex.specs.declared.token.Kind.TheVariants as kinds
use Rattle.c_lex.specs.declared.word.Word.{Word}
use Rattle.c_lex.specs.declared.word.Word.TheVariants.{Lexeme, Bad}
use Rattle.c_lex.specs.declared.word.Fault.TheVariants.{BigLiteral}

-- ---- suffixes: u, l, ll and both, u in either case, both letters of ll alike

abbrev pub is_u : ℕ → Bool
is_u b = b == 117 || b == 85

abbrev pub is_l : ℕ → Bool
is_l b = b == 108 || b == 76

abbrev pub suffix : Bool → Bool → Suffix
suffix unsigned long_long = record { unsigned = unsigned; long_long = long_long }

-- the suffix that is spelled so
unfoldable pub suffix_of : List ℕ → Option Suffix
suffix_of [] = Some (suffix false false)
suffix_of (a ∷ []) =
    if is_u a then Some (suffix true false)
    else (if is_l a then Some (suffix false false)
    else None)
suffix_of (a ∷ (b ∷ [])) =
    if is_u a && is_l b || is_l a && is_u b then Some (suffix true false)
    else (if is_l a && b == a then Some (suffix false true)
    else None)
suffix_of (a ∷ (b ∷ (c ∷ []))) =
    if is_u a && is_l b && c == b || is_l a && b == a && is_u c then Some (suffix true true)
    else None
suffix_of (a ∷ (b ∷ (c ∷ (d ∷ bs)))) = None

-- ---- types

abbrev pub limit : IntegerType → ℕ
limit Int = 2 ^ 31
limit Unsigned = 2 ^ 32
limit LongLong = 2 ^ 63
limit UnsignedLongLong = 2 ^ 64

-- by whether the literal is decimal, has u and has ll
abbrev pub types : Bool → Bool → Bool → List IntegerType
types true false false = Int ∷ LongLong ∷ UnsignedLongLong ∷ []
types false false false = Int ∷ Unsigned ∷ LongLong ∷ UnsignedLongLong ∷ []
types decimal true false = Unsigned ∷ UnsignedLongLong ∷ []
types decimal false true = LongLong ∷ UnsignedLongLong ∷ []
types decimal true true = UnsignedLongLong ∷ []

-- the first type that holds the value
unfoldable pub type_of : Bool → Suffix → ℕ → Option IntegerType
type_of decimal s n = find (λ t. nat_lt n (limit t)) (types decimal s.unsigned s.long_long)

abbrev pub typed : ℕ → Option IntegerType → Word
typed n (Some t) = Lexeme (kinds.Integer n t)
typed n None = Bad BigLiteral

-- a literal by its base, its value and its suffix
unfoldable pub literal : ℕ → ℕ → Suffix → Word
literal base n s = typed n (type_of (base == 10) s n)

-- ---- spelling

-- the value of a digit of bases up to 16; what is none has 16
unfoldable pub digit : ℕ → ℕ
digit b =
    if nat_le 48 b && nat_le b 57 then b - 48
    else (if nat_le 97 b && nat_le b 102 then b - 87
    else (if nat_le 65 b && nat_le b 70 then b - 55
    else 16))

-- the sum of digits by their places
abbrev pub place_value : ℕ → List ℕ → ℕ
place_value base [] = 0
place_value base (b ∷ bs) = digit b * base ^ length bs + place_value base bs

abbrev pub is_digit_of : ℕ → ℕ → Bool
is_digit_of base b = nat_lt (digit b) base

-- digits, and after them a suffix
unfoldable pub integer : ℕ → List ℕ → Option Word
integer base bytes =
    let parts = span (is_digit_of base) bytes in
    option_map (literal base (place_value base parts.0)) (suffix_of parts.1)

-- what may follow `0x`: a digit and more
abbrev pub hexadecimal : List ℕ → Option Word
hexadecimal [] = None
hexadecimal (b ∷ bs) = if is_digit_of 16 b then integer 16 (b ∷ bs) else None

-- what may follow a first 0
abbrev pub after_zero : List ℕ → Option Word
after_zero [] = integer 8 []
after_zero (b ∷ bs) = if b == 120 || b == 88 then hexadecimal bs else integer 8 (b ∷ bs)
