-- Integer literals as they are read from the left.
use Rattle.std.specs.Prelude.{ℕ, ◌+◌, ◌*◌, ◌||◌, ◌==◌, nat_lt, if◌then◌else◌, List, [], ◌∷◌, Option}
use Rattle.std.specs.Prelude.{None, option_map}
use Rattle.c_lex.specs.declared.word.Word.{Word}
use Rattle.c_lex.specs.Integers.{suffix_of, literal, digit}

-- what may follow digits that make n: further digits, and a suffix
abbrev pub digits : ℕ → ℕ → List ℕ → Option Word
digits base n [] = option_map (literal base n) (suffix_of [])
digits base n (b ∷ bs) =
    if nat_lt (digit b) base then digits base (base * n + digit b) bs
    else option_map (literal base n) (suffix_of (b ∷ bs))

-- what may follow `0x`: a digit and more
abbrev pub hexadecimal : List ℕ → Option Word
hexadecimal [] = None
hexadecimal (b ∷ bs) = if nat_lt (digit b) 16 then digits 16 (digit b) bs else None

-- what may follow a first 0
abbrev pub zero : List ℕ → Option Word
zero [] = digits 8 0 []
zero (b ∷ bs) = if b == 120 || b == 88 then hexadecimal bs else digits 8 0 (b ∷ bs)
