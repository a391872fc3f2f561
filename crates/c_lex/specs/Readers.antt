-- How far each reader goes.
use Rattle.std.specs.Prelude.{ℕ, ◌+◌, ◌*◌, ◌&&◌, ◌||◌, ◌==◌, nat_lt, if◌then◌else◌, List, [], ◌∷◌}
use Rattle.std.specs.Prelude.{Option, Some, None}
use Rattle.c_lex.specs.Integers.{digit}

-- the value of the digits at the front after digits that make n, and the rest
abbrev pub number : ℕ → ℕ → List ℕ → ℕ × List ℕ
number base n [] = (n, [])
number base n (b ∷ bs) =
    if nat_lt (digit b) base then number base (base * n + digit b) bs else (n, b ∷ bs)

-- the first digit after an `x` at the front, and the rest
abbrev pub hexadecimal : List ℕ → Option (ℕ × List ℕ)
hexadecimal [] = None
hexadecimal (x ∷ []) = None
hexadecimal (x ∷ (b ∷ bs)) =
    if (x == 120 || x == 88) && nat_lt (digit b) 16 then Some (digit b, bs) else None

-- ---- the longest of at most three bytes, or else x

abbrev pub either : {A : Type 0} → Option A → List ℕ → A × List ℕ → A × List ℕ
either None rest r = r
either (Some x) rest r = (x, rest)

abbrev pub one : {A : Type 0} → (List ℕ → Option A) → A → List ℕ → A × List ℕ
one of x [] = (x, [])
one of x (a ∷ rest) = either (of (a ∷ [])) rest (x, a ∷ rest)

abbrev pub two : {A : Type 0} → (List ℕ → Option A) → A → List ℕ → A × List ℕ
two of x [] = one of x []
two of x (a ∷ []) = one of x (a ∷ [])
two of x (a ∷ (b ∷ rest)) = either (of (a ∷ b ∷ [])) rest (one of x (a ∷ b ∷ rest))

abbrev pub three : {A : Type 0} → (List ℕ → Option A) → A → List ℕ → A × List ℕ
three of x [] = two of x []
three of x (a ∷ []) = two of x (a ∷ [])
three of x (a ∷ (b ∷ [])) = two of x (a ∷ b ∷ [])
three of x (a ∷ (b ∷ (c ∷ rest))) = either (of (a ∷ b ∷ c ∷ [])) rest (two of x (a ∷ b ∷ c ∷ rest))
