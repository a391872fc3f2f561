-- Results of the operations without faults, as whole numbers modulo 2^32 or 2^64.
--
-- `Size`: values are whole numbers modulo 2^32 (`Int`) or 2^64 (`Long`). A type of at most 32 bits
-- is kept as an `Int`, so that the integer promotions do nothing (C11, 6.3.1.1).
--
-- The main definition: `result_of`.
use Rattle.std.specs.Prelude.{ℕ, ◌+◌, ◌-◌, ◌*◌, ◌/◌, ◌%◌, ◌^◌, Bool, not, nat_eq, nat_lt}
use Rattle.std.specs.Prelude.{if◌then◌else◌, int_lt, bit_and, bit_or, bit_xor}
use Rattle.seh_num.specs.declared.width.Width.{Width}
use Rattle.seh_num.specs.declared.width.Width.TheVariants.{W32, W64}
use Rattle.seh_num.specs.Widths.{limit, half, low, signed, wrapped}
use Rattle.c_operations.specs.declared.operation.Size.{Size}
use Rattle.c_operations.specs.declared.operation.Size.TheVariants.{Int, Long}
use Rattle.c_operations.specs.declared.operation.Signedness.{Signedness}
use Rattle.c_operations.specs.declared.operation.Signedness.TheVariants.{Unsigned, Signed}
use Rattle.c_operations.specs.declared.operation.Relation.{Relation}
use Rattle.c_operations.specs.declared.operation.Relation.TheVariants as relations
use Rattle.c_operations.specs.declared.operation.Pure.{Pure}
use Rattle.c_operations.specs.declared.operation.Pure.TheVariants as pures

abbrev pub width : Size → Width
width Int = W32
width Long = W64

-- the bits of a size
abbrev pub bits : Size → ℕ
bits Int = 32
bits Long = 64

abbrev pub is_less : Signedness → Width → ℕ → ℕ → Bool
is_less Unsigned w a b = nat_lt (low w a) (low w b)
is_less Signed w a b = int_lt (signed w a) (signed w b)

abbrev pub are_equal : Width → ℕ → ℕ → Bool
are_equal w a b = nat_eq (low w a) (low w b)

abbrev pub are_related : Relation → Signedness → Width → ℕ → ℕ → Bool
are_related relations.Equal s w a b = are_equal w a b
are_related relations.NotEqual s w a b = not (are_equal w a b)
are_related relations.Less s w a b = is_less s w a b
are_related relations.LessOrEqual s w a b = not (is_less s w b a)
are_related relations.Greater s w a b = is_less s w b a
are_related relations.GreaterOrEqual s w a b = not (is_less s w a b)

abbrev pub extended : Signedness → Width → Width → ℕ → ℕ
extended Unsigned from to a = low to (low from a)
extended Signed from to a = wrapped to (signed from a)

-- `>>` by a count below the width: the quotient by a power of two, rounded down
abbrev pub shifted_right : Signedness → Width → ℕ → ℕ → ℕ
shifted_right Unsigned w a c = a / 2 ^ c
shifted_right Signed w a c =
    if nat_lt a (half w) then a / 2 ^ c else low w (a / 2 ^ c + (limit w - limit w / 2 ^ c))

-- what each operation without faults gives (C11, 6.5). There are sums, differences and products
-- modulo the limit, `&`, `|`, `^`, and shifts by the count modulo 32 or 64 (own). There are
-- relations of signed and of unsigned numbers too, and extensions by the sign or by zeros.
abbrev pub result_of : Pure → ℕ → ℕ → ℕ
result_of (pures.Constant v) a b = low W64 v
result_of pures.First a b = a
result_of (pures.Extend s from size) a b = extended s from (width size) a
result_of (pures.Not z) a b = limit (width z) - 1 - low (width z) a
result_of (pures.Negate z) a b = low (width z) (limit (width z) - low (width z) a)
result_of (pures.Add z) a b = low (width z) (a + b)
result_of (pures.Subtract z) a b = low (width z) (a + (limit (width z) - low (width z) b))
result_of (pures.Multiply z) a b = low (width z) (low (width z) a * low (width z) b)
result_of (pures.MultiplyBy n) a b = low W64 (low W64 a * low W64 n)
result_of (pures.And z) a b = bit_and (low (width z) a) (low (width z) b)
result_of (pures.Or z) a b = bit_or (low (width z) a) (low (width z) b)
result_of (pures.Xor z) a b = bit_xor (low (width z) a) (low (width z) b)
result_of (pures.ShiftLeft z) a b = low (width z) (low (width z) a * 2 ^ (b % bits z))
result_of (pures.ShiftRight s z) a b = shifted_right s (width z) (low (width z) a) (b % bits z)
result_of (pures.Compare r s z) a b = if are_related r s (width z) a b then 1 else 0
