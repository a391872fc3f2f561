-- What an operation without faults gives is a number of 64 bits.
use Rattle.std.proofs.Common.{ℕ, ◌+◌, ◌-◌, ◌*◌, ◌/◌, ◌^◌, ◌<◌, Bool, true, false, cond, ltb, arith}
use Rattle.std.specs.Prelude.{bit_and, bit_or, bit_xor}
use Rattle.std.specs.Int.Bits.{and_lt}
use Rattle.std.proofs.Math.Nat.{div-le_self}
use Rattle.std.proofs.lemmas.Nat.{or_lt, xor_lt}
use Rattle.seh_num.specs.declared.width.Width.{Width}
use Rattle.seh_num.specs.declared.width.Width.TheVariants.{W8, W16, W32, W64}
use Rattle.seh_num.specs.Widths.{limit, half, low, signed}
use Rattle.seh_num.proofs.Below.{low_below, wrapped_below}
use Rattle.c_operations.specs.declared.operation.Size.{Size}
use Rattle.c_operations.specs.declared.operation.Size.TheVariants.{Int, Long}
use Rattle.c_operations.specs.declared.operation.Signedness.{Signedness}
use Rattle.c_operations.specs.declared.operation.Signedness.TheVariants.{Unsigned, Signed}
use Rattle.c_operations.specs.declared.operation.Pure.{Pure}
use Rattle.c_operations.specs.declared.operation.Pure.TheVariants as pures
use Rattle.c_operations.specs.Numbers.{width, are_related, extended, shifted_right, result_of}

-- a number of an int or a long is one of 64 bits
pub of_size : (z : Size) (n : ℕ) → n < limit (width z) → n < 2 ^ 64
of_size Int n lt = omega arith
of_size Long n lt = lt

one_small : (b : Bool) → cond b 1 0 < 2 ^ 64
one_small true = omega arith
one_small false = omega arith

less_all : (w : Width) (n : ℕ) → limit w - 1 - n < limit w
less_all W8 n = omega arith
less_all W16 n = omega arith
less_all W32 n = omega arith
less_all W64 n = omega arith

extended_small : (s : Signedness) (n : Width) (z : Size) (a : ℕ)
    → extended s n (width z) a < limit (width z)
extended_small Unsigned n z a = low_below (width z) (low n a)
extended_small Signed n z a = wrapped_below (width z) (signed n a)

bits_small : (z : Size) (f : ℕ → ℕ → ℕ) → ((k a b : ℕ) → a < 2 ^ k → b < 2 ^ k → f a b < 2 ^ k)
    → (a b : ℕ) → f (low (width z) a) (low (width z) b) < 2 ^ 64
bits_small Int f h a b =
    let r = h 32 (low W32 a) (low W32 b) (omega arith) (omega arith) in omega arith
bits_small Long f h a b = h 64 (low W64 a) (low W64 b) (omega arith) (omega arith)

moved_small : (w : Width) (a p more : ℕ) (b : Bool) → a < limit w
    → cond b (a / p) (low w (a / p + more)) < limit w
moved_small w a p more true lt = let d = div-le_self a p in omega arith
moved_small w a p more false lt = low_below w (a / p + more)

right_small : (s : Signedness) (w : Width) (a c : ℕ) → a < limit w → shifted_right s w a c < limit w
right_small Unsigned w a c lt = let d = div-le_self a (2 ^ c) in omega arith
right_small Signed w a c lt =
    moved_small w a (2 ^ c) (limit w - limit w / 2 ^ c) (ltb a (half w)) lt

-- a result is a number of 64 bits
pub result_small : (p : Pure) (a b : ℕ) → a < 2 ^ 64 → result_of p a b < 2 ^ 64
result_small (pures.Constant n) a b lt = omega arith
result_small pures.First a b lt = lt
result_small (pures.Extend s n z) a b lt =
    of_size z (extended s n (width z) a) (extended_small s n z a)
result_small (pures.Not z) a b lt =
    of_size z (limit (width z) - 1 - low (width z) a) (less_all (width z) (low (width z) a))
result_small (pures.Negate z) a b lt =
    of_size z (low (width z) (limit (width z) - low (width z) a))
    (low_below (width z) (limit (width z) - low (width z) a))
result_small (pures.Add z) a b lt = of_size z (low (width z) (a + b)) (low_below (width z) (a + b))
result_small (pures.Subtract z) a b lt =
    of_size z (low (width z) (a + (limit (width z) - low (width z) b)))
    (low_below (width z) (a + (limit (width z) - low (width z) b)))
result_small (pures.Multiply z) a b lt =
    of_size z (low (width z) (low (width z) a * low (width z) b))
    (low_below (width z) (low (width z) a * low (width z) b))
result_small (pures.MultiplyBy n) a b lt = low_below W64 (low W64 a * low W64 n)
result_small (pures.And z) a b lt = bits_small z bit_and and_lt a b
result_small (pures.Or z) a b lt = bits_small z bit_or or_lt a b
result_small (pures.Xor z) a b lt = bits_small z bit_xor xor_lt a b
result_small (pures.ShiftLeft z) a b lt =
    of_size z (result_of (pures.ShiftLeft z) a b) (low_below (width z) _)
result_small (pures.ShiftRight s z) a b lt =
    of_size z (result_of (pures.ShiftRight s z) a b)
    (right_small s (width z) (low (width z) a) _ (low_below (width z) a))
result_small (pures.Compare r s z) a b lt = one_small (are_related r s (width z) a b)
