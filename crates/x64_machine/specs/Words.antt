-- Arithmetic of each width, by whole numbers.
use Rattle.std.specs.Prelude.{ℕ, ◌+◌, ◌-◌, ◌*◌, ◌%◌, ◌^◌, Bool, false, not, nat_lt, nat_le, nat_eq, ◌+ℤ◌, ◌-ℤ◌, ◌*ℤ◌}
use Rattle.seh_num.specs.declared.width.Width.{Width}
use Rattle.seh_num.specs.declared.width.Width.TheVariants.{W8, W16, W32, W64}
use Rattle.seh_num.specs.Widths.{limit, half, low, signed}
use Rattle.seh_num.specs.Division.{is_signed}
use Rattle.x64_machine.specs.declared.cpu.Flags.{Flags}

abbrev pub flags_of : Width → ℕ → Bool → Bool → Flags
flags_of w v carry overflow =
    record { carry = carry; zero = nat_eq v 0; sign = nat_le (half w) v; overflow = overflow }

-- a carry where the sum of the unsigned numbers doesn't fit, an overflow where that of the signed
-- ones doesn't
unfoldable pub added : Width → ℕ → ℕ → ℕ × Flags
added w a b = (
  low w (a + b),
  flags_of w (low w (a + b)) (nat_le (limit w) (a + b))
      (not (is_signed w (signed w a +ℤ signed w b))),
)

unfoldable pub subtracted : Width → ℕ → ℕ → ℕ × Flags
subtracted w a b = (
  low w (a + (limit w - b)),
  flags_of w (low w (a + (limit w - b))) (nat_lt a b)
      (not (is_signed w (signed w a -ℤ signed w b))),
)

unfoldable pub multiplied : Width → ℕ → ℕ → Flags → ℕ × Flags
multiplied w a b f =
    let lost = not (is_signed w (signed w a *ℤ signed w b)) in
    (low w (a * b), record f { carry = lost; overflow = lost })

-- AND, OR, XOR, TEST: neither carry nor overflow
abbrev pub logical : Width → ℕ → ℕ × Flags
logical w v = (v, flags_of w v false false)

-- each bit turned
abbrev pub inverted : Width → ℕ → ℕ
inverted w a = limit w - 1 - a

-- a write of 32 bits clears the upper half, and one of 8 or 16 bits leaves the rest
abbrev pub merged : Width → ℕ → ℕ → ℕ
merged W64 old v = low W64 v
merged W32 old v = low W32 v
merged W16 old v = old - old % 2 ^ 16 + v % 2 ^ 16
merged W8 old v = old - old % 2 ^ 8 + v % 2 ^ 8
