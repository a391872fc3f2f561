-- The widths of numbers, and the numbers that bits represent.
--
-- `Width`: 8, 16, 32 or 64 bits (Intel manual, volume 1, "Fundamental Data Types"). `limit` is 2 to
-- the width, `low w n` is n modulo it.
--
-- The main definitions: `signed`, `wrapped`.
use Rattle.std.specs.Prelude.{◌≡◌, ℕ, Bool, true, false, ◌-◌, ◌%◌, ◌^◌, nat_lt, if◌then◌else◌, ℤ, pos, negsuc, ◌+ℤ◌, ◌-ℤ◌, ◌*ℤ◌}
use Rattle.seh_num.specs.declared.width.Width.{Width}
use Rattle.seh_num.specs.declared.width.Width.TheVariants.{W8, W16, W32, W64}

abbrev pub bytes_of : Width → ℕ
bytes_of W8 = 1
bytes_of W16 = 2
bytes_of W32 = 4
bytes_of W64 = 8

-- the unsigned numbers of a width are those below its limit
abbrev pub limit : Width → ℕ
limit W8 = 2 ^ 8
limit W16 = 2 ^ 16
limit W32 = 2 ^ 32
limit W64 = 2 ^ 64

-- the signed numbers of a width are those from - half to half - 1
abbrev pub half : Width → ℕ
half W8 = 2 ^ 7
half W16 = 2 ^ 15
half W32 = 2 ^ 31
half W64 = 2 ^ 63

-- the low bits of a number
abbrev pub low : Width → ℕ → ℕ
low w n = n % limit w

-- the low bits in two's complement: those below half of the limit are themselves, the others less
-- by the limit (Intel manual, volume 1, "Signed Integers")
abbrev pub signed : Width → ℕ → ℤ
signed w n = if nat_lt (low w n) (half w) then pos (low w n) else pos (low w n) -ℤ pos (limit w)

-- a whole number modulo the limit, from 0 up
abbrev pub wrapped : Width → ℤ → ℕ
wrapped w (pos n) = n % limit w
wrapped w (negsuc n) = limit w - 1 - n % limit w

-- n differs from z by a multiple of the limit
abbrev pub IsCongruent : Width → ℤ → ℕ → Type 0
IsCongruent w z n = (k : ℤ) × (z ≡ pos n +ℤ (k *ℤ pos (limit w)))

-- what a flag adds to a number: its value where it is set
abbrev pub if_set : Bool → ℕ → ℕ
if_set true v = v
if_set false v = 0
