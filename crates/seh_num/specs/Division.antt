-- Division towards zero.
--
-- `divided_signed`, `divided_unsigned`: the quotient towards zero and the remainder with the
-- dividend's sign. For the divisor 0 it is Zero, else Overflow where the quotient doesn't fit
-- (Intel manual, volume 2, DIV and IDIV; C reference, "Multiplicative operators"). The relations
-- IsSignedDivision and IsUnsignedDivision say what quotient and remainder are.
use Rattle.std.specs.Prelude.{◌≡◌, ℕ, ◌+◌, ◌*◌, ◌/◌, ◌%◌, ◌<◌, Bool, ◌==◌, nat_lt, if◌then◌else◌, ℤ, pos, negsuc, ◌+ℤ◌, ◌*ℤ◌, ◌≤ℤ◌, int_div, int_rem, unsigned_abs, Result, Ok, Err}
use Rattle.seh_num.specs.declared.width.Width.{Width}
use Rattle.seh_num.specs.declared.division.DivFault.{DivFault}
use Rattle.seh_num.specs.declared.division.DivFault.TheVariants.{Zero, Overflow}
use Rattle.seh_num.specs.Widths.{limit, half}

-- z is a signed number of the width
abbrev pub is_signed : Width → ℤ → Bool
is_signed w (pos n) = nat_lt n (half w)
is_signed w (negsuc n) = nat_lt n (half w)

abbrev pub divided_signed : Width → ℤ → ℤ → Result (ℤ × ℤ) DivFault
divided_signed w a b =
    if unsigned_abs b == 0 then Err Zero
    else (if is_signed w (int_div a b) then Ok (int_div a b, int_rem a b)
    else Err Overflow)

abbrev pub divided_unsigned : Width → ℕ → ℕ → Result (ℕ × ℕ) DivFault
divided_unsigned w a b =
    if b == 0 then Err Zero
    else (if nat_lt (a / b) (limit w) then Ok (a / b, a % b)
    else Err Overflow)

-- r is 0 or on a's side of 0
abbrev pub HasSignOf : ℤ → ℤ → Type 0
HasSignOf (pos n) r = pos 0 ≤ℤ r
HasSignOf (negsuc n) r = r ≤ℤ pos 0

-- q times b and r make a; r is nearer to 0 than b, and on a's side of it
pub record IsSignedDivision (a b q r : ℤ) : Type 0 where
  pub sum : a ≡ (q *ℤ b) +ℤ r
  pub small : unsigned_abs r < unsigned_abs b
  pub sign : HasSignOf a r

pub record IsUnsignedDivision (a b q r : ℕ) : Type 0 where
  pub sum : a ≡ q * b + r
  pub small : r < b
