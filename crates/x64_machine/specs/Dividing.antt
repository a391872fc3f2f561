-- Division of RDX and RAX together (Intel manual, volume 2, DIV and IDIV).
--
-- The main definition: `divided`.
use Rattle.std.specs.Prelude.{ℕ, ◌+◌, ◌*◌, nat_lt, if◌then◌else◌, ℤ, pos, ◌-ℤ◌, Result, Ok, Err}
use Rattle.seh_num.specs.declared.width.Width.{Width}
use Rattle.seh_num.specs.declared.division.DivFault.{DivFault}
use Rattle.seh_num.specs.Widths.{limit, half, signed, wrapped}
use Rattle.seh_num.specs.Division.{divided_signed, divided_unsigned}
use Rattle.x64_instr.specs.declared.instruction.Division.{Division}
use Rattle.x64_instr.specs.declared.instruction.Division.TheVariants.{Unsigned, Signed}

-- the high half and the low half
abbrev pub joined : Width → ℕ → ℕ → ℕ
joined w high low = high * limit w + low

-- two's complement of twice the width
abbrev pub signed_double : Width → ℕ → ℤ
signed_double w n = if nat_lt n (limit w * half w) then pos n else pos n -ℤ pos (limit w * limit w)

abbrev pub wrapped_both : Width → Result (ℤ × ℤ) DivFault → Result (ℕ × ℕ) DivFault
wrapped_both w (Ok x) = Ok (wrapped w x.0, wrapped w x.1)
wrapped_both w (Err e) = Err e

-- quotient towards zero and remainder of RDX and RAX together. By 0 is the fault C0000094, a
-- quotient that doesn't fit C0000095; a fault changes nothing.
abbrev pub divided : Division → Width → ℕ → ℕ → Result (ℕ × ℕ) DivFault
divided Unsigned w n d = divided_unsigned w n d
divided Signed w n d = wrapped_both w (divided_signed w (signed_double w n) (signed w d))
