-- Shifts (Intel manual, volume 2, SAL/SAR/SHL/SHR).
--
-- The main definitions: `shifted`, `shift_flags`.
use Rattle.std.specs.Prelude.{ℕ, ◌+◌, ◌-◌, ◌*◌, ◌/◌, ◌%◌, ◌^◌, Bool, true, false, not, ◌==◌, nat_lt, nat_le, nat_eq, if◌then◌else◌}
use Rattle.seh_num.specs.declared.width.Width.{Width}
use Rattle.seh_num.specs.declared.width.Width.TheVariants.{W64}
use Rattle.seh_num.specs.Widths.{limit, half, low}
use Rattle.x64_instr.specs.declared.instruction.Direction.{Direction}
use Rattle.x64_instr.specs.declared.instruction.Direction.TheVariants.{Left, Right, ArithmeticRight}
use Rattle.x64_machine.specs.declared.cpu.Flags.{Flags}

-- counts are taken modulo 32, at 64 bits modulo 64
abbrev pub count_of : Width → ℕ → ℕ
count_of W64 n = n % 64
count_of w n = n % 32

-- the bits of a number of the width, moved; an arithmetic shift brings copies of the top bit in
abbrev pub shifted : Direction → Width → ℕ → ℕ → ℕ
shifted Left w a c = low w (a * 2 ^ c)
shifted Right w a c = a / 2 ^ c
shifted ArithmeticRight w a c =
    if nat_lt a (half w) then a / 2 ^ c else low w (a / 2 ^ c + (limit w - limit w / 2 ^ c))

-- the last bit that was moved out, of a count above 0
abbrev pub last_out : Direction → Width → ℕ → ℕ → Bool
last_out Left w a c = a * 2 ^ c / limit w % 2 == 1
last_out d w a c = a / 2 ^ (c - 1) % 2 == 1

-- one holds and the other doesn't
abbrev pub differ : Bool → Bool → Bool
differ true b = not b
differ false b = b

-- OF of a shift by 1: to the left the result's top bit xor CF, to the right the old top bit
abbrev pub overflow_of : Direction → Width → ℕ → Bool
overflow_of Left w a = differ (nat_le (half w) (low w (a * 2))) (nat_le (half w) a)
overflow_of Right w a = nat_le (half w) a
overflow_of ArithmeticRight w a = false

-- a count of 0 leaves the flags, and one above 1 leaves OF
abbrev pub shift_flags : Direction → Width → ℕ → ℕ → Flags → Flags
shift_flags d w a c f =
    if c == 0 then f
    else record {
      carry = last_out d w a c;
      zero = nat_eq (shifted d w a c) 0;
      sign = nat_le (half w) (shifted d w a c);
      overflow = if c == 1 then overflow_of d w a else f.overflow;
    }
