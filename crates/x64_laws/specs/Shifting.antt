-- What SHL and SHR leave as products and quotients by powers of two, and what the three shifts make
-- of the flags (Intel manual, volume 2, SAL/SAR/SHL/SHR).
use Rattle.std.specs.Prelude.{◌≡◌, ℕ, ◌-◌, ◌*◌, ◌^◌, ◌<◌, Bool, false, not, nat_eq, int_lt, pos, ◌*ℤ◌, IsOkAnd}
use Rattle.std.specs.Int.{bit_at}
use Rattle.seh_num.specs.declared.width.Width.{Width}
use Rattle.seh_num.specs.Widths.{bytes_of, limit, signed}
use Rattle.seh_num.specs.Division.{is_signed}
use Rattle.x64_instr.specs.declared.register.Reg.{Reg}
use Rattle.x64_instr.specs.declared.operand.RegisterOrMemory.TheVariants as places
use Rattle.x64_instr.specs.declared.instruction.Direction.{Direction}
use Rattle.x64_instr.specs.declared.instruction.Direction.TheVariants.{Left, Right, ArithmeticRight}
use Rattle.x64_instr.specs.declared.instruction.Count.{Count}
use Rattle.x64_instr.specs.declared.instruction.Instr.TheVariants as instrs
use Rattle.x64_machine.specs.declared.cpu.Flags.{Flags}
use Rattle.x64_machine.specs.Shifts.{count_of}
use Rattle.x64_machine.specs.Effect.{State, amount, effect}
use Rattle.x64_laws.specs.Destinations.{HasRegisters, unsigned_in, Puts}
use Rattle.x64_laws.specs.Arithmetic.{IsOf, IsFloor}

-- the register takes the number that P says, and the flags are what F says of it
abbrev pub Shifts : Direction → (Width → ℕ → ℕ → ℕ → Type 0)
    → (Width → ℕ → ℕ → ℕ → Flags → Flags → Type 0) → Type 0
Shifts d P F =
    (s : State) (w : Width) (to : Reg) (by : Count) → HasRegisters s
    → let c = count_of w (amount s.cpu by) in
    let a = unsigned_in w s to in
    IsOkAnd (effect s (instrs.Shift d w (places.Register to) by))
    (λ t. Puts s w to (P w a c) t.cpu.flags t
    × F w a c (unsigned_in w t to) s.cpu.flags t.cpu.flags)

-- CF, of a count below the number of the width's bits, is the last bit moved out, and OF, of a
-- count of 1, is o; ZF and SF are set by the result n. A count of 0 changes no flag, and one above
-- 1 doesn't change OF
pub record ShiftFlags (w : Width) (c out : ℕ) (o : Bool) (n : ℕ) (f g : Flags) : Type 0 where
  pub unmoved : c ≡ 0 → g ≡ f
  pub carry : 0 < c → c < 8 * bytes_of w → g.carry ≡ nat_eq out 1
  pub zero : 0 < c → g.zero ≡ nat_eq n 0
  pub sign : 0 < c → g.sign ≡ int_lt (signed w n) (pos 0)
  pub overflow_of_one : c ≡ 1 → g.overflow ≡ o
  pub overflow_of_more : 1 < c → g.overflow ≡ f.overflow

-- n is a times 2 to the c, modulo the limit: of unsigned and of signed numbers
pub record IsShiftedProduct (w : Width) (a c n : ℕ) : Type 0 where
  pub of_unsigned : a * 2 ^ c < limit w → n ≡ a * 2 ^ c
  pub of_signed : IsOf w (signed w a *ℤ pos (2 ^ c)) n

-- SHL moves out the bit that is c places below the end; OF says that twice the signed number
-- doesn't fit
abbrev pub ShlIsProduct : Type 0
ShlIsProduct =
    Shifts Left IsShiftedProduct (λ w a c. ShiftFlags w c (bit_at a (8 * bytes_of w - c))
    (not (is_signed w (signed w a *ℤ pos 2))))

-- SHR: the floor of the unsigned quotient by 2 to the c; OF is the top bit of the number
abbrev pub ShrIsQuotient : Type 0
ShrIsQuotient =
    Shifts Right (λ w a c n. IsFloor (pos a) (2 ^ c) (pos n)) (λ w a c. ShiftFlags w c
    (bit_at a (c - 1)) (int_lt (signed w a) (pos 0)))

-- SAR: OF is cleared
abbrev pub SarSetsFlags : Type 0
SarSetsFlags =
    Shifts ArithmeticRight (λ w a c n. Unit {0}) (λ w a c. ShiftFlags w c (bit_at a (c - 1)) false)
