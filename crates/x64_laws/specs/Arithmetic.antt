-- What instructions on registers leave, by whole numbers (Intel manual, volume 2, each
-- instruction's page). RIP is that of the next instruction.
--
-- The main definition: `IsFloor`.
use Rattle.std.specs.Prelude.{◌≡◌, ℕ, ◌+◌, ◌*◌, ◌^◌, ◌<◌, ◌≤◌, Bool, true, not, nat_lt, nat_le, ℤ, pos, ◌+ℤ◌, ◌-ℤ◌, ◌*ℤ◌, ◌≤ℤ◌, ◌<ℤ◌, IsOkAnd}
use Rattle.seh_num.specs.declared.width.Width.{Width}
use Rattle.seh_num.specs.Widths.{bytes_of, limit, signed, wrapped}
use Rattle.seh_num.specs.Division.{is_signed}
use Rattle.x64_instr.specs.declared.register.Reg.{Reg}
use Rattle.x64_instr.specs.declared.operand.RegisterOrMemory.TheVariants as places
use Rattle.x64_instr.specs.declared.operand.Operand.TheVariants as operands
use Rattle.x64_instr.specs.declared.instruction.Operation.TheVariants.{Add, Sub}
use Rattle.x64_instr.specs.declared.instruction.Direction.TheVariants.{ArithmeticRight}
use Rattle.x64_instr.specs.declared.instruction.Extension.TheVariants.{Sign, Zero}
use Rattle.x64_instr.specs.declared.instruction.Unary.TheVariants.{Negate}
use Rattle.x64_instr.specs.declared.instruction.Count.{Count}
use Rattle.x64_instr.specs.declared.instruction.Instr.TheVariants as instrs
use Rattle.x64_machine.specs.declared.cpu.Flags.{Flags}
use Rattle.x64_machine.specs.Words.{flags_of}
use Rattle.x64_machine.specs.Shifts.{count_of, shift_flags}
use Rattle.x64_machine.specs.Effect.{State, amount, effect}
use Rattle.x64_laws.specs.Destinations.{HasRegisters, unsigned_in, signed_in, Puts}

-- n is z modulo the limit of the width, and represents z itself where that is one of its signed
-- numbers
pub record IsOf (w : Width) (z : ℤ) (n : ℕ) : Type 0 where
  pub modulo : n ≡ wrapped w z
  pub whole : is_signed w z ≡ true → signed w n ≡ z

-- ZF and SF as z modulo the limit has them, OF where z is no signed number of the width
abbrev pub flags_for : Width → ℤ → Bool → Flags
flags_for w z carry = flags_of w (wrapped w z) carry (not (is_signed w z))

-- ADD: the sum of the signed numbers; CF where that of the unsigned ones doesn't fit
abbrev pub AddIsSum : Type 0
AddIsSum =
    (s : State) (w : Width) (to from : Reg) → HasRegisters s
    → let z = signed_in w s to +ℤ signed_in w s from in
    IsOkAnd (effect s (instrs.Arithmetic Add w (places.Register to) (operands.Register from)))
    (Puts s w to (IsOf w z)
    (flags_for w z (nat_le (limit w) (unsigned_in w s to + unsigned_in w s from))))

-- SUB: their difference; CF where the first unsigned number is below the second
abbrev pub SubIsDifference : Type 0
SubIsDifference =
    (s : State) (w : Width) (to from : Reg) → HasRegisters s
    → let z = signed_in w s to -ℤ signed_in w s from in
    IsOkAnd (effect s (instrs.Arithmetic Sub w (places.Register to) (operands.Register from)))
    (Puts s w to (IsOf w z)
    (flags_for w z (nat_lt (unsigned_in w s to) (unsigned_in w s from))))

-- IMUL sets CF and OF together, where the product is no signed number of the width; the manual
-- leaves ZF and SF open, and they stay
abbrev pub product_flags : Width → ℤ → Flags → Flags
product_flags w z f = record f { carry = not (is_signed w z); overflow = not (is_signed w z) }

abbrev pub ImulIsProduct : Type 0
ImulIsProduct =
    (s : State) (w : Width) (to from : Reg) → HasRegisters s
    → let z = signed_in w s to *ℤ signed_in w s from in
    IsOkAnd (effect s (instrs.Multiply w to (places.Register from)))
    (Puts s w to (IsOf w z) (product_flags w z s.cpu.flags))

-- IMUL by an immediate
abbrev pub ImulByIsProduct : Type 0
ImulByIsProduct =
    (s : State) (w : Width) (to from : Reg) (v : ℕ) → HasRegisters s
    → let z = signed_in w s from *ℤ signed w v in
    IsOkAnd (effect s (instrs.MultiplyBy w to (places.Register from) v))
    (Puts s w to (IsOf w z) (product_flags w z s.cpu.flags))

-- NEG: the signed number taken from 0; CF where it isn't 0
abbrev pub NegIsNegative : Type 0
NegIsNegative =
    (s : State) (w : Width) (to : Reg) → HasRegisters s
    → let z = pos 0 -ℤ signed_in w s to in
    IsOkAnd (effect s (instrs.Unary Negate w (places.Register to)))
    (Puts s w to (IsOf w z) (flags_for w z (nat_lt 0 (unsigned_in w s to))))

-- MOVSX and MOVSXD leave the signed number as it is, MOVZX the unsigned one, and both the flags
abbrev pub MovsxKeepsSigned : Type 0
MovsxKeepsSigned =
    (s : State) (w narrow : Width) (to from : Reg) → bytes_of narrow ≤ bytes_of w → HasRegisters s
    → IsOkAnd (effect s (instrs.Extend Sign w to narrow (places.Register from)))
    (Puts s w to (λ n. signed w n ≡ signed_in narrow s from) s.cpu.flags)

abbrev pub MovzxKeepsUnsigned : Type 0
MovzxKeepsUnsigned =
    (s : State) (w narrow : Width) (to from : Reg) → bytes_of narrow ≤ bytes_of w → HasRegisters s
    → IsOkAnd (effect s (instrs.Extend Zero w to narrow (places.Register from)))
    (Puts s w to (λ n. n ≡ unsigned_in narrow s from) s.cpu.flags)

-- the whole number at or below a quotient and nearest to it; SAR by c leaves that of the signed
-- quotient by 2 to the c (`SarIsFloor`).
pub record IsFloor (z : ℤ) (d : ℕ) (q : ℤ) : Type 0 where
  pub at_most : (q *ℤ pos d) ≤ℤ z
  pub next_is_more : z <ℤ ((q +ℤ pos 1) *ℤ pos d)

-- SAR: the floor of the signed quotient by 2 to the count, which is below the number of the width's
-- bits, as at 32 and 64 bits it always is
abbrev pub SarIsFloor : Type 0
SarIsFloor =
    (s : State) (w : Width) (to : Reg) (by : Count) → HasRegisters s
    → let c = count_of w (amount s.cpu by) in
    c < 8 * bytes_of w
    → IsOkAnd (effect s (instrs.Shift ArithmeticRight w (places.Register to) by))
    (Puts s w to (λ n. IsFloor (signed_in w s to) (2 ^ c) (signed w n))
    (shift_flags ArithmeticRight w (unsigned_in w s to) c s.cpu.flags))
