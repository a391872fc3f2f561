-- What DIV and IDIV leave of the number in RDX and RAX together, and what CDQ and CQO put into RDX
-- for them (Intel manual, volume 2, each instruction's page).
--
-- The main definitions: `unsigned_joined`, `signed_joined`.
use Rattle.std.specs.Prelude.{◌≡◌, ◌≢◌, ℕ, ◌+◌, ◌*◌, ◌<◌, ◌≤◌, true, false, ℤ, pos, ◌+ℤ◌, ◌*ℤ◌, None, IsOkAnd}
use Rattle.std.specs.Result.{IsErrOf}
use Rattle.seh_num.specs.declared.width.Width.{Width}
use Rattle.seh_num.specs.declared.code.TheConstants.{INTEGER_DIVIDE_BY_ZERO, INTEGER_OVERFLOW}
use Rattle.seh_num.specs.Widths.{limit, signed}
use Rattle.seh_num.specs.Division.{is_signed, IsSignedDivision, IsUnsignedDivision}
use Rattle.x64_instr.specs.declared.register.Reg.{Reg}
use Rattle.x64_instr.specs.declared.register.Reg.TheVariants.{Rax, Rdx}
use Rattle.x64_instr.specs.declared.operand.RegisterOrMemory.TheVariants as places
use Rattle.x64_instr.specs.declared.instruction.Division.{Division}
use Rattle.x64_instr.specs.declared.instruction.Division.TheVariants.{Unsigned, Signed}
use Rattle.x64_instr.specs.declared.instruction.Instr.TheVariants as instrs
use Rattle.x64_machine.specs.declared.outcome.Stop.TheVariants as stops
use Rattle.x64_machine.specs.Words.{merged}
use Rattle.x64_machine.specs.Effect.{State, register, effect}
use Rattle.x64_laws.specs.Destinations.{HasRegisters, unsigned_in, signed_in, Puts}

-- the number in RDX and RAX together, RDX the high half, and the signed number there
abbrev pub unsigned_joined : Width → State → ℕ
unsigned_joined w s = unsigned_in w s Rdx * limit w + unsigned_in w s Rax

abbrev pub signed_joined : Width → State → ℤ
signed_joined w s = (signed_in w s Rdx *ℤ pos (limit w)) +ℤ pos (unsigned_in w s Rax)

-- the quotient is in RAX and the remainder in RDX; all else is as it was, and so are the flags
pub record PutsDivision (s : State) (w : Width) (Q R : ℕ → Type 0) (t : State) : Type 0 where
  pub quotient : Q (unsigned_in w t Rax)
  pub remainder : R (unsigned_in w t Rdx)
  pub above_quotient : register t.cpu Rax ≡ merged w (register s.cpu Rax) (unsigned_in w t Rax)
  pub above_remainder : register t.cpu Rdx ≡ merged w (register s.cpu Rdx) (unsigned_in w t Rdx)
  pub others : (r : Reg) → r ≢ Rax → r ≢ Rdx → register t.cpu r ≡ register s.cpu r
  pub flags : t.cpu.flags ≡ s.cpu.flags
  pub rip : t.cpu.rip ≡ s.cpu.rip
  pub memory : t.memory ≡ s.memory

-- DIV: quotient and remainder of the unsigned numbers, where the quotient fits
abbrev pub DivIsDivision : Type 0
DivIsDivision =
    (s : State) (w : Width) (by : Reg) (q r : ℕ) → HasRegisters s
    → IsUnsignedDivision (unsigned_joined w s) (unsigned_in w s by) q r → q < limit w
    → IsOkAnd (effect s (instrs.Divide Unsigned w (places.Register by)))
    (PutsDivision s w (λ n. n ≡ q) (λ n. n ≡ r))

-- and a fault where it doesn't
abbrev pub DivOverflows : Type 0
DivOverflows =
    (s : State) (w : Width) (by : Reg) (q r : ℕ)
    → IsUnsignedDivision (unsigned_joined w s) (unsigned_in w s by) q r → limit w ≤ q
    → IsErrOf (effect s (instrs.Divide Unsigned w (places.Register by)))
    (stops.Fault INTEGER_OVERFLOW None)

-- IDIV: those of the signed numbers, the remainder with the dividend's sign
abbrev pub IdivIsDivision : Type 0
IdivIsDivision =
    (s : State) (w : Width) (by : Reg) (q r : ℤ) → HasRegisters s
    → IsSignedDivision (signed_joined w s) (signed_in w s by) q r → is_signed w q ≡ true
    → IsOkAnd (effect s (instrs.Divide Signed w (places.Register by)))
    (PutsDivision s w (λ n. signed w n ≡ q) (λ n. signed w n ≡ r))

abbrev pub IdivOverflows : Type 0
IdivOverflows =
    (s : State) (w : Width) (by : Reg) (q r : ℤ)
    → IsSignedDivision (signed_joined w s) (signed_in w s by) q r → is_signed w q ≡ false
    → IsErrOf (effect s (instrs.Divide Signed w (places.Register by)))
    (stops.Fault INTEGER_OVERFLOW None)

-- by 0 both are a fault
abbrev pub DivisionByZeroFaults : Type 0
DivisionByZeroFaults =
    (s : State) (d : Division) (w : Width) (by : Reg) → unsigned_in w s by ≡ 0
    → IsErrOf (effect s (instrs.Divide d w (places.Register by)))
    (stops.Fault INTEGER_DIVIDE_BY_ZERO None)

-- CDQ and CQO: RDX and RAX together represent the signed number that RAX did
abbrev pub CdqKeepsSigned : Type 0
CdqKeepsSigned =
    (s : State) (w : Width) → HasRegisters s
    → IsOkAnd (effect s (instrs.ExtendRax w))
    (Puts s w Rdx
    (λ n. (signed w n *ℤ pos (limit w)) +ℤ pos (unsigned_in w s Rax) ≡ signed_in w s Rax)
    s.cpu.flags)
