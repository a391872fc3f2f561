-- What AND, OR, XOR, TEST and NOT leave, bit by bit (Intel manual, volume 2, each instruction's
-- page).
use Rattle.std.specs.Prelude.{◌≡◌, ℕ, ◌+◌, ◌-◌, ◌%◌, min, max, true, false, nat_eq, int_lt, pos, IsOkAnd}
use Rattle.std.specs.Int.{bit_at}
use Rattle.seh_num.specs.declared.width.Width.{Width}
use Rattle.seh_num.specs.Widths.{limit, signed}
use Rattle.x64_instr.specs.declared.register.Reg.{Reg}
use Rattle.x64_instr.specs.declared.operand.RegisterOrMemory.TheVariants as places
use Rattle.x64_instr.specs.declared.operand.Operand.TheVariants as operands
use Rattle.x64_instr.specs.declared.instruction.Operation.{Operation}
use Rattle.x64_instr.specs.declared.instruction.Operation.TheVariants.{And, Or, Xor}
use Rattle.x64_instr.specs.declared.instruction.Unary.TheVariants.{Not}
use Rattle.x64_instr.specs.declared.instruction.Instr.TheVariants as instrs
use Rattle.x64_machine.specs.declared.cpu.Flags.{Flags}
use Rattle.x64_machine.specs.Effect.{State, effect}
use Rattle.x64_laws.specs.Destinations.{HasRegisters, unsigned_in, Puts, PutsFlags}

-- each bit of n is that function of the bits of a and b at its place
abbrev pub IsBitwise : (ℕ → ℕ → ℕ) → ℕ → ℕ → ℕ → Type 0
IsBitwise f a b n = (k : ℕ) → bit_at n k ≡ f (bit_at a k) (bit_at b k)

-- 1 where the bits differ
abbrev pub exclusive : ℕ → ℕ → ℕ
exclusive x y = (x + y) % 2

-- CF and OF are cleared; ZF where the result is 0, SF where its signed number is below 0
abbrev pub logical_flags : Width → ℕ → Flags
logical_flags w n = record {
  carry = false;
  zero = nat_eq n 0;
  sign = int_lt (signed w n) (pos 0);
  overflow = false;
}

-- an operation on two registers leaves that function of each two bits, with these flags
abbrev pub LeavesBits : Operation → (ℕ → ℕ → ℕ) → Type 0
LeavesBits o f =
    (s : State) (w : Width) (to from : Reg) → HasRegisters s
    → IsOkAnd (effect s (instrs.Arithmetic o w (places.Register to) (operands.Register from)))
    (λ t. Puts s w to (IsBitwise f (unsigned_in w s to) (unsigned_in w s from))
    (logical_flags w (unsigned_in w t to)) t)

-- AND: 1 where both bits are 1
abbrev pub AndIsBitwise : Type 0
AndIsBitwise = LeavesBits And min

-- OR: 1 where one of them is
abbrev pub OrIsBitwise : Type 0
OrIsBitwise = LeavesBits Or max

-- XOR: 1 where they differ
abbrev pub XorIsBitwise : Type 0
XorIsBitwise = LeavesBits Xor exclusive

-- XOR of a register with itself leaves 0, and sets ZF
abbrev pub XorClears : Type 0
XorClears =
    (s : State) (w : Width) (to : Reg) → HasRegisters s
    → IsOkAnd (effect s (instrs.Arithmetic Xor w (places.Register to) (operands.Register to)))
    (Puts s w to (λ n. n ≡ 0)
    (record { carry = false; zero = true; sign = false; overflow = false }))

-- TEST: the flags of AND, and nothing else
abbrev pub TestIsBitwise : Type 0
TestIsBitwise =
    (s : State) (w : Width) (first second : Reg)
    → IsOkAnd (effect s (instrs.Test w (places.Register first) (operands.Register second)))
    (λ t. (n : ℕ) × IsBitwise min (unsigned_in w s first) (unsigned_in w s second) n
    × PutsFlags s (logical_flags w n) t)

-- NOT: the number and its complement make the number of all ones; the flags stay
abbrev pub NotIsComplement : Type 0
NotIsComplement =
    (s : State) (w : Width) (to : Reg) → HasRegisters s
    → IsOkAnd (effect s (instrs.Unary Not w (places.Register to)))
    (Puts s w to (λ n. unsigned_in w s to + n ≡ limit w - 1) s.cpu.flags)
