-- The address of an operand in memory as a sum of whole numbers, modulo 2 to the 64 (Intel manual,
-- volume 1, "Operand Addressing"). A displacement is a signed number.
use Rattle.std.specs.Prelude.{◌≡◌, ℕ, ◌+◌, ◌*◌, ◌^◌, ℤ, pos, ◌+ℤ◌, Option, Some, None, IsOkAnd}
use Rattle.seh_num.specs.declared.width.Width.{Width}
use Rattle.seh_num.specs.declared.width.Width.TheVariants.{W64}
use Rattle.seh_num.specs.Widths.{low, signed, wrapped}
use Rattle.x64_instr.specs.declared.register.Reg.{Reg}
use Rattle.x64_instr.specs.declared.operand.Scale.{Scale}
use Rattle.x64_instr.specs.declared.operand.Scale.TheVariants as scales
use Rattle.x64_instr.specs.declared.operand.Base.{Base}
use Rattle.x64_instr.specs.declared.operand.Base.TheVariants as bases
use Rattle.x64_instr.specs.declared.operand.Index.{Index}
use Rattle.x64_instr.specs.declared.operand.MemRef.{MemRef}
use Rattle.x64_instr.specs.declared.instruction.Target.TheVariants.{Relative}
use Rattle.x64_instr.specs.declared.instruction.Instr.TheVariants as instrs
use Rattle.x64_machine.specs.declared.cpu.Cpu.{Cpu}
use Rattle.x64_machine.specs.Effect.{State, register, address_of, effect, execute}
use Rattle.x64_laws.specs.Destinations.{HasRegisters, unsigned_in, Puts}

-- the power of two that a scale is: SIB has its exponent
abbrev pub exponent : Scale → ℕ
exponent scales.One = 0
exponent scales.Two = 1
exponent scales.Four = 2
exponent scales.Eight = 3

-- the address of a base, an index and a displacement is z, modulo 2 to the 64
abbrev pub IsAddress : Cpu → Base → Option Index → ℕ → ℤ → Type 0
IsAddress c b i d z =
    address_of c (record { base = b; index = i; displacement = d }) ≡ wrapped W64 z

-- each form: "displacement", "base", "base + displacement", "(index * scale) + displacement",
-- "base + (index * scale) + displacement", and RIP with a displacement
pub record AddressesAreSums : Type 0 where
  pub displacement : (c : Cpu) (d : ℕ) → IsAddress c bases.Nothing None d (signed W64 d)
  pub base : (c : Cpu) (b : Reg) (d : ℕ)
      → IsAddress c (bases.Register b) None d (pos (register c b) +ℤ signed W64 d)
  pub index : (c : Cpu) (x : Reg) (k : Scale) (d : ℕ)
      → IsAddress c bases.Nothing (Some (record { register = x; scale = k })) d
      (pos (register c x * 2 ^ exponent k) +ℤ signed W64 d)
  pub base_and_index : (c : Cpu) (b x : Reg) (k : Scale) (d : ℕ)
      → IsAddress c (bases.Register b) (Some (record { register = x; scale = k })) d
      (pos (register c b + register c x * 2 ^ exponent k) +ℤ signed W64 d)
  pub relative : (c : Cpu) (d : ℕ) → IsAddress c bases.Rip None d (pos c.rip +ℤ signed W64 d)

-- LEA puts the address itself into the register, without an access, and leaves the flags
abbrev pub LeaPutsAddress : Type 0
LeaPutsAddress =
    (s : State) (w : Width) (to : Reg) (m : MemRef) → HasRegisters s
    → IsOkAnd (effect s (instrs.LoadAddress w to m))
    (Puts s w to (λ n. n ≡ low w (address_of s.cpu m)) s.cpu.flags)

-- so far from the next instruction, which lies behind the bytes of this one
abbrev pub from_next : State → ℕ → ℕ → ℕ
from_next s length d = wrapped W64 (pos (s.cpu.rip + length) +ℤ signed W64 d)

-- RIP in an address is that of the next instruction
abbrev pub RipIsOfNext : Type 0
RipIsOfNext =
    (s : State) (to : Reg) (d length : ℕ) → HasRegisters s
    → IsOkAnd (execute s (Some (
      instrs.LoadAddress W64 to (record { base = bases.Rip; index = None; displacement = d }),
      length,
    ))) (λ t. unsigned_in W64 t to ≡ from_next s length d)

-- JMP goes so far from there
abbrev pub JmpGoesFromNext : Type 0
JmpGoesFromNext =
    (s : State) (d length : ℕ) → IsOkAnd (execute s (Some (instrs.Jump (Relative d), length)))
    (λ t. t.cpu.rip ≡ from_next s length d)
