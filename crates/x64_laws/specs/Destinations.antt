-- What an instruction leaves that puts its result into a register (Intel manual, volume 1,
-- "General-Purpose Registers in 64-Bit Mode").
--
-- The main definition: `Puts`.
use Rattle.std.specs.Prelude.{◌≡◌, ◌≢◌, ℕ, length, ℤ}
use Rattle.seh_num.specs.declared.width.Width.{Width}
use Rattle.seh_num.specs.Widths.{low, signed}
use Rattle.x64_instr.specs.declared.register.Reg.{Reg}
use Rattle.x64_machine.specs.declared.cpu.Flags.{Flags}
use Rattle.x64_machine.specs.Words.{merged}
use Rattle.x64_machine.specs.Effect.{State, register}

-- the processor has sixteen registers
abbrev pub HasRegisters : State → Type 0
HasRegisters s = length s.cpu.registers ≡ 16

-- the number of a width in the low bits of a register, and the signed number that it represents
abbrev pub unsigned_in : Width → State → Reg → ℕ
unsigned_in w s r = low w (register s.cpu r)

abbrev pub signed_in : Width → State → Reg → ℤ
signed_in w s r = signed w (unsigned_in w s r)

-- the register's low bits are a number of which P holds, the bits above them what a write of the
-- width makes of them; the flags are these, and all else is as it was
pub record Puts (s : State) (w : Width) (to : Reg) (P : ℕ → Type 0) (f : Flags)
    (t : State) : Type 0 where
  pub result : P (unsigned_in w t to)
  pub above : register t.cpu to ≡ merged w (register s.cpu to) (unsigned_in w t to)
  pub others : (r : Reg) → r ≢ to → register t.cpu r ≡ register s.cpu r
  pub flags : t.cpu.flags ≡ f
  pub rip : t.cpu.rip ≡ s.cpu.rip
  pub memory : t.memory ≡ s.memory

-- the flags are these, and all else is as it was
pub record PutsFlags (s : State) (f : Flags) (t : State) : Type 0 where
  pub flags : t.cpu.flags ≡ f
  pub registers : t.cpu.registers ≡ s.cpu.registers
  pub rip : t.cpu.rip ≡ s.cpu.rip
  pub memory : t.memory ≡ s.memory
