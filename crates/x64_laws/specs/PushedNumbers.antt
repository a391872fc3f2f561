-- What POP takes after PUSH and RET after CALL: the number that was pushed (Intel manual, volume 1,
-- "Stacks"; volume 2, each instruction's page). RIP is that of the next instruction.
use Rattle.std.specs.Prelude.{◌≡◌, ℕ, ◌+◌, ◌%◌, ◌^◌, ◌<◌, pos, ◌-ℤ◌, Some, IfOk, IsOkAnd}
use Rattle.seh_num.specs.declared.width.Width.TheVariants.{W64}
use Rattle.seh_num.specs.Widths.{wrapped}
use Rattle.x64_instr.specs.declared.register.Reg.{Reg}
use Rattle.x64_instr.specs.declared.register.Reg.TheVariants.{Rsp}
use Rattle.x64_instr.specs.declared.instruction.Target.{Target}
use Rattle.x64_instr.specs.declared.instruction.Target.TheVariants.{Relative}
use Rattle.x64_instr.specs.declared.instruction.Instr.TheVariants as instrs
use Rattle.x64_machine.specs.Effect.{State, register, effect, execute}
use Rattle.x64_laws.specs.Destinations.{HasRegisters, unsigned_in, Puts}
use Rattle.x64_laws.specs.Addressing.{from_next}
use Rattle.x64_laws.specs.Stack.{HasOnTop}

-- the registers of s with the memory of t
abbrev pub over_memory : State → State → State
over_memory s t = record s { memory = t.memory }

-- PUSH, where it isn't refused: RSP falls by 8, and the number is on the top
abbrev pub PushPutsOnTop : Type 0
PushPutsOnTop =
    (s : State) (from : Reg) → HasRegisters s
    → IfOk (effect s (instrs.Push from)) (λ t.
    Puts (over_memory s t) W64 Rsp (λ n. n ≡ wrapped W64 (pos (register s.cpu Rsp) -ℤ pos 8))
    s.cpu.flags t
    × HasOnTop t (unsigned_in W64 s from))

-- POP after it takes the number, and RSP is what it was, but where it is what takes the number
abbrev pub PopTakesPushed : Type 0
PopTakesPushed =
    (s : State) (from to : Reg) → HasRegisters s → register s.cpu Rsp < 2 ^ 64
    → IfOk (effect s (instrs.Push from)) (λ t. IsOkAnd (effect t (instrs.Pop to))
    (Puts (over_memory s t) W64 to (λ n. n ≡ unsigned_in W64 s from) s.cpu.flags))

-- CALL goes so far from the next instruction, whose address is on the stack's top then
abbrev pub CallPutsReturnAddress : Type 0
CallPutsReturnAddress =
    (s : State) (d length : ℕ) → HasRegisters s
    → IfOk (execute s (Some (instrs.Call (Relative d), length)))
    (λ t. (t.cpu.rip ≡ from_next s length d) × HasOnTop t ((s.cpu.rip + length) % 2 ^ 64))

-- the registers and flags of t are those of s, RIP among them
pub record IsBack (s t : State) : Type 0 where
  pub rip : t.cpu.rip ≡ s.cpu.rip
  pub registers : (r : Reg) → register t.cpu r ≡ register s.cpu r
  pub flags : t.cpu.flags ≡ s.cpu.flags

-- RET after CALL goes to the instruction behind it, with the stack as before
abbrev pub RetTakesReturnAddress : Type 0
RetTakesReturnAddress =
    (s : State) (to : Target) → HasRegisters s → register s.cpu Rsp < 2 ^ 64 → s.cpu.rip < 2 ^ 64
    → IfOk (effect s (instrs.Call to)) (λ t. IsOkAnd (effect t instrs.Return) (IsBack s))
