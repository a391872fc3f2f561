-- The stack: PUSH and POP, CALL and RET (Intel manual, volume 1, "Stacks"; volume 2, each
-- instruction's page). RIP is that of the next instruction.
use Rattle.std.specs.Prelude.{◌≡◌, ◌≢◌, ℕ, ◌-◌, ◌^◌, ◌<◌, pos, ◌+ℤ◌, ◌-ℤ◌, None, Ok, Err, IfOk, IsOkAnd}
use Rattle.seh_num.specs.declared.width.Width.TheVariants.{W64}
use Rattle.seh_num.specs.Answers.{◌>>=◌}
use Rattle.seh_num.specs.Widths.{low, wrapped}
use Rattle.x64_instr.specs.declared.register.Reg.{Reg}
use Rattle.x64_instr.specs.declared.register.Reg.TheVariants.{Rsp}
use Rattle.x64_instr.specs.declared.operand.Base.TheVariants as bases
use Rattle.x64_instr.specs.declared.operand.RegisterOrMemory.TheVariants as places
use Rattle.x64_instr.specs.declared.operand.Operand.TheVariants as operands
use Rattle.x64_instr.specs.declared.instruction.Target.TheVariants.{Relative}
use Rattle.x64_instr.specs.declared.instruction.Instr.{Instr}
use Rattle.x64_instr.specs.declared.instruction.Instr.TheVariants as instrs
use Rattle.x64_machine.specs.declared.outcome.Stop.{Stop}
use Rattle.x64_machine.specs.Effect.{State, register, with_register, load, effect}
use Rattle.x64_laws.specs.Destinations.{HasRegisters, unsigned_in}

-- RSP is 8 lower, modulo 2 to the 64
abbrev pub lowered : State → State
lowered s = record s {
  cpu = with_register W64 s.cpu Rsp (wrapped W64 (pos (register s.cpu Rsp) -ℤ pos 8));
}

-- MOV [RSP - 8], r
abbrev pub move_below_top : Reg → Instr
move_below_top r =
    instrs.Move W64 (places.Memory (record {
      base = bases.Register Rsp;
      index = None;
      displacement = 2 ^ 64 - 8;
    })) (operands.Register r)

-- PUSH stores the number 8 bytes below the top, as MOV does, and lowers RSP by 8; it is refused
-- where MOV is
abbrev pub PushStoresBelowTop : Type 0
PushStoresBelowTop =
    (s : State) (from : Reg) → register s.cpu from < 2 ^ 64
    → effect s (instrs.Push from) ≡ (effect s (move_below_top from) >>= λ t. Ok (lowered t))

-- the stack's top, which is at RSP, is v
abbrev pub HasOnTop : State → ℕ → Type 0
HasOnTop s v = load s.memory (register s.cpu Rsp) W64 ≡ Ok v

-- the top was taken: RSP is 8 higher, and no register but it and one more changed
pub record Raises (s : State) (besides : Reg → Type 0) (t : State) : Type 0 where
  pub top : (besides Rsp → ⊥)
      → register t.cpu Rsp ≡ wrapped W64 (pos (register s.cpu Rsp) +ℤ pos 8)
  pub others : (r : Reg) → (besides r → ⊥) → r ≢ Rsp → register t.cpu r ≡ register s.cpu r
  pub flags : t.cpu.flags ≡ s.cpu.flags
  pub memory : t.memory ≡ s.memory

-- POP takes the number on the top
abbrev pub PopTakesTop : Type 0
PopTakesTop =
    (s : State) (to : Reg) (v : ℕ) → HasRegisters s → HasOnTop s v
    → IsOkAnd (effect s (instrs.Pop to)) (λ t. (unsigned_in W64 t to ≡ low W64 v)
    × (t.cpu.rip ≡ s.cpu.rip) × Raises s (λ r. r ≡ to) t)

-- RET goes to the address on the top
abbrev pub RetGoesToTop : Type 0
RetGoesToTop =
    (s : State) (v : ℕ) → HasRegisters s → HasOnTop s v
    → IsOkAnd (effect s instrs.Return) (λ t. (t.cpu.rip ≡ v) × Raises s (λ r. ⊥) t)

-- what refuses the load of the top refuses both
abbrev pub IsRefusedAtTop : Instr → Type 0
IsRefusedAtTop i =
    (s : State) (e : Stop) → load s.memory (register s.cpu Rsp) W64 ≡ Err e → effect s i ≡ Err e

abbrev pub PopIsRefused : Type 0
PopIsRefused = (to : Reg) → IsRefusedAtTop (instrs.Pop to)

abbrev pub RetIsRefused : Type 0
RetIsRefused = IsRefusedAtTop instrs.Return

-- CALL is PUSH of the next instruction's address and JMP
abbrev pub CallPushesAndJumps : Type 0
CallPushesAndJumps =
    (s : State) (r : Reg) (d : ℕ) → register s.cpu r ≡ s.cpu.rip
    → effect s (instrs.Call (Relative d))
    ≡ (effect s (instrs.Push r) >>= λ t. effect t (instrs.Jump (Relative d)))

-- POP after PUSH, and RET after CALL, where neither is refused, leave RSP as it was before both
abbrev pub LeavesStackPointer : State → Instr → Instr → Type 0
LeavesStackPointer s first second =
    IfOk (effect s first >>= λ t. effect t second)
    (λ u. register u.cpu Rsp ≡ register s.cpu Rsp)

abbrev pub PopRaisesBack : Type 0
PopRaisesBack =
    (s : State) (from to : Reg) → HasRegisters s → register s.cpu Rsp < 2 ^ 64 → to ≢ Rsp
    → LeavesStackPointer s (instrs.Push from) (instrs.Pop to)

abbrev pub RetRaisesBack : Type 0
RetRaisesBack =
    (s : State) (d : ℕ) → HasRegisters s → register s.cpu Rsp < 2 ^ 64
    → LeavesStackPointer s (instrs.Call (Relative d)) instrs.Return
