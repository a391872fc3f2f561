-- The registers of locals, each by its name.
use Rattle.std.specs.Prelude.{◌≡◌, ℕ, ◌^◌, ◌<◌, Bool, true, false, Ok}
use Rattle.seh_num.specs.declared.width.Width.TheVariants.{W64}
use Rattle.x64_instr.specs.declared.register.Reg.{Reg}
use Rattle.x64_instr.specs.declared.register.Reg.TheVariants.{Rax, Rcx, Rbx, Rsi, Rdi, R12, R13, R14, R15}
use Rattle.x64_machine.specs.declared.cpu.Flags.{Flags}
use Rattle.x64_machine.specs.Effect.{effect}
use Rattle.template_code.specs.Operations.{move}
use Rattle.x64_templates.specs.Straight.{LocalRegisters, MachineView, machine}

-- a register in which a local may stand
abbrev pub is_of_local : Reg → Bool
is_of_local Rbx = true
is_of_local Rsi = true
is_of_local Rdi = true
is_of_local R12 = true
is_of_local R13 = true
is_of_local R14 = true
is_of_local R15 = true
is_of_local r = false

-- the number in it
abbrev pub local_in : LocalRegisters → Reg → ℕ
local_in l Rbx = l.rbx
local_in l Rsi = l.rsi
local_in l Rdi = l.rdi
local_in l R12 = l.r12
local_in l R13 = l.r13
local_in l R14 = l.r14
local_in l R15 = l.r15
local_in l r = 0

-- the same registers, with another number in this one
abbrev pub with_local : LocalRegisters → Reg → ℕ → LocalRegisters
with_local l Rbx x = record l { rbx = x }
with_local l Rsi x = record l { rsi = x }
with_local l Rdi x = record l { rdi = x }
with_local l R12 x = record l { r12 = x }
with_local l R13 x = record l { r13 = x }
with_local l R14 x = record l { r14 = x }
with_local l R15 x = record l { r15 = x }
with_local l r x = l

-- one move brings a local from its register to RAX, or to RCX, and changes nothing else
abbrev pub LocalsAreFetched : Type 0
LocalsAreFetched =
    (r : Reg) (v : MachineView) (rip : ℕ) (f : Flags)
    → is_of_local r ≡ true → local_in v.locals r < 2 ^ 64
    → (effect (machine v rip f) (move W64 Rax r)
    ≡ Ok (machine (record v { rax = local_in v.locals r }) rip f))
    × (effect (machine v rip f) (move W64 Rcx r)
    ≡ Ok (machine (record v { rcx = local_in v.locals r }) rip f))

-- and one move keeps RAX in it: that local changes, and nothing else
abbrev pub LocalsAreKept : Type 0
LocalsAreKept =
    (r : Reg) (v : MachineView) (rip : ℕ) (f : Flags) → is_of_local r ≡ true → v.rax < 2 ^ 64
    → effect (machine v rip f) (move W64 r Rax)
    ≡ Ok (machine (record v { locals = with_local v.locals r v.rax }) rip f)
