-- Straight instructions that leave RSP and the nonvolatile registers as they were, and those of
-- them that leave memory.
use Rattle.std.specs.Prelude.{◌≡◌, Bool, true, false, ◌&&◌, ◌⊎◌, List, [], ◌∷◌}
use Rattle.x64_instr.specs.declared.register.Reg.{Reg}
use Rattle.x64_instr.specs.declared.register.Reg.TheVariants.{Rax, Rcx, Rdx, R8, R9, R10, R11}
use Rattle.x64_instr.specs.declared.operand.RegisterOrMemory.{RegisterOrMemory}
use Rattle.x64_instr.specs.declared.operand.RegisterOrMemory.TheVariants as places
use Rattle.x64_instr.specs.declared.instruction.Instr.{Instr}
use Rattle.x64_instr.specs.declared.instruction.Instr.TheVariants as instrs

-- registers that a routine need not preserve (Microsoft x64 ABI, "Caller/callee saved registers")
abbrev pub is_volatile : Reg → Bool
is_volatile Rax = true
is_volatile Rcx = true
is_volatile Rdx = true
is_volatile R8 = true
is_volatile R9 = true
is_volatile R10 = true
is_volatile R11 = true
is_volatile r = false

-- RAX, in which templates compute
abbrev pub is_rax : Reg → Bool
is_rax Rax = true
is_rax r = false

abbrev pub is_memory_or : (Reg → Bool) → RegisterOrMemory → Bool
is_memory_or may (places.Register r) = may r
is_memory_or may (places.Memory a) = true

abbrev pub is_register : RegisterOrMemory → Bool
is_register (places.Register r) = true
is_register (places.Memory a) = false

-- the next instruction is run after it; of registers it writes only some
abbrev pub writes_only : (Reg → Bool) → Instr → Bool
writes_only may (instrs.Move w to from) = is_memory_or may to
writes_only may (instrs.Extend e w to narrow from) = may to
writes_only may (instrs.LoadAddress w to m) = may to
writes_only may (instrs.Arithmetic o w to from) = is_memory_or may to
writes_only may (instrs.Test w first second) = true
writes_only may (instrs.Multiply w to from) = may to
writes_only may (instrs.MultiplyBy w to from v) = may to
writes_only may (instrs.Unary o w to) = is_memory_or may to
writes_only may (instrs.Divide d w by) = may Rax && may Rdx
writes_only may (instrs.ExtendRax w) = may Rdx
writes_only may (instrs.Shift d w to by) = is_memory_or may to
writes_only may (instrs.Set c to) = is_memory_or may to
writes_only may instrs.NoOperation = true
writes_only may i = false

-- of registers it writes only volatile ones
abbrev pub keeps_registers : Instr → Bool
keeps_registers i = writes_only is_volatile i

-- of registers it writes RAX alone, or it is a jump, which writes none
abbrev pub spares_registers : Instr → Bool
spares_registers (instrs.Jump to) = true
spares_registers (instrs.JumpIf c d) = true
spares_registers i = writes_only is_rax i

-- and it stores nothing
abbrev pub stores_nothing : Instr → Bool
stores_nothing (instrs.Move w to from) = is_register to
stores_nothing (instrs.Extend e w to narrow from) = true
stores_nothing (instrs.LoadAddress w to m) = true
stores_nothing (instrs.Arithmetic o w to from) = is_register to
stores_nothing (instrs.Test w first second) = true
stores_nothing (instrs.Multiply w to from) = true
stores_nothing (instrs.MultiplyBy w to from v) = true
stores_nothing (instrs.Unary o w to) = is_register to
stores_nothing (instrs.Divide d w by) = true
stores_nothing (instrs.ExtendRax w) = true
stores_nothing (instrs.Shift d w to by) = is_register to
stores_nothing (instrs.Set c to) = is_register to
stores_nothing instrs.NoOperation = true
stores_nothing i = false

abbrev pub is_call : Instr → Bool
is_call (instrs.Call to) = true
is_call i = false

abbrev pub KeepsRegisters : List Instr → Type 0
KeepsRegisters [] = Unit {0}
KeepsRegisters (i ∷ is) = (keeps_registers i ≡ true) × KeepsRegisters is

-- volatile registers and flags alone are written
abbrev pub StoresNothing : List Instr → Type 0
StoresNothing [] = Unit {0}
StoresNothing (i ∷ is) = (keeps_registers i ≡ true) × (stores_nothing i ≡ true) × StoresNothing is

-- of code that keeps registers the last instruction may go elsewhere, but calls nothing
abbrev pub Flows : List Instr → Type 0
Flows [] = Unit {0}
Flows (i ∷ []) = is_call i ≡ false
Flows (i ∷ j ∷ is) = (keeps_registers i ≡ true) × Flows (j ∷ is)

-- at most one instruction stores
abbrev pub StoresOnce : List Instr → Type 0
StoresOnce [] = Unit {0}
StoresOnce (i ∷ is) = ((stores_nothing i ≡ true) × StoresOnce is) ⊎ StoresNothing is

-- of code that writes RAX alone the last instruction may jump
abbrev pub SparesRegisters : List Instr → Type 0
SparesRegisters [] = Unit {0}
SparesRegisters (i ∷ []) = spares_registers i ≡ true
SparesRegisters (i ∷ j ∷ is) = (writes_only is_rax i ≡ true) × SparesRegisters (j ∷ is)
