-- Machine instructions that write no memory, and no register but RAX, RCX and RDX.
use Rattle.std.specs.Prelude.{Bool, true, false}
use Rattle.x64_instr.specs.declared.register.Reg.{Reg}
use Rattle.x64_instr.specs.declared.register.Reg.TheVariants.{Rax, Rcx, Rdx}
use Rattle.x64_instr.specs.declared.operand.RegisterOrMemory.{RegisterOrMemory}
use Rattle.x64_instr.specs.declared.operand.RegisterOrMemory.TheVariants as places
use Rattle.x64_instr.specs.declared.instruction.Operation.{Operation}
use Rattle.x64_instr.specs.declared.instruction.Operation.TheVariants as operations
use Rattle.x64_instr.specs.declared.instruction.Instr.{Instr}
use Rattle.x64_instr.specs.declared.instruction.Instr.TheVariants as instrs

-- RAX, RCX or RDX
abbrev pub is_free : Reg → Bool
is_free Rax = true
is_free Rcx = true
is_free Rdx = true
is_free r = false

-- one of these registers, and not memory
abbrev pub is_free_place : RegisterOrMemory → Bool
is_free_place (places.Register r) = is_free r
is_free_place (places.Memory a) = false

-- of registers and memory it changes one of these registers at most
abbrev pub changes_alone : Operation → RegisterOrMemory → Bool
changes_alone operations.Compare to = true
changes_alone o to = is_free_place to

-- the next instruction is run after it
abbrev pub scratch_only : Instr → Bool
scratch_only (instrs.Move w to from) = is_free_place to
scratch_only (instrs.Extend e w to narrow from) = is_free to
scratch_only (instrs.LoadAddress w to m) = is_free to
scratch_only (instrs.Arithmetic o w to from) = changes_alone o to
scratch_only (instrs.Test w first second) = true
scratch_only (instrs.Multiply w to from) = is_free to
scratch_only (instrs.MultiplyBy w to from v) = is_free to
scratch_only (instrs.Unary o w to) = is_free_place to
scratch_only (instrs.Divide d w by) = true
scratch_only (instrs.ExtendRax w) = true
scratch_only (instrs.Shift d w to by) = is_free_place to
scratch_only (instrs.Set c to) = is_free_place to
scratch_only instrs.NoOperation = true
scratch_only i = false
