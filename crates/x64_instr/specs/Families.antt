-- The instructions by what they are for.
--
-- The main definitions: `IsMove`, `IsComputation`, `IsTransfer`.
use Rattle.x64_instr.specs.declared.instruction.Instr.{Instr}
use Rattle.x64_instr.specs.declared.instruction.Instr.TheVariants as instrs

-- those that put a value into a place, and leave the flags
abbrev pub IsMove : Instr → Type 0
IsMove (instrs.Move w to from) = Unit {0}
IsMove (instrs.Extend e w to narrow from) = Unit {0}
IsMove (instrs.LoadAddress w to m) = Unit {0}
IsMove (instrs.ExtendRax w) = Unit {0}
IsMove (instrs.Set c to) = Unit {0}
IsMove i = ⊥

-- those that compute with the value of a place
abbrev pub IsComputation : Instr → Type 0
IsComputation (instrs.Arithmetic o w to from) = Unit {0}
IsComputation (instrs.Test w first second) = Unit {0}
IsComputation (instrs.Multiply w to from) = Unit {0}
IsComputation (instrs.MultiplyBy w to from v) = Unit {0}
IsComputation (instrs.Unary o w to) = Unit {0}
IsComputation (instrs.Divide d w by) = Unit {0}
IsComputation (instrs.Shift d w to by) = Unit {0}
IsComputation i = ⊥

-- those of them that multiply or divide
abbrev pub IsMultiplyOrDivide : Instr → Type 0
IsMultiplyOrDivide (instrs.Multiply w to from) = Unit {0}
IsMultiplyOrDivide (instrs.MultiplyBy w to from v) = Unit {0}
IsMultiplyOrDivide (instrs.Divide d w by) = Unit {0}
IsMultiplyOrDivide i = ⊥

-- those that jump, or take the stack's top
abbrev pub IsTransfer : Instr → Type 0
IsTransfer (instrs.JumpIf c d) = Unit {0}
IsTransfer (instrs.Jump to) = Unit {0}
IsTransfer (instrs.Call to) = Unit {0}
IsTransfer (instrs.Push r) = Unit {0}
IsTransfer (instrs.Pop r) = Unit {0}
IsTransfer instrs.Return = Unit {0}
IsTransfer i = ⊥
