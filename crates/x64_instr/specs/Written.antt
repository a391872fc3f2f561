-- The general registers that an instruction writes, by their numbers.
use Rattle.std.specs.Prelude.{ℕ, List, [], ◌∷◌}
use Rattle.x64_instr.specs.declared.operand.RegisterOrMemory.{RegisterOrMemory}
use Rattle.x64_instr.specs.declared.operand.RegisterOrMemory.TheVariants as places
use Rattle.x64_instr.specs.declared.instruction.Operation.TheVariants.{Compare}
use Rattle.x64_instr.specs.declared.instruction.Instr.{Instr}
use Rattle.x64_instr.specs.declared.instruction.Instr.TheVariants as instrs
use Rattle.x64_instr.specs.Registers.{number}

abbrev pub written_place : RegisterOrMemory → List ℕ
written_place (places.Register r) = number r ∷ []
written_place (places.Memory a) = []

-- the registers that an instruction writes; what a call runs isn't counted, nor its return address
abbrev pub written : Instr → List ℕ
written (instrs.Move w to from) = written_place to
written (instrs.Extend e w to n from) = number to ∷ []
written (instrs.LoadAddress w to a) = number to ∷ []
written (instrs.Arithmetic Compare w to from) = []
written (instrs.Arithmetic o w to from) = written_place to
written (instrs.Test w a b) = []
written (instrs.Multiply w to from) = number to ∷ []
written (instrs.MultiplyBy w to from n) = number to ∷ []
written (instrs.Unary o w to) = written_place to
written (instrs.Divide d w by) = 0 ∷ 2 ∷ []
written (instrs.ExtendRax w) = 2 ∷ []
written (instrs.Shift d w to by) = written_place to
written (instrs.Set c to) = written_place to
written (instrs.JumpIf c d) = []
written (instrs.Jump to) = []
written (instrs.Call to) = []
written (instrs.Push r) = 4 ∷ []
written (instrs.Pop r) = 4 ∷ number r ∷ []
written instrs.Return = 4 ∷ []
written instrs.NoOperation = []
written instrs.Breakpoint = []
written instrs.Undefined = []
