-- What an operation of linear code comes to, and where the machine is within it.
use Rattle.std.specs.Prelude.{◌≡◌, ℕ, Some}
use Rattle.c_operations.specs.declared.operation.Operation.{Operation}
use Rattle.c_operations.specs.Performed.{OperationResult, performed}
use Rattle.source_meaning.specs.Source.{is_reserved}
use Rattle.linear_code.specs.declared.slot.Slot.{Slot}
use Rattle.linear_code.specs.Program.{LinearProgram}
use Rattle.linear_machine.specs.Frames.{Configuration}
use Rattle.linear_machine.specs.Instructions.{is_constant, operand}

-- on the numbers that linear code has in its operands, an operation comes to this
pub record ComesTo (program : LinearProgram) (c : Configuration) (o : Operation)
    (first second : Slot) (outcome : OperationResult) : Type 0 where
  pub a : ℕ
  pub b : ℕ
  pub reads_first : operand (is_constant o) c first ≡ Some a
  pub reads_second : operand (is_constant o) c second ≡ Some b
  pub comes : performed (is_reserved program.globals) o a b c.store.memory ≡ outcome
