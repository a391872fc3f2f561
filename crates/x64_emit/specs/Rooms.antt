-- How many bytes templates take at most.
--
-- The main definitions: `instruction_room`, `code_room`.
use Rattle.std.specs.Prelude.{ℕ, ◌+◌, List, [], ◌∷◌}
use Rattle.c_operations.specs.declared.operation.Pure.{Pure}
use Rattle.c_operations.specs.declared.operation.Pure.TheVariants as pures
use Rattle.c_operations.specs.declared.operation.Operation.{Operation}
use Rattle.c_operations.specs.declared.operation.Operation.TheVariants as operations
use Rattle.linear_code.specs.declared.slot.Slot.{Slot}
use Rattle.linear_code.specs.declared.slot.Slot.TheVariants.{Local, Temporary}
use Rattle.linear_code.specs.declared.instruction.Instruction.{Instruction}
use Rattle.linear_code.specs.declared.instruction.Instruction.TheVariants as instructions

-- a slot brought to a register or back: a local of a funclet's function takes the base first
abbrev pub slot_room : Slot → ℕ
slot_room (Temporary i) = 8
slot_room (Local i) = 16

-- an operation on RAX and RCX: most have no number of 64 bits in them, or nothing but one
abbrev pub pure_room : Pure → ℕ
pure_room (pures.MultiplyBy n) = 14
pure_room p = 11

abbrev pub operation_room : Operation → ℕ
operation_room (operations.Pure p) = pure_room p
operation_room (operations.Allocate n) = 26
operation_room (operations.SetPointer n) = 21
operation_room (operations.Place w offset) = 18
operation_room (operations.Clear w offset) = 29
operation_room o = 11

-- a call passes at most eight arguments; an epilogue with the loads before it takes at most 44
-- bytes
abbrev pub instruction_room : Instruction → ℕ
instruction_room (instructions.Compute to o first second) =
    slot_room to + slot_room first + slot_room second + operation_room o
instruction_room (instructions.Information to field) = slot_room to + 24
instruction_room (instructions.Landing to) = slot_room to
instruction_room (instructions.Jump label) = 5
instruction_room (instructions.JumpIfZero slot label) = slot_room slot + 10
instruction_room (instructions.Call function first count) = 109
instruction_room (instructions.CallBuiltIn function first) = 50
instruction_room (instructions.CallFinally funclet) = 13
instruction_room (instructions.LocalUnwind label) = 15
instruction_room instructions.Separator = 1
instruction_room (instructions.Return from) = slot_room from + 44

abbrev pub code_room : List Instruction → ℕ
code_room [] = 0
code_room (i ∷ is) = instruction_room i + code_room is
