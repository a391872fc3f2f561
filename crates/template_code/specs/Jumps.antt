-- Jumps to labels: always with a displacement of four bytes, so that no size depends on where a
-- label is placed.
use Rattle.std.specs.Prelude.{ℕ, ◌+◌, ◌-◌, ◌%◌, ◌^◌, ◌<◌, List, [], ◌∷◌, ◌++◌}
use Rattle.seh_num.specs.declared.width.Width.TheVariants.{W64}
use Rattle.x64_instr.specs.declared.register.Reg.TheVariants.{Rax}
use Rattle.x64_instr.specs.declared.operand.RegisterOrMemory.TheVariants as places
use Rattle.x64_instr.specs.declared.operand.Operand.TheVariants as operands
use Rattle.x64_instr.specs.declared.instruction.Operation.TheVariants as arithmetic
use Rattle.x64_instr.specs.declared.instruction.Condition.TheVariants as conditions
use Rattle.x64_instr.specs.declared.instruction.Target.TheVariants.{Relative}
use Rattle.x64_instr.specs.declared.instruction.Instr.{Instr}
use Rattle.x64_instr.specs.declared.instruction.Instr.TheVariants as instrs
use Rattle.linear_code.specs.declared.slot.Slot.{Slot}
use Rattle.template_code.specs.declared.layout.Layout.{Layout}
use Rattle.template_code.specs.Bytes.{sizes}
use Rattle.template_code.specs.Slots.{fetch}

-- how far an address is from the next instruction, modulo 2 to the 64
abbrev pub distance : ℕ → ℕ → ℕ
distance next to = (to + (2 ^ 64 - next)) % 2 ^ 64

abbrev pub jump : ℕ → ℕ → Instr
jump next to = instrs.Jump (Relative (distance next to))

abbrev pub jump_equal : ℕ → ℕ → Instr
jump_equal next to = instrs.JumpIf conditions.Equal (distance next to)

abbrev pub call : ℕ → ℕ → Instr
call next to = instrs.Call (Relative (distance next to))

abbrev pub jump_code : ℕ → ℕ → List Instr
jump_code at to = jump (at + 5) to ∷ []

-- RAX is compared with 0
abbrev pub compare_zero : Instr
compare_zero = instrs.Arithmetic arithmetic.Compare W64 (places.Register Rax) (operands.Immediate 0)

abbrev pub test_code : Layout → Slot → List Instr
test_code y slot = fetch y Rax slot ++ (compare_zero ∷ [])

abbrev pub jump_if_zero_code : Layout → Slot → ℕ → ℕ → List Instr
jump_if_zero_code y slot at to =
    fetch y Rax slot ++ (compare_zero ∷ jump_equal (at + sizes (test_code y slot) + 6) to ∷ [])

-- nothing
abbrev pub separator_code : List Instr
separator_code = instrs.NoOperation ∷ []

-- two addresses less than 2 to the 31 apart
abbrev pub IsNear : ℕ → ℕ → Type 0
IsNear a b = (a < 2 ^ 48) × (b < 2 ^ 48) × (a < b + 2 ^ 31) × (b < a + 2 ^ 31)
