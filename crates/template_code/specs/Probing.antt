-- `__chkstk`, which a prologue calls before it makes a large frame (Microsoft x64 ABI, "Prolog and
-- epilog"): RAX has the size, and each page of it is touched, from the top down.
--
-- The main definition: `check_stack`.
use Rattle.std.specs.Prelude.{ℕ, ◌-◌, ◌^◌, List, [], ◌∷◌, ◌++◌}
use Rattle.seh_num.specs.declared.width.Width.TheVariants.{W8, W64}
use Rattle.x64_instr.specs.declared.register.Reg.TheVariants.{Rax, Rsp, R10, R11}
use Rattle.x64_instr.specs.declared.operand.RegisterOrMemory.TheVariants as places
use Rattle.x64_instr.specs.declared.operand.Operand.TheVariants as operands
use Rattle.x64_instr.specs.declared.instruction.Condition.TheVariants as conditions
use Rattle.x64_instr.specs.declared.instruction.Operation.TheVariants as arithmetic
use Rattle.x64_instr.specs.declared.instruction.Instr.{Instr}
use Rattle.x64_instr.specs.declared.instruction.Instr.TheVariants as instrs
use Rattle.template_code.specs.Operations.{above}

-- 4,096 below what was RSP before the call
abbrev pub first_touch : ℕ
first_touch = 2 ^ 64 - 4088

-- a page further down
abbrev pub page_down : ℕ
page_down = 2 ^ 64 - 4096

-- back to the loop's first instruction, over its 20 bytes
abbrev pub loop_back : ℕ
loop_back = 2 ^ 64 - 20

-- test [r10],al ; lea r10,[r10-4096] ; cmp r10,r11 ; jge back, since R10 ends below 0 where the
-- frame begins in the first page
abbrev pub touching : List Instr
touching =
    instrs.Test W8 (places.Memory (above R10 0)) (operands.Register Rax)
    ∷ instrs.LoadAddress W64 R10 (above R10 page_down)
    ∷ instrs.Arithmetic arithmetic.Compare W64 (places.Register R10) (operands.Register R11)
    ∷ instrs.JumpIf conditions.GreaterOrEqual loop_back
    ∷ []

-- lea r11,[rsp+8] ; sub r11,rax ; lea r10,[rsp-4088]
abbrev pub touched_range : List Instr
touched_range =
    instrs.LoadAddress W64 R11 (above Rsp 8)
    ∷ instrs.Arithmetic arithmetic.Sub W64 (places.Register R11) (operands.Register Rax)
    ∷ instrs.LoadAddress W64 R10 (above Rsp first_touch)
    ∷ []

-- `__chkstk`, which touches each page of a large frame by a loop (`touching`), from the top down to
-- the end that `touched_range` puts into R11. The prologue of a body is that of its plan (crate
-- `frame_rules`).
abbrev pub check_stack : List Instr
check_stack =
    touched_range ++ touching
    ++ instrs.Test W8 (places.Memory (above R11 0)) (operands.Register Rax)
    ∷ instrs.Return
    ∷ []
