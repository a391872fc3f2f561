-- How instructions are spelled: an optional 66, an optional REX, the opcode, then ModRM, SIB,
-- displacement and immediate as the opcode has them (Intel manual, volume 2, chapter 2, and each
-- instruction's page).
--
-- The main definitions: `row`, `plain_row`, `two_byte_row`, `IsEncoding`, `leading`.
use Rattle.std.specs.Prelude.{◌≡◌, ℕ, ◌-◌, ◌/◌, ◌%◌, Bool, true, false, not, ◌==◌, ◌&&◌, if◌then◌else◌, List, [], Option, Some, None, option_map, length}
use Rattle.seh_num.specs.declared.width.Width.{Width}
use Rattle.seh_num.specs.declared.width.Width.TheVariants.{W8, W32, W64}
use Rattle.seh_num.specs.Widths.{bytes_of}
use Rattle.x64_instr.specs.declared.register.Reg.{Reg}
use Rattle.x64_instr.specs.declared.operand.RegisterOrMemory.{RegisterOrMemory}
use Rattle.x64_instr.specs.declared.operand.RegisterOrMemory.TheVariants as places
use Rattle.x64_instr.specs.declared.operand.Operand.{Operand}
use Rattle.x64_instr.specs.declared.operand.Operand.TheVariants as operands
use Rattle.x64_instr.specs.declared.prefixes.Prefixes.{Prefixes}
use Rattle.x64_instr.specs.declared.instruction.Operation.{Operation}
use Rattle.x64_instr.specs.declared.instruction.Operation.TheVariants as operations
use Rattle.x64_instr.specs.declared.instruction.Unary.TheVariants.{Not, Negate}
use Rattle.x64_instr.specs.declared.instruction.Extension.{Extension}
use Rattle.x64_instr.specs.declared.instruction.Extension.TheVariants.{Sign, Zero}
use Rattle.x64_instr.specs.declared.instruction.Division.TheVariants.{Unsigned, Signed}
use Rattle.x64_instr.specs.declared.instruction.Direction.{Direction}
use Rattle.x64_instr.specs.declared.instruction.Direction.TheVariants as directions
use Rattle.x64_instr.specs.declared.instruction.Count.TheVariants as counts
use Rattle.x64_instr.specs.declared.instruction.Condition.{Condition}
use Rattle.x64_instr.specs.declared.instruction.Condition.TheVariants as conditions
use Rattle.x64_instr.specs.declared.instruction.Target.TheVariants.{Relative, Indirect}
use Rattle.x64_instr.specs.declared.instruction.Instr.{Instr}
use Rattle.x64_instr.specs.declared.instruction.Instr.TheVariants as instrs
use Rattle.x64_instr.specs.Reading.{Read, ◌>>=◌, byte, number, signed, bit}
use Rattle.x64_instr.specs.Operands.{width_of, sized, sized_narrow, immediate_of, register_of_low_bits, rm_and_register, rm_and_opcode_extension, source}

-- ---- the forms of operands, in the manual's letters, of a width

-- r/m, r
abbrev pub rm_r : Prefixes → Width → (RegisterOrMemory → Operand → Instr) → List ℕ → Read Instr
rm_r p w made bytes =
    rm_and_register p w w bytes >>= λ x. Some (made x.0.0 (operands.Register x.0.1), x.1)

-- r, r/m
abbrev pub r_rm : Prefixes → Width → Width → (Reg → RegisterOrMemory → Instr) → List ℕ → Read Instr
r_rm p v w made bytes = rm_and_register p w v bytes >>= λ x. Some (made x.0.1 x.0.0, x.1)

-- r/m, where the reg field is an extension of the opcode (/opcode_extension in the manual)
abbrev pub rm_extension : Prefixes → Width → (ℕ → RegisterOrMemory → List ℕ → Read Instr) → List ℕ
    → Read Instr
rm_extension p w made bytes = rm_and_opcode_extension p w bytes >>= λ x. made x.0.1 x.0.0 x.1

-- what takes no bytes
abbrev pub given : {A : Type 0} → Option A → List ℕ → Read A
given None bytes = None
given (Some x) bytes = Some (x, bytes)

-- ---- what opcode extensions and condition codes choose

abbrev pub operation : ℕ → Option Operation
operation n =
    if n == 0 then Some operations.Add
    else (if n == 1 then Some operations.Or
    else (if n == 4 then Some operations.And
    else (if n == 5 then Some operations.Sub
    else (if n == 6 then Some operations.Xor
    else (if n == 7 then Some operations.Compare
    else None)))))

abbrev pub direction : ℕ → Option Direction
direction n =
    if n == 4 then Some directions.Left
    else (if n == 5 then Some directions.Right
    else (if n == 7 then Some directions.ArithmeticRight
    else None))

-- 10 and 11 ask PF
abbrev pub condition : ℕ → Option Condition
condition n =
    if n == 0 then Some conditions.Overflow
    else (if n == 1 then Some conditions.NotOverflow
    else (if n == 2 then Some conditions.Below
    else (if n == 3 then Some conditions.AboveOrEqual
    else (if n == 4 then Some conditions.Equal
    else (if n == 5 then Some conditions.NotEqual
    else (if n == 6 then Some conditions.BelowOrEqual
    else (if n == 7 then Some conditions.Above
    else (if n == 8 then Some conditions.Sign
    else (if n == 9 then Some conditions.NotSign
    else (if n == 12 then Some conditions.Less
    else (if n == 13 then Some conditions.GreaterOrEqual
    else (if n == 14 then Some conditions.LessOrEqual
    else (if n == 15 then Some conditions.Greater
    else None)))))))))))))

-- ---- rows with an immediate after the operands, and groups of which the opcode extension chooses

-- r/m, imm
abbrev pub group_1 : Width → Width → ℕ → RegisterOrMemory → List ℕ → Read Instr
group_1 from w opcode_extension to bytes =
    given (operation opcode_extension) bytes >>= λ o. signed from w o.1 >>= λ v. Some
    (instrs.Arithmetic o.0 w to (operands.Immediate v.0), v.1)

-- r/m, imm, with /0
abbrev pub group_11 : Width → ℕ → RegisterOrMemory → List ℕ → Read Instr
group_11 w opcode_extension to bytes =
    if opcode_extension == 0 then (signed (immediate_of w) w bytes >>= λ v. Some
    (instrs.Move w to (operands.Immediate v.0), v.1)) else None

abbrev pub test_immediate : Width → RegisterOrMemory → List ℕ → Read Instr
test_immediate w at bytes =
    signed (immediate_of w) w bytes >>= λ v. Some (instrs.Test w at (operands.Immediate v.0), v.1)

-- TEST /0 r/m, imm; NOT /2; NEG /3; and where t holds DIV /6, IDIV /7
abbrev pub group_3 : Bool → Width → ℕ → RegisterOrMemory → List ℕ → Read Instr
group_3 t w opcode_extension at bytes =
    if opcode_extension == 0 then test_immediate w at bytes
    else (if opcode_extension == 2 then Some (instrs.Unary Not w at, bytes)
    else (if opcode_extension == 3 then Some (instrs.Unary Negate w at, bytes)
    else (if (opcode_extension == 6) && t then Some (instrs.Divide Unsigned w at, bytes)
    else (if (opcode_extension == 7) && t then Some (instrs.Divide Signed w at, bytes)
    else None))))

-- SHL /4, SHR /5, SAR /7
abbrev pub group_2_immediate : Width → ℕ → RegisterOrMemory → List ℕ → Read Instr
group_2_immediate w opcode_extension to bytes =
    given (direction opcode_extension) bytes >>= λ d. byte d.1 >>= λ n. Some
    (instrs.Shift d.0 w to (counts.Immediate n.0), n.1)

abbrev pub group_2_cl : Width → ℕ → RegisterOrMemory → List ℕ → Read Instr
group_2_cl w opcode_extension to bytes =
    given (direction opcode_extension) bytes >>= λ d. Some (instrs.Shift d.0 w to counts.Cl, d.1)

abbrev pub group_5 : ℕ → RegisterOrMemory → List ℕ → Read Instr
group_5 opcode_extension at bytes =
    if opcode_extension == 2 then Some (instrs.Call (Indirect at), bytes)
    else (if opcode_extension == 4 then Some (instrs.Jump (Indirect at), bytes)
    else None)

-- r, imm of the whole width, with the register in the opcode
abbrev pub move_immediate : Prefixes → ℕ → List ℕ → Read Instr
move_immediate p op bytes =
    number (bytes_of (width_of p)) bytes >>= λ v. Some (
      instrs.Move (width_of p) (places.Register (register_of_low_bits p op))
          (operands.Immediate v.0),
      v.1,
    )

-- with REX.W alone
abbrev pub sign_extend : Prefixes → List ℕ → Read Instr
sign_extend p bytes =
    if bit 3 p.rex == 1 then r_rm p W64 W32 (λ to from. instrs.Extend Sign W64 to W32 from) bytes
    else None

abbrev pub extend : Extension → Prefixes → ℕ → List ℕ → Read Instr
extend e p op bytes =
    r_rm p (width_of p) (sized_narrow op)
    (λ to from. instrs.Extend e (width_of p) to (sized_narrow op) from) bytes

abbrev pub load : Width → Reg → RegisterOrMemory → Instr
load w to from = instrs.Move w (places.Register to) (source from)

-- r, r/m, imm
abbrev pub multiply_by : Prefixes → Width → List ℕ → Read Instr
multiply_by p from bytes =
    rm_and_register p (width_of p) (width_of p) bytes >>= λ x. signed from
    (width_of p) x.1 >>= λ v. Some (instrs.MultiplyBy (width_of p) x.0.1 x.0.0 v.0, v.1)

-- r, m
abbrev pub address_to : Width → Reg → RegisterOrMemory → List ℕ → Read Instr
address_to w to (places.Memory m) bytes = Some (instrs.LoadAddress w to m, bytes)
address_to w to (places.Register r) bytes = None

abbrev pub load_address : Prefixes → List ℕ → Read Instr
load_address p bytes =
    rm_and_register p (width_of p) (width_of p) bytes >>= λ x. address_to
    (width_of p) x.0.1 x.0.0 x.1

-- the condition in the low four bits of the opcode
abbrev pub jump_if : Width → ℕ → List ℕ → Read Instr
jump_if from op bytes =
    given (condition (op % 16)) bytes >>= λ c. signed from W64 c.1 >>= λ d. Some
    (instrs.JumpIf c.0 d.0, d.1)

abbrev pub set_if : Prefixes → ℕ → List ℕ → Read Instr
set_if p op bytes =
    given (condition (op % 16)) bytes >>= λ c. rm_and_opcode_extension p W8 c.1 >>= λ x. Some
    (instrs.Set c.0 x.0.0, x.1)

abbrev pub jump : Width → List ℕ → Read Instr
jump from bytes = signed from W64 bytes >>= λ d. Some (instrs.Jump (Relative d.0), d.1)

abbrev pub call : List ℕ → Read Instr
call bytes = signed W32 W64 bytes >>= λ d. Some (instrs.Call (Relative d.0), d.1)

-- NOP is 90 but with REX.B, where it would exchange R8 and RAX
abbrev pub no_operation : Prefixes → List ℕ → Read Instr
no_operation p bytes = if bit 0 p.rex == 1 then None else Some (instrs.NoOperation, bytes)

-- ---- the table

-- eight times the operation's number, and 0 to 3: r/m, r and r, r/m
abbrev pub arithmetic_form : Prefixes → Operation → ℕ → List ℕ → Read Instr
arithmetic_form p o op bytes =
    if op % 8 / 2 == 0 then rm_r p (sized p op) (instrs.Arithmetic o (sized p op)) bytes
    else (if op % 8 / 2 == 1 then r_rm p (sized p op) (sized p op)
    (λ to from. instrs.Arithmetic o (sized p op) (places.Register to) (source from)) bytes
    else None)

abbrev pub arithmetic_row : Prefixes → ℕ → List ℕ → Read Instr
arithmetic_row p op bytes = given (operation (op / 8)) bytes >>= λ o. arithmetic_form p o.0 op o.1

-- one byte of opcode, without 66
unfoldable pub plain_row : Prefixes → ℕ → List ℕ → Read Instr
plain_row p op bytes =
    -- PUSH r64
    if op / 8 == 0x50 / 8 then Some (instrs.Push (register_of_low_bits p op), bytes)
    -- POP r64
    else (if op / 8 == 0x58 / 8 then Some (instrs.Pop (register_of_low_bits p op), bytes)
    -- MOVSXD r64, r/m32
    else (if op == 0x63 then sign_extend p bytes
    -- IMUL r, r/m, imm32
    else (if op == 0x69 then multiply_by p (immediate_of (width_of p)) bytes
    -- IMUL r, r/m, imm8
    else (if op == 0x6B then multiply_by p W8 bytes
    -- Jcc rel8
    else (if op / 16 == 0x70 / 16 then jump_if W8 op bytes
    -- LEA r, m
    else (if op == 0x8D then load_address p bytes
    -- NOP
    else (if op == 0x90 then no_operation p bytes
    -- CDQ, CQO
    else (if op == 0x99 then Some (instrs.ExtendRax (width_of p), bytes)
    -- SHL /4, SHR /5, SAR /7 r/m, imm8
    else (if op == 0xC1 then rm_extension p (width_of p) (group_2_immediate (width_of p)) bytes
    -- RET
    else (if op == 0xC3 then Some (instrs.Return, bytes)
    -- INT3
    else (if op == 0xCC then Some (instrs.Breakpoint, bytes)
    -- SHL /4, SHR /5, SAR /7 r/m, CL
    else (if op == 0xD3 then rm_extension p (width_of p) (group_2_cl (width_of p)) bytes
    -- CALL rel32
    else (if op == 0xE8 then call bytes
    -- JMP rel32
    else (if op == 0xE9 then jump W32 bytes
    -- JMP rel8
    else (if op == 0xEB then jump W8 bytes
    -- CALL /2, JMP /4 r/m64
    else (if op == 0xFF then rm_extension p W64 group_5 bytes
    else None))))))))))))))))

-- one byte of opcode; with 66 the rows above the last alone, and of the last none
unfoldable pub row : Prefixes → ℕ → List ℕ → Read Instr
row p op bytes =
    -- ADD, OR, AND, SUB, XOR, CMP r/m, r and r, r/m
    if op / 64 == 0 then arithmetic_row p op bytes
    -- ADD /0, OR /1, AND /4, SUB /5, XOR /6, CMP /7 r/m, imm
    else (if op / 2 == 0x80 / 2 then rm_extension p (sized p op)
    (group_1 (immediate_of (sized p op)) (sized p op)) bytes
    -- the same with imm8
    else (if op == 0x83 then rm_extension p (width_of p) (group_1 W8 (width_of p)) bytes
    -- TEST r/m, r
    else (if op / 2 == 0x84 / 2 then rm_r p (sized p op) (instrs.Test (sized p op)) bytes
    -- MOV r/m, r
    else (if op / 2 == 0x88 / 2 then rm_r p (sized p op) (instrs.Move (sized p op)) bytes
    -- MOV r, r/m
    else (if op / 2 == 0x8A / 2 then r_rm p (sized p op) (sized p op) (load (sized p op)) bytes
    -- MOV r, imm
    else (if op / 8 == 0xB8 / 8 then move_immediate p op bytes
    -- MOV /0 r/m, imm
    else (if op / 2 == 0xC6 / 2 then rm_extension p (sized p op) (group_11 (sized p op)) bytes
    -- TEST /0, NOT /2, NEG /3, DIV /6, IDIV /7
    else (if op / 2 == 0xF6 / 2 then rm_extension p (sized p op)
    (group_3 ((op == 0xF7) && not p.operand_size) (sized p op)) bytes
    else (if p.operand_size then None
    else plain_row p op bytes)))))))))

abbrev pub extend_row : Prefixes → ℕ → List ℕ → Read Instr
extend_row p op bytes =
    -- MOVZX r, r/m8 and r/m16
    if op / 2 == 0xB6 / 2 then extend Zero p op bytes
    -- MOVSX r, r/m8 and r/m16
    else (if op / 2 == 0xBE / 2 then extend Sign p op bytes
    else None)

-- the second byte of opcode, after 0F
unfoldable pub two_byte_row : Prefixes → ℕ → List ℕ → Read Instr
two_byte_row p op bytes =
    if p.operand_size then None
    -- UD2
    else (if op == 0x0B then Some (instrs.Undefined, bytes)
    -- Jcc rel32
    else (if op / 16 == 0x80 / 16 then jump_if W32 op bytes
    -- SETcc r/m8
    else (if op / 16 == 0x90 / 16 then set_if p op bytes
    -- IMUL r, r/m
    else (if op == 0xAF then r_rm p (width_of p) (width_of p) (instrs.Multiply (width_of p)) bytes
    else extend_row p op bytes))))

unfoldable pub after_prefixes : Prefixes → ℕ → List ℕ → Read Instr
after_prefixes p b bytes =
    if b == 0x0F then (byte bytes >>= λ c. two_byte_row p c.0 c.1) else row p b bytes

-- REX is 40 to 4F
unfoldable pub after_size : Bool → ℕ → List ℕ → Read Instr
after_size size b bytes =
    if b / 16 == 4
    then (byte bytes >>= λ c. after_prefixes
    (record { operand_size = size; has_rex = true; rex = b % 16 }) c.0 c.1)
    else after_prefixes (record { operand_size = size; has_rex = false; rex = 0 }) b bytes

unfoldable pub instr : List ℕ → Read Instr
instr bytes =
    byte bytes >>= λ b. if b.0 == 0x66 then (byte b.1 >>= λ c. after_size true c.0 c.1)
    else after_size false b.0 b.1

-- reading the bytes by the table gives i, and nothing is left. No spelling begins another, and each
-- spells one instruction: laws.
abbrev pub IsEncoding : Instr → List ℕ → Type 0
IsEncoding i bytes = instr bytes ≡ Some (i, [])

-- the instruction that the leading bytes spell, and how many bytes it takes
abbrev pub leading : List ℕ → Option (Instr × ℕ)
leading bytes = option_map (λ x. (x.0, length bytes - length x.1)) (instr bytes)
