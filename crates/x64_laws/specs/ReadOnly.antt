-- Spellings that are read as the instruction that the manual gives them, and that the encoder
-- doesn't choose (Intel manual, volume 2, each instruction's page; "Instruction Format").
--
-- The main definition: `IsOnlyRead`.
use Rattle.std.specs.Prelude.{◌≡◌, ◌≢◌, ℕ, ◌+◌, ◌*◌, ◌<◌, true, List, [], ◌∷◌, ◌++◌, None}
use Rattle.seh_num.specs.declared.width.Width.{Width}
use Rattle.seh_num.specs.declared.width.Width.TheVariants.{W8, W32, W64}
use Rattle.seh_num.specs.Widths.{signed, wrapped}
use Rattle.x64_instr.specs.declared.register.Reg.{Reg}
use Rattle.x64_instr.specs.declared.register.Reg.TheVariants.{Rax, Rcx, Rsp}
use Rattle.x64_instr.specs.declared.operand.Base.TheVariants as bases
use Rattle.x64_instr.specs.declared.operand.RegisterOrMemory.{RegisterOrMemory}
use Rattle.x64_instr.specs.declared.operand.RegisterOrMemory.TheVariants as places
use Rattle.x64_instr.specs.declared.operand.Operand.{Operand}
use Rattle.x64_instr.specs.declared.operand.Operand.TheVariants as operands
use Rattle.x64_instr.specs.declared.instruction.Operation.{Operation}
use Rattle.x64_instr.specs.declared.instruction.Operation.TheVariants.{Add}
use Rattle.x64_instr.specs.declared.instruction.Condition.{Condition}
use Rattle.x64_instr.specs.declared.instruction.Condition.TheVariants.{Equal}
use Rattle.x64_instr.specs.declared.instruction.Target.TheVariants.{Relative}
use Rattle.x64_instr.specs.declared.instruction.Instr.{Instr}
use Rattle.x64_instr.specs.declared.instruction.Instr.TheVariants as instrs
use Rattle.x64_instr.specs.Registers.{number}
use Rattle.x64_instr.specs.Spelling.{IsEncoding}
use Rattle.x64_encode.specs.declared.writing.Opcode.TheVariants as opcodes
use Rattle.x64_encode.specs.Chosen.{modrm, sized_opcode, opcode_extension, condition_number, immediate_bytes, is_place, is_immediate, chosen}

-- the bytes spell the instruction, and are not what is written for it
pub record IsOnlyRead (i : Instr) (bytes : List ℕ) : Type 0 where
  pub is : IsEncoding i bytes
  pub other : chosen i ≢ bytes

-- ADD, OR, AND, SUB, XOR, CMP r, r/m, where r/m is a register
abbrev pub ArithmeticReadsRegisters : Type 0
ArithmeticReadsRegisters =
    (o : Operation) (w : Width) (to from : Reg)
    → IsEncoding (instrs.Arithmetic o w (places.Register to) (operands.Register from))
    (modrm w (opcodes.One (sized_opcode w (8 * opcode_extension o + 2))) (number to)
    (places.Register from))

-- MOV r, r/m, where r/m is a register
abbrev pub MovReadsRegisters : Type 0
MovReadsRegisters =
    (w : Width) (to from : Reg)
    → IsEncoding (instrs.Move w (places.Register to) (operands.Register from))
    (modrm w (opcodes.One (sized_opcode w 0x8A)) (number to) (places.Register from))

-- MOV r/m, imm, where r/m is a register
abbrev pub MovReadsImmediate : Type 0
MovReadsImmediate =
    (w : Width) (to : Reg) (v : ℕ) → is_immediate w v ≡ true
    → IsEncoding (instrs.Move w (places.Register to) (operands.Immediate v))
    (modrm w (opcodes.One (sized_opcode w 0xC6)) 0 (places.Register to) ++ immediate_bytes w v)

-- ADD, OR, AND, SUB, XOR, CMP r/m, imm, where one byte would be enough for the immediate too
abbrev pub ArithmeticReadsImmediate : Type 0
ArithmeticReadsImmediate =
    (o : Operation) (w : Width) (to : RegisterOrMemory) (v : ℕ) → is_place to ≡ true
    → is_immediate w v ≡ true → IsEncoding (instrs.Arithmetic o w to (operands.Immediate v))
    (modrm w (opcodes.One (sized_opcode w 0x80)) (opcode_extension o) to ++ immediate_bytes w v)

-- JMP rel8 and Jcc rel8: a signed byte, from the next instruction
abbrev pub JmpReadsByte : Type 0
JmpReadsByte =
    (b : ℕ) → b < 256
    → IsOnlyRead (instrs.Jump (Relative (wrapped W64 (signed W8 b)))) (0xEB ∷ b ∷ [])

abbrev pub JccReadsByte : Type 0
JccReadsByte =
    (c : Condition) (b : ℕ) → b < 256
    → IsOnlyRead (instrs.JumpIf c (wrapped W64 (signed W8 b)))
    ((0x70 + condition_number c) ∷ b ∷ [])

abbrev pub at : Reg → ℕ → Operand
at r d = operands.Memory (record { base = bases.Register r; index = None; displacement = d })

-- rows of their own
pub record RowsOnlyRead : Type 0 where
  -- no displacement: MOV RCX, [RAX] and MOV EAX, [RSP]
  pub mod_00 : IsOnlyRead (instrs.Move W64 (places.Register Rcx) (at Rax 0))
      (0x48 ∷ 0x8B ∷ 0x08 ∷ [])
  pub mod_00_sib : IsOnlyRead (instrs.Move W32 (places.Register Rax) (at Rsp 0))
      (0x8B ∷ 0x04 ∷ 0x24 ∷ [])
  -- a displacement of four bytes, where one is enough: MOV RCX, [RAX + 8]
  pub mod_10 : IsOnlyRead (instrs.Move W64 (places.Register Rcx) (at Rax 8))
      (0x48 ∷ 0x8B ∷ 0x88 ∷ 0x08 ∷ 0x00 ∷ 0x00 ∷ 0x00 ∷ [])
  -- an immediate of four bytes, where one is enough: IMUL EAX, ECX, 5
  pub imul : IsOnlyRead (instrs.MultiplyBy W32 Rax (places.Register Rcx) 5)
      (0x69 ∷ 0xC1 ∷ 0x05 ∷ 0x00 ∷ 0x00 ∷ 0x00 ∷ [])
  -- REX that says nothing: PUSH RAX and NOP
  pub rex : IsOnlyRead (instrs.Push Rax) (0x40 ∷ 0x50 ∷ [])
  pub rex_w : IsOnlyRead instrs.NoOperation (0x48 ∷ 0x90 ∷ [])
  -- operands of 8 bits without REX: ADD AL, CL and SETE AL
  pub byte : IsOnlyRead (instrs.Arithmetic Add W8 (places.Register Rax) (operands.Register Rcx))
      (0x00 ∷ 0xC8 ∷ [])
  pub set : IsOnlyRead (instrs.Set Equal (places.Register Rax)) (0x0F ∷ 0x94 ∷ 0xC0 ∷ [])
  -- 66 before an operand of 8 bits: ADD AL, CL
  pub size : IsOnlyRead (instrs.Arithmetic Add W8 (places.Register Rax) (operands.Register Rcx))
      (0x66 ∷ 0x00 ∷ 0xC8 ∷ [])
