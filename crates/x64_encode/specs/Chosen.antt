-- The spelling that is written: REX only where it says something, displacements and immediates of
-- one byte where that is enough, and no displacement left out.
--
-- The main definitions: `chosen`, `is_encodable`.
use Rattle.std.specs.Prelude.{ℕ, zero, suc, ◌+◌, ◌-◌, ◌*◌, ◌/◌, ◌%◌, Bool, true, false, not, ◌==◌, ◌&&◌, ◌||◌, nat_lt, nat_le, if◌then◌else◌, List, [], ◌∷◌, ◌++◌, None, Some, Option, IsTrue, length}
use Rattle.seh_num.specs.declared.width.Width.{Width}
use Rattle.seh_num.specs.declared.width.Width.TheVariants.{W8, W16, W32, W64}
use Rattle.seh_num.specs.Widths.{bytes_of, limit, half, low}
use Rattle.x64_instr.specs.declared.register.Reg.{Reg}
use Rattle.x64_instr.specs.declared.operand.Scale.{Scale}
use Rattle.x64_instr.specs.declared.operand.Scale.TheVariants.{One, Two, Four, Eight}
use Rattle.x64_instr.specs.declared.operand.Base.{Base}
use Rattle.x64_instr.specs.declared.operand.Base.TheVariants as bases
use Rattle.x64_instr.specs.declared.operand.Index.{Index}
use Rattle.x64_instr.specs.declared.operand.RegisterOrMemory.{RegisterOrMemory}
use Rattle.x64_instr.specs.declared.operand.RegisterOrMemory.TheVariants as places
use Rattle.x64_instr.specs.declared.operand.Operand.TheVariants as operands
use Rattle.x64_encode.specs.declared.writing.Opcode.{Opcode}
use Rattle.x64_encode.specs.declared.writing.Opcode.TheVariants as opcodes
use Rattle.x64_instr.specs.declared.instruction.Operation.{Operation}
use Rattle.x64_instr.specs.declared.instruction.Operation.TheVariants as operations
use Rattle.x64_instr.specs.declared.instruction.Unary.{Unary}
use Rattle.x64_instr.specs.declared.instruction.Unary.TheVariants.{Not, Negate}
use Rattle.x64_instr.specs.declared.instruction.Extension.{Extension}
use Rattle.x64_instr.specs.declared.instruction.Extension.TheVariants.{Sign, Zero}
use Rattle.x64_instr.specs.declared.instruction.Division.{Division}
use Rattle.x64_instr.specs.declared.instruction.Division.TheVariants.{Unsigned, Signed}
use Rattle.x64_instr.specs.declared.instruction.Direction.{Direction}
use Rattle.x64_instr.specs.declared.instruction.Direction.TheVariants.{Left, Right, ArithmeticRight}
use Rattle.x64_instr.specs.declared.instruction.Count.{Count}
use Rattle.x64_instr.specs.declared.instruction.Count.TheVariants as counts
use Rattle.x64_instr.specs.declared.instruction.Condition.{Condition}
use Rattle.x64_instr.specs.declared.instruction.Condition.TheVariants as conditions
use Rattle.x64_instr.specs.declared.instruction.Target.{Target}
use Rattle.x64_instr.specs.declared.instruction.Target.TheVariants.{Relative, Indirect}
use Rattle.x64_instr.specs.declared.instruction.Instr.{Instr}
use Rattle.x64_instr.specs.declared.instruction.Instr.TheVariants as instrs
use Rattle.x64_instr.specs.Registers.{number}
use Rattle.x64_instr.specs.Operands.{immediate_of}

-- the low n bytes of a number, little-endian
abbrev pub little : ℕ → ℕ → List ℕ
little zero v = []
little (suc n) v = (v % 256) ∷ little n (v / 256)

-- a number of one width that a narrower one gives by sign-extension
abbrev pub is_signed : Width → Width → ℕ → Bool
is_signed from to v =
    nat_lt v (half from) || (nat_le (limit to - half from) v && nat_lt v (limit to))

-- ---- prefixes

abbrev pub size_prefix : Width → List ℕ
size_prefix W16 = 0x66 ∷ []
size_prefix w = []

-- REX.W
abbrev pub wide : Width → ℕ
wide W64 = 1
wide w = 0

-- with a byte operand it is always written: without it the byte registers 4 to 7 are others
abbrev pub has_rex : Width → ℕ → Bool
has_rex W8 bits = true
has_rex w bits = not (bits == 0)

abbrev pub rex : Width → ℕ → List ℕ
rex w bits = if has_rex w bits then (0x40 + bits) ∷ [] else []

-- REX.X and REX.B
abbrev pub base_number : Base → ℕ
base_number (bases.Register r) = number r
base_number b = 5

abbrev pub index_number : Option Index → ℕ
index_number None = 4
index_number (Some i) = number i.register

abbrev pub high_bits : RegisterOrMemory → ℕ
high_bits (places.Register r) = number r / 8
high_bits (places.Memory m) = 2 * (index_number m.index / 8) + base_number m.base / 8

-- ---- ModRM, SIB and displacement, by the three bits of the reg field

-- mod: a displacement of one byte or four
abbrev pub mode : ℕ → ℕ
mode d = if is_signed W8 W64 d then 1 else 2

abbrev pub displacement : ℕ → List ℕ
displacement d = if is_signed W8 W64 d then little 1 (low W8 d) else little 4 (low W32 d)

abbrev pub scale_number : Scale → ℕ
scale_number One = 0
scale_number Two = 1
scale_number Four = 2
scale_number Eight = 3

abbrev pub sib : Option Index → ℕ → ℕ
sib None base = 8 * 4 + base
sib (Some i) base = 64 * scale_number i.scale + 8 * (number i.register % 8) + base

-- at a register: RSP and R12 need SIB, and so does an index
abbrev pub at_register : ℕ → Reg → Option Index → ℕ → List ℕ
at_register r b None d =
    if number b % 8 == 4
    then (64 * mode d + 8 * r + 4) ∷ sib None 4 ∷ displacement d
    else (64 * mode d + 8 * r + number b % 8) ∷ displacement d
at_register r b (Some i) d =
    (64 * mode d + 8 * r + 4) ∷ sib (Some i) (number b % 8) ∷ displacement d

abbrev pub memory_bytes : ℕ → Base → Option Index → ℕ → List ℕ
memory_bytes r bases.Nothing i d = (8 * r + 4) ∷ sib i 5 ∷ little 4 (low W32 d)
memory_bytes r bases.Rip i d = (8 * r + 5) ∷ little 4 (low W32 d)
memory_bytes r (bases.Register b) i d = at_register r b i d

abbrev pub place_bytes : ℕ → RegisterOrMemory → List ℕ
place_bytes r (places.Register b) = (64 * 3 + 8 * r + number b % 8) ∷ []
place_bytes r (places.Memory m) = memory_bytes r m.base m.index m.displacement

-- ---- instructions

abbrev pub prefixes : Width → ℕ → List ℕ
prefixes w bits = size_prefix w ++ rex w bits

abbrev pub opcode_bytes : Opcode → List ℕ
opcode_bytes (opcodes.One b) = b ∷ []
opcode_bytes (opcodes.Two b) = 0x0F ∷ b ∷ []

-- an opcode with ModRM: r is the number of the register in the reg field, or the opcode extension
-- there
abbrev pub modrm_bits : Width → ℕ → RegisterOrMemory → ℕ
modrm_bits w r at = 8 * wide w + 4 * (r / 8) + high_bits at

unfoldable pub modrm : Width → Opcode → ℕ → RegisterOrMemory → List ℕ
modrm w op r at = prefixes w (modrm_bits w r at) ++ opcode_bytes op ++ place_bytes (r % 8) at

-- an opcode with a register in its low three bits
unfoldable pub opcode_register : Width → ℕ → Reg → List ℕ
opcode_register w op r = prefixes w (8 * wide w + number r / 8) ++ (op + number r % 8) ∷ []

-- ---- opcodes and digits

-- an opcode with a byte form, of which the form for the other widths is the next
abbrev pub sized_opcode : Width → ℕ → ℕ
sized_opcode W8 op = op
sized_opcode w op = op + 1

abbrev pub opcode_extension : Operation → ℕ
opcode_extension operations.Add = 0
opcode_extension operations.Or = 1
opcode_extension operations.And = 4
opcode_extension operations.Sub = 5
opcode_extension operations.Xor = 6
opcode_extension operations.Compare = 7

abbrev pub unary_opcode_extension : Unary → ℕ
unary_opcode_extension Not = 2
unary_opcode_extension Negate = 3

abbrev pub division_opcode_extension : Division → ℕ
division_opcode_extension Unsigned = 6
division_opcode_extension Signed = 7

abbrev pub direction_opcode_extension : Direction → ℕ
direction_opcode_extension Left = 4
direction_opcode_extension Right = 5
direction_opcode_extension ArithmeticRight = 7

abbrev pub condition_number : Condition → ℕ
condition_number conditions.Overflow = 0
condition_number conditions.NotOverflow = 1
condition_number conditions.Below = 2
condition_number conditions.AboveOrEqual = 3
condition_number conditions.Equal = 4
condition_number conditions.NotEqual = 5
condition_number conditions.BelowOrEqual = 6
condition_number conditions.Above = 7
condition_number conditions.Sign = 8
condition_number conditions.NotSign = 9
condition_number conditions.Less = 12
condition_number conditions.GreaterOrEqual = 13
condition_number conditions.LessOrEqual = 14
condition_number conditions.Greater = 15

-- MOVZX and MOVSX by the width that is extended, and MOVSXD
abbrev pub extend_opcode : Extension → Width → Opcode
extend_opcode Zero W8 = opcodes.Two 0xB6
extend_opcode Zero W16 = opcodes.Two 0xB7
extend_opcode Sign W8 = opcodes.Two 0xBE
extend_opcode Sign W16 = opcodes.Two 0xBF
extend_opcode e w = opcodes.One 0x63

-- the width by which the prefixes are written: a byte operand needs REX, which doesn't say 64 bits
abbrev pub extend_width : Width → Width → Width
extend_width W32 W8 = W8
extend_width w n = w

-- ---- immediates

abbrev pub immediate_bytes : Width → ℕ → List ℕ
immediate_bytes w v = little (bytes_of (immediate_of w)) (low (immediate_of w) v)

abbrev pub arithmetic_bytes : Operation → Width → RegisterOrMemory → ℕ → List ℕ
arithmetic_bytes o W8 to v =
    modrm W8 (opcodes.One 0x80) (opcode_extension o) to ++ immediate_bytes W8 v
arithmetic_bytes o w to v =
    if is_signed W8 w v
    then modrm w (opcodes.One 0x83) (opcode_extension o) to ++ little 1 (low W8 v)
    else modrm w (opcodes.One 0x81) (opcode_extension o) to ++ immediate_bytes w v

abbrev pub multiply_bytes : Width → Reg → RegisterOrMemory → ℕ → List ℕ
multiply_bytes w to from v =
    if is_signed W8 w v
    then modrm w (opcodes.One 0x6B) (number to) from ++ little 1 (low W8 v)
    else modrm w (opcodes.One 0x69) (number to) from ++ immediate_bytes w v

abbrev pub move_bytes : Width → Reg → ℕ → List ℕ
move_bytes W8 to v = modrm W8 (opcodes.One 0xC6) 0 (places.Register to) ++ immediate_bytes W8 v
move_bytes w to v = opcode_register w 0xB8 to ++ little (bytes_of w) v

abbrev pub count_bytes : Width → ℕ → RegisterOrMemory → Count → List ℕ
count_bytes w d to (counts.Immediate n) = modrm w (opcodes.One 0xC1) d to ++ little 1 n
count_bytes w d to counts.Cl = modrm w (opcodes.One 0xD3) d to

-- an opcode with nothing after it
abbrev pub plain_bytes : Width → ℕ → List ℕ
plain_bytes W64 op = 0x48 ∷ op ∷ []
plain_bytes w op = op ∷ []

-- ---- instructions

-- the one spelling that is written. It has REX only where that says something, but always with an
-- operand of 8 bits. Displacements and immediates are of one byte where that is enough; jumps and
-- calls go by 32 bits.
abbrev pub chosen : Instr → List ℕ
chosen (instrs.Move w to (operands.Register r)) =
    modrm w (opcodes.One (sized_opcode w 0x88)) (number r) to
chosen (instrs.Move w (places.Register r) (operands.Memory m)) =
    modrm w (opcodes.One (sized_opcode w 0x8A)) (number r) (places.Memory m)
chosen (instrs.Move w (places.Register r) (operands.Immediate v)) = move_bytes w r v
chosen (instrs.Move w (places.Memory n) (operands.Immediate v)) =
    modrm w (opcodes.One (sized_opcode w 0xC6)) 0 (places.Memory n) ++ immediate_bytes w v
chosen (instrs.Move w (places.Memory n) (operands.Memory m)) = []
chosen (instrs.Extend e w to narrow from) =
    modrm (extend_width w narrow) (extend_opcode e narrow) (number to) from
chosen (instrs.LoadAddress w to m) = modrm w (opcodes.One 0x8D) (number to) (places.Memory m)
chosen (instrs.Arithmetic o w to (operands.Register r)) =
    modrm w (opcodes.One (sized_opcode w (8 * opcode_extension o))) (number r) to
chosen (instrs.Arithmetic o w to (operands.Immediate v)) = arithmetic_bytes o w to v
chosen (instrs.Arithmetic o w (places.Register r) (operands.Memory m)) =
    modrm w (opcodes.One (sized_opcode w (8 * opcode_extension o + 2))) (number r) (places.Memory m)
chosen (instrs.Arithmetic o w (places.Memory n) (operands.Memory m)) = []
chosen (instrs.Test w at (operands.Register r)) =
    modrm w (opcodes.One (sized_opcode w 0x84)) (number r) at
chosen (instrs.Test w at (operands.Immediate v)) =
    modrm w (opcodes.One (sized_opcode w 0xF6)) 0 at ++ immediate_bytes w v
chosen (instrs.Test w at (operands.Memory m)) = []
chosen (instrs.Multiply w to from) = modrm w (opcodes.Two 0xAF) (number to) from
chosen (instrs.MultiplyBy w to from v) = multiply_bytes w to from v
chosen (instrs.Unary o w at) =
    modrm w (opcodes.One (sized_opcode w 0xF6)) (unary_opcode_extension o) at
chosen (instrs.Divide d w at) = modrm w (opcodes.One 0xF7) (division_opcode_extension d) at
chosen (instrs.ExtendRax w) = plain_bytes w 0x99
chosen (instrs.Shift d w to by) = count_bytes w (direction_opcode_extension d) to by
chosen (instrs.Set c at) = modrm W8 (opcodes.Two (0x90 + condition_number c)) 0 at
chosen (instrs.JumpIf c d) = 0x0F ∷ (0x80 + condition_number c) ∷ little 4 (low W32 d)
chosen (instrs.Jump (Relative d)) = 0xE9 ∷ little 4 (low W32 d)
chosen (instrs.Jump (Indirect at)) = modrm W32 (opcodes.One 0xFF) 4 at
chosen (instrs.Call (Relative d)) = 0xE8 ∷ little 4 (low W32 d)
chosen (instrs.Call (Indirect at)) = modrm W32 (opcodes.One 0xFF) 2 at
chosen (instrs.Push r) = opcode_register W32 0x50 r
chosen (instrs.Pop r) = opcode_register W32 0x58 r
chosen instrs.Return = 0xC3 ∷ []
chosen instrs.NoOperation = 0x90 ∷ []
chosen instrs.Breakpoint = 0xCC ∷ []
chosen instrs.Undefined = 0x0F ∷ 0x0B ∷ []

-- how many bytes an instruction takes
abbrev pub encoded_len : Instr → ℕ
encoded_len i = length (chosen i)

-- ---- what has a spelling

abbrev pub is_index : Base → Option Index → Bool
is_index b None = true
is_index bases.Rip (Some i) = false
is_index b (Some i) = not (number i.register == 4)

abbrev pub is_place : RegisterOrMemory → Bool
is_place (places.Register r) = true
is_place (places.Memory m) = is_index m.base m.index && is_signed W32 W64 m.displacement

abbrev pub is_wide : Width → Bool
is_wide W32 = true
is_wide W64 = true
is_wide w = false

abbrev pub is_immediate : Width → ℕ → Bool
is_immediate w v = is_signed (immediate_of w) w v

abbrev pub is_widened : Extension → Width → Width → Bool
is_widened e w W8 = is_wide w
is_widened e w W16 = is_wide w
is_widened Sign W64 W32 = true
is_widened e w n = false

abbrev pub is_count : Count → Bool
is_count (counts.Immediate n) = nat_lt n (limit W8)
is_count counts.Cl = true

abbrev pub is_target : Target → Bool
is_target (Relative d) = is_signed W32 W64 d
is_target (Indirect at) = is_place at

-- some bytes spell i: its widths are those of its row, its numbers fit, and no index is RSP
abbrev pub is_encodable : Instr → Bool
is_encodable (instrs.Move w to (operands.Register r)) = is_place to
is_encodable (instrs.Move w (places.Register r) (operands.Memory m)) = is_place (places.Memory m)
is_encodable (instrs.Move w (places.Register r) (operands.Immediate v)) = nat_lt v (limit w)
is_encodable (instrs.Move w (places.Memory n) (operands.Immediate v)) =
    is_place (places.Memory n) && is_immediate w v
is_encodable (instrs.Move w (places.Memory n) (operands.Memory m)) = false
is_encodable (instrs.Extend e w to narrow from) = is_widened e w narrow && is_place from
is_encodable (instrs.LoadAddress w to m) = is_wide w && is_place (places.Memory m)
is_encodable (instrs.Arithmetic o w to (operands.Register r)) = is_place to
is_encodable (instrs.Arithmetic o w to (operands.Immediate v)) = is_place to && is_immediate w v
is_encodable (instrs.Arithmetic o w (places.Register r) (operands.Memory m)) =
    is_place (places.Memory m)
is_encodable (instrs.Arithmetic o w (places.Memory n) (operands.Memory m)) = false
is_encodable (instrs.Test w at (operands.Register r)) = is_place at
is_encodable (instrs.Test w at (operands.Immediate v)) = is_place at && is_immediate w v
is_encodable (instrs.Test w at (operands.Memory m)) = false
is_encodable (instrs.Multiply w to from) = is_wide w && is_place from
is_encodable (instrs.MultiplyBy w to from v) = is_wide w && (is_place from && is_immediate w v)
is_encodable (instrs.Unary o w at) = is_place at
is_encodable (instrs.Divide d w at) = is_wide w && is_place at
is_encodable (instrs.ExtendRax w) = is_wide w
is_encodable (instrs.Shift d w to by) = is_wide w && (is_place to && is_count by)
is_encodable (instrs.Set c at) = is_place at
is_encodable (instrs.JumpIf c d) = is_signed W32 W64 d
is_encodable (instrs.Jump to) = is_target to
is_encodable (instrs.Call to) = is_target to
is_encodable (instrs.Push r) = true
is_encodable (instrs.Pop r) = true
is_encodable instrs.Return = true
is_encodable instrs.NoOperation = true
is_encodable instrs.Breakpoint = true
is_encodable instrs.Undefined = true

-- some bytes spell the instruction
abbrev pub IsEncodable : Instr → Type 0
IsEncodable i = IsTrue (is_encodable i)
