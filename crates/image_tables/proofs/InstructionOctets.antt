-- The chosen spelling of every instruction is octets.
use Rattle.std.proofs.Common.{ℕ, zero, suc, ◌+◌, ◌*◌, ◌/◌, ◌%◌, ◌<◌, Bool, true, false, cond, List, [], ◌∷◌, ◌++◌, Option, Some, None, arith}
use Rattle.std.specs.Prelude.{◌==◌}
use Rattle.x64_encode.specs.Words.{Width, W8, W16, W32, W64, bytes_of, low, Reg, Base, Index, RegisterOrMemory, Operation, Condition, Count, Relative, Indirect, Instr, immediate_of, little, is_signed, wide, has_rex, prefixes, opcode_bytes, mode, displacement, sib, at_register, memory_bytes, place_bytes, modrm_bits, modrm, opcode_register, sized_opcode, opcode_extension, unary_opcode_extension, division_opcode_extension, direction_opcode_extension, condition_number, extend_opcode, extend_width, immediate_bytes, arithmetic_bytes, move_bytes, count_bytes, plain_bytes, high_bits, base_number, index_number, scale_number, chosen}
use Rattle.x64_instr.proofs.RegisterNumbers.{number_small}
use Rattle.x64_encode.specs.declared.writing.Opcode.{Opcode}
use Rattle.x64_encode.specs.declared.writing.Opcode.TheVariants as opcodes
use Rattle.x64_instr.specs.Registers.{number}
use Rattle.x64_instr.specs.declared.operand.Base.TheVariants as bases
use Rattle.x64_instr.specs.declared.operand.RegisterOrMemory.TheVariants as places
use Rattle.x64_instr.specs.declared.operand.Operand.TheVariants as operands
use Rattle.x64_instr.specs.declared.operand.Scale.{Scale}
use Rattle.x64_instr.specs.declared.operand.Scale.TheVariants.{One, Two, Four, Eight}
use Rattle.x64_instr.specs.declared.instruction.Condition.TheVariants as conditions
use Rattle.x64_instr.specs.declared.instruction.Count.TheVariants as counts
use Rattle.x64_instr.specs.declared.instruction.Direction.{Direction}
use Rattle.x64_instr.specs.declared.instruction.Direction.TheVariants as directions
use Rattle.x64_instr.specs.declared.instruction.Division.{Division}
use Rattle.x64_instr.specs.declared.instruction.Division.TheVariants as divisions
use Rattle.x64_instr.specs.declared.instruction.Extension.{Extension}
use Rattle.x64_instr.specs.declared.instruction.Extension.TheVariants as extensions
use Rattle.x64_instr.specs.declared.instruction.Instr.TheVariants as instrs
use Rattle.x64_instr.specs.declared.instruction.Operation.TheVariants as operations
use Rattle.x64_instr.specs.declared.instruction.Unary.{Unary}
use Rattle.x64_instr.specs.declared.instruction.Unary.TheVariants as unaries
use Rattle.image_tables.specs.OctetLaws.{AreOctets}
use Rattle.image_tables.proofs.Octets.{joined, either, mapped}
use Rattle.template_code.specs.Bytes.{spelled}

little_octets : (n v : ℕ) → AreOctets (little n v)
little_octets zero v = tt
little_octets (suc n) v = (omega arith, little_octets n (v / 256))

-- ---- prefixes

wide_small : (w : Width) → wide w < 2
wide_small W64 = omega arith
wide_small w = omega arith

rex_octets : (b : Bool) (bits : ℕ) → bits < 16
    → AreOctets (cond b ((0x40 + bits) ∷ []) [])
rex_octets true bits lt = (omega arith, tt)
rex_octets false bits lt = tt

prefixes_octets : (w : Width) (bits : ℕ) → bits < 16 → AreOctets (prefixes w bits)
prefixes_octets W16 bits lt = (omega arith, rex_octets (has_rex W16 bits) bits lt)
prefixes_octets W8 bits lt = rex_octets (has_rex W8 bits) bits lt
prefixes_octets W32 bits lt = rex_octets (has_rex W32 bits) bits lt
prefixes_octets W64 bits lt = rex_octets (has_rex W64 bits) bits lt

base_small : (b : Base) → base_number b < 16
base_small (bases.Register r) = number_small r
base_small b = omega arith

index_small : (i : Option Index) → index_number i < 16
index_small None = omega arith
index_small (Some i) = number_small i.register

high_small : (at : RegisterOrMemory) → high_bits at < 4
high_small (places.Register r) = let h = number_small r in omega arith
high_small (places.Memory m) =
    let i = index_small m.index in let b = base_small m.base in omega arith

-- ---- ModRM, SIB and displacement

mode_by : (b : Bool) → cond b 1 2 < 3
mode_by true = omega arith
mode_by false = omega arith

mode_small : (d : ℕ) → mode d < 3
mode_small d = mode_by (is_signed W8 W64 d)

scale_small : (s : Scale) → scale_number s < 4
scale_small One = omega arith
scale_small Two = omega arith
scale_small Four = omega arith
scale_small Eight = omega arith

sib_small : (i : Option Index) (base : ℕ) → base < 8 → sib i base < 256
sib_small None base lt = omega arith
sib_small (Some i) base lt = let s = scale_small i.scale in omega arith

displacement_octets : (d : ℕ) → AreOctets (displacement d)
displacement_octets d = either (is_signed W8 W64 d) (little 1 (low W8 d)) (little 4 (low W32 d))
    (little_octets 1 (low W8 d)) (little_octets 4 (low W32 d))

at_register_octets : (r : ℕ) (b : Reg) (i : Option Index) (d : ℕ) → r < 8
    → AreOctets (at_register r b i d)
at_register_octets r b None d lt =
    let m = mode_small d in
    either (number b % 8 == 4) ((64 * mode d + 8 * r + 4) ∷ sib None 4 ∷ displacement d)
    ((64 * mode d + 8 * r + number b % 8) ∷ displacement d)
    (omega arith, (omega arith, displacement_octets d)) (omega arith, displacement_octets d)
at_register_octets r b (Some i) d lt =
    let m = mode_small d in
    (omega arith, (sib_small (Some i) (number b % 8) (omega arith), displacement_octets d))

memory_octets : (r : ℕ) (b : Base) (i : Option Index) (d : ℕ) → r < 8
    → AreOctets (memory_bytes r b i d)
memory_octets r bases.Nothing i d lt =
    (omega arith, (sib_small i 5 (omega arith), little_octets 4 (low W32 d)))
memory_octets r bases.Rip i d lt = (omega arith, little_octets 4 (low W32 d))
memory_octets r (bases.Register b) i d lt = at_register_octets r b i d lt

place_octets : (r : ℕ) (at : RegisterOrMemory) → r < 8 → AreOctets (place_bytes r at)
place_octets r (places.Register b) lt = (omega arith, tt)
place_octets r (places.Memory m) lt = memory_octets r m.base m.index m.displacement lt

-- ---- opcodes

abbrev IsOctetOpcode : Opcode → Type 0
IsOctetOpcode (opcodes.One b) = b < 256
IsOctetOpcode (opcodes.Two b) = b < 256

opcode_octets : (op : Opcode) → IsOctetOpcode op → AreOctets (opcode_bytes op)
opcode_octets (opcodes.One b) lt = (lt, tt)
opcode_octets (opcodes.Two b) lt = (omega arith, (lt, tt))

modrm_octets : (w : Width) (op : Opcode) (r : ℕ) (at : RegisterOrMemory) → IsOctetOpcode op
    → r < 16 → AreOctets (modrm w op r at)
unfolding modrm
modrm_octets w op r at lt small =
    let w' = wide_small w in
    let h = high_small at in
    joined (prefixes w (modrm_bits w r at) ++ opcode_bytes op) (place_bytes (r % 8) at)
    (joined (prefixes w (modrm_bits w r at)) (opcode_bytes op)
    (prefixes_octets w (modrm_bits w r at) (omega arith)) (opcode_octets op lt))
    (place_octets (r % 8) at (omega arith))

opcode_register_octets : (w : Width) (op : ℕ) (r : Reg) → op < 249
    → AreOctets (opcode_register w op r)
unfolding opcode_register
opcode_register_octets w op r lt =
    let w' = wide_small w in
    let n = number_small r in
    joined (prefixes w (8 * wide w + number r / 8)) ((op + number r % 8) ∷ [])
    (prefixes_octets w (8 * wide w + number r / 8) (omega arith)) (omega arith, tt)

sized_small : (w : Width) (op : ℕ) → op < 255 → sized_opcode w op < 256
sized_small W8 op lt = omega arith
sized_small W16 op lt = omega arith
sized_small W32 op lt = omega arith
sized_small W64 op lt = omega arith

extension_small : (o : Operation) → opcode_extension o < 8
extension_small operations.Add = omega arith
extension_small operations.Or = omega arith
extension_small operations.And = omega arith
extension_small operations.Sub = omega arith
extension_small operations.Xor = omega arith
extension_small operations.Compare = omega arith

unary_small : (o : Unary) → unary_opcode_extension o < 16
unary_small unaries.Not = omega arith
unary_small unaries.Negate = omega arith

division_small : (d : Division) → division_opcode_extension d < 16
division_small divisions.Unsigned = omega arith
division_small divisions.Signed = omega arith

direction_small : (d : Direction) → direction_opcode_extension d < 16
direction_small directions.Left = omega arith
direction_small directions.Right = omega arith
direction_small directions.ArithmeticRight = omega arith

condition_small : (c : Condition) → condition_number c < 16
condition_small conditions.Overflow = omega arith
condition_small conditions.NotOverflow = omega arith
condition_small conditions.Below = omega arith
condition_small conditions.AboveOrEqual = omega arith
condition_small conditions.Equal = omega arith
condition_small conditions.NotEqual = omega arith
condition_small conditions.BelowOrEqual = omega arith
condition_small conditions.Above = omega arith
condition_small conditions.Sign = omega arith
condition_small conditions.NotSign = omega arith
condition_small conditions.Less = omega arith
condition_small conditions.GreaterOrEqual = omega arith
condition_small conditions.LessOrEqual = omega arith
condition_small conditions.Greater = omega arith

extend_is_octet : (e : Extension) (w : Width) → IsOctetOpcode (extend_opcode e w)
extend_is_octet extensions.Zero W8 = omega arith
extend_is_octet extensions.Zero W16 = omega arith
extend_is_octet extensions.Zero W32 = omega arith
extend_is_octet extensions.Zero W64 = omega arith
extend_is_octet extensions.Sign W8 = omega arith
extend_is_octet extensions.Sign W16 = omega arith
extend_is_octet extensions.Sign W32 = omega arith
extend_is_octet extensions.Sign W64 = omega arith

-- ---- immediates

immediate_octets : (w : Width) (v : ℕ) → AreOctets (immediate_bytes w v)
immediate_octets w v = little_octets (bytes_of (immediate_of w)) (low (immediate_of w) v)

-- by an immediate of one byte, or of the width
by_immediate : (b : Bool) (w : Width) (short long digit : ℕ) (at : RegisterOrMemory) (v : ℕ)
    → short < 256 → long < 256 → digit < 16
    → AreOctets (cond b (modrm w (opcodes.One short) digit at ++ little 1 (low W8 v))
    (modrm w (opcodes.One long) digit at ++ immediate_bytes w v))
by_immediate b w short long digit at v s l d =
    either b (modrm w (opcodes.One short) digit at ++ little 1 (low W8 v))
    (modrm w (opcodes.One long) digit at ++ immediate_bytes w v)
    (joined (modrm w (opcodes.One short) digit at) (little 1 (low W8 v))
    (modrm_octets w (opcodes.One short) digit at s d) (little_octets 1 (low W8 v)))
    (joined (modrm w (opcodes.One long) digit at) (immediate_bytes w v)
    (modrm_octets w (opcodes.One long) digit at l d) (immediate_octets w v))

with_immediate : (w : Width) (op digit : ℕ) (at : RegisterOrMemory) (v : ℕ) → op < 256
    → digit < 16 → AreOctets (modrm w (opcodes.One op) digit at ++ immediate_bytes w v)
with_immediate w op digit at v lt small =
    joined (modrm w (opcodes.One op) digit at) (immediate_bytes w v)
    (modrm_octets w (opcodes.One op) digit at lt small) (immediate_octets w v)

arithmetic_octets : (o : Operation) (w : Width) (to : RegisterOrMemory) (v : ℕ)
    → AreOctets (arithmetic_bytes o w to v)
arithmetic_octets o W8 to v =
    let e = extension_small o in
    with_immediate W8 0x80 (opcode_extension o) to v (omega arith) (omega arith)
arithmetic_octets o W16 to v =
    let e = extension_small o in
    by_immediate (is_signed W8 W16 v) W16 0x83 0x81 (opcode_extension o) to v (omega arith)
    (omega arith) (omega arith)
arithmetic_octets o W32 to v =
    let e = extension_small o in
    by_immediate (is_signed W8 W32 v) W32 0x83 0x81 (opcode_extension o) to v (omega arith)
    (omega arith) (omega arith)
arithmetic_octets o W64 to v =
    let e = extension_small o in
    by_immediate (is_signed W8 W64 v) W64 0x83 0x81 (opcode_extension o) to v (omega arith)
    (omega arith) (omega arith)

move_octets : (w : Width) (to : Reg) (v : ℕ) → AreOctets (move_bytes w to v)
move_octets W8 to v =
    with_immediate W8 0xC6 0 (places.Register to) v (omega arith) (omega arith)
move_octets W16 to v = joined (opcode_register W16 0xB8 to) (little (bytes_of W16) v)
    (opcode_register_octets W16 0xB8 to (omega arith)) (little_octets (bytes_of W16) v)
move_octets W32 to v = joined (opcode_register W32 0xB8 to) (little (bytes_of W32) v)
    (opcode_register_octets W32 0xB8 to (omega arith)) (little_octets (bytes_of W32) v)
move_octets W64 to v = joined (opcode_register W64 0xB8 to) (little (bytes_of W64) v)
    (opcode_register_octets W64 0xB8 to (omega arith)) (little_octets (bytes_of W64) v)

count_octets : (w : Width) (d : ℕ) (to : RegisterOrMemory) (by : Count) → d < 16
    → AreOctets (count_bytes w d to by)
count_octets w d to (counts.Immediate n) lt =
    joined (modrm w (opcodes.One 0xC1) d to) (little 1 n)
    (modrm_octets w (opcodes.One 0xC1) d to (omega arith) lt) (little_octets 1 n)
count_octets w d to counts.Cl lt = modrm_octets w (opcodes.One 0xD3) d to (omega arith) lt

plain_octets : (w : Width) (op : ℕ) → op < 256 → AreOctets (plain_bytes w op)
plain_octets W8 op lt = (lt, tt)
plain_octets W16 op lt = (lt, tt)
plain_octets W32 op lt = (lt, tt)
plain_octets W64 op lt = (omega arith, (lt, tt))

-- ---- instructions

chosen_octets : (i : Instr) → AreOctets (chosen i)
chosen_octets (instrs.Move w to (operands.Register r)) =
    modrm_octets w (opcodes.One (sized_opcode w 0x88)) (number r) to
    (sized_small w 0x88 (omega arith)) (number_small r)
chosen_octets (instrs.Move w (places.Register r) (operands.Memory m)) =
    modrm_octets w (opcodes.One (sized_opcode w 0x8A)) (number r) (places.Memory m)
    (sized_small w 0x8A (omega arith)) (number_small r)
chosen_octets (instrs.Move w (places.Register r) (operands.Immediate v)) = move_octets w r v
chosen_octets (instrs.Move w (places.Memory n) (operands.Immediate v)) =
    with_immediate w (sized_opcode w 0xC6) 0 (places.Memory n) v (sized_small w 0xC6 (omega arith))
    (omega arith)
chosen_octets (instrs.Move w (places.Memory n) (operands.Memory m)) = tt
chosen_octets (instrs.Extend e w to narrow from) =
    modrm_octets (extend_width w narrow) (extend_opcode e narrow) (number to) from
    (extend_is_octet e narrow) (number_small to)
chosen_octets (instrs.LoadAddress w to m) =
    modrm_octets w (opcodes.One 0x8D) (number to) (places.Memory m) (omega arith) (number_small to)
chosen_octets (instrs.Arithmetic o w to (operands.Register r)) =
    let e = extension_small o in
    modrm_octets w (opcodes.One (sized_opcode w (8 * opcode_extension o))) (number r) to
    (sized_small w (8 * opcode_extension o) (omega arith)) (number_small r)
chosen_octets (instrs.Arithmetic o w to (operands.Immediate v)) = arithmetic_octets o w to v
chosen_octets (instrs.Arithmetic o w (places.Register r) (operands.Memory m)) =
    let e = extension_small o in
    modrm_octets w (opcodes.One (sized_opcode w (8 * opcode_extension o + 2))) (number r)
    (places.Memory m) (sized_small w (8 * opcode_extension o + 2) (omega arith)) (number_small r)
chosen_octets (instrs.Arithmetic o w (places.Memory n) (operands.Memory m)) = tt
chosen_octets (instrs.Test w at (operands.Register r)) =
    modrm_octets w (opcodes.One (sized_opcode w 0x84)) (number r) at
    (sized_small w 0x84 (omega arith)) (number_small r)
chosen_octets (instrs.Test w at (operands.Immediate v)) =
    with_immediate w (sized_opcode w 0xF6) 0 at v (sized_small w 0xF6 (omega arith)) (omega arith)
chosen_octets (instrs.Test w at (operands.Memory m)) = tt
chosen_octets (instrs.Multiply w to from) =
    modrm_octets w (opcodes.Two 0xAF) (number to) from (omega arith) (number_small to)
chosen_octets (instrs.MultiplyBy w to from v) =
    by_immediate (is_signed W8 w v) w 0x6B 0x69 (number to) from v (omega arith) (omega arith)
    (number_small to)
chosen_octets (instrs.Unary o w at) =
    modrm_octets w (opcodes.One (sized_opcode w 0xF6)) (unary_opcode_extension o) at
    (sized_small w 0xF6 (omega arith)) (unary_small o)
chosen_octets (instrs.Divide d w at) =
    modrm_octets w (opcodes.One 0xF7) (division_opcode_extension d) at (omega arith)
    (division_small d)
chosen_octets (instrs.ExtendRax w) = plain_octets w 0x99 (omega arith)
chosen_octets (instrs.Shift d w to by) =
    count_octets w (direction_opcode_extension d) to by (direction_small d)
chosen_octets (instrs.Set c at) =
    let e = condition_small c in
    modrm_octets W8 (opcodes.Two (0x90 + condition_number c)) 0 at (omega arith) (omega arith)
chosen_octets (instrs.JumpIf c d) =
    let e = condition_small c in
    (omega arith, (omega arith, little_octets 4 (low W32 d)))
chosen_octets (instrs.Jump (Relative d)) = (omega arith, little_octets 4 (low W32 d))
chosen_octets (instrs.Jump (Indirect at)) =
    modrm_octets W32 (opcodes.One 0xFF) 4 at (omega arith) (omega arith)
chosen_octets (instrs.Call (Relative d)) = (omega arith, little_octets 4 (low W32 d))
chosen_octets (instrs.Call (Indirect at)) =
    modrm_octets W32 (opcodes.One 0xFF) 2 at (omega arith) (omega arith)
chosen_octets (instrs.Push r) = opcode_register_octets W32 0x50 r (omega arith)
chosen_octets (instrs.Pop r) = opcode_register_octets W32 0x58 r (omega arith)
chosen_octets instrs.Return = (omega arith, tt)
chosen_octets instrs.NoOperation = (omega arith, tt)
chosen_octets instrs.Breakpoint = (omega arith, tt)
chosen_octets instrs.Undefined = (omega arith, (omega arith, tt))

pub spelled_octets : (is : List Instr) → AreOctets (spelled is)
spelled_octets is = mapped chosen is chosen_octets
