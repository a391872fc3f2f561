-- No chosen spelling is longer than 15 bytes.
use Rattle.std.proofs.Common.{◌≡◌, ℕ, zero, suc, ◌+◌, ◌*◌, ◌/◌, ◌%◌, ◌≤◌, Bool, true, false, cond, List, [], ◌∷◌, ◌++◌, Option, Some, None, refl, ap, arith, length, length-append}
use Rattle.std.specs.Prelude.{◌==◌}
use Rattle.x64_encode.specs.Words.{Width, W8, W16, W32, W64, bytes_of, low, Reg, Base, Index, RegisterOrMemory, Operation, Count, Relative, Indirect, Instr, immediate_of, little, is_signed, wide, has_rex, prefixes, opcode_bytes, mode, displacement, sib, at_register, memory_bytes, place_bytes, modrm_bits, modrm, opcode_register, sized_opcode, opcode_extension, unary_opcode_extension, division_opcode_extension, direction_opcode_extension, condition_number, extend_opcode, extend_width, immediate_bytes, arithmetic_bytes, move_bytes, count_bytes, plain_bytes, encoded_len}
use Rattle.x64_instr.specs.declared.operand.Base.TheVariants as bases
use Rattle.x64_instr.specs.declared.operand.RegisterOrMemory.TheVariants as places
use Rattle.x64_instr.specs.declared.operand.Operand.TheVariants as operands
use Rattle.x64_encode.specs.declared.writing.Opcode.{Opcode}
use Rattle.x64_encode.specs.declared.writing.Opcode.TheVariants as opcodes
use Rattle.x64_instr.specs.declared.instruction.Count.TheVariants as counts
use Rattle.x64_instr.specs.declared.instruction.Instr.TheVariants as instrs
use Rattle.x64_instr.specs.Registers.{number}

pub length-little : (n v : ℕ) → length (little n v) ≡ n
length-little zero v = refl
length-little (suc n) v = ap suc (length-little n (v / 256))

rex_length : (t : Bool) (b : ℕ) → length (cond t (b ∷ []) []) ≤ 1
rex_length true b = omega arith
rex_length false b = omega arith

prefixes_length : (w : Width) (bits : ℕ) → length (prefixes w bits) ≤ 2
prefixes_length W8 bits = omega (arith, rex_length (has_rex W8 bits) (0x40 + bits))
prefixes_length W16 bits = omega (arith, rex_length (has_rex W16 bits) (0x40 + bits))
prefixes_length W32 bits = omega (arith, rex_length (has_rex W32 bits) (0x40 + bits))
prefixes_length W64 bits = omega (arith, rex_length (has_rex W64 bits) (0x40 + bits))

opcode_length : (op : Opcode) → length (opcode_bytes op) ≤ 2
opcode_length (opcodes.One b) = omega arith
opcode_length (opcodes.Two b) = omega arith

displacement_by : (t : Bool) (d : ℕ) → length (cond t (little 1 (low W8 d)) (little 4 (low W32 d)))
    ≤ 4
displacement_by true d = omega (arith, length-little 1 (low W8 d))
displacement_by false d = omega (arith, length-little 4 (low W32 d))

shorter_by : (t : Bool) (xs ys : List ℕ) (n : ℕ) → length xs ≤ n → length ys ≤ n
    → length (cond t xs ys) ≤ n
shorter_by true xs ys n x y = x
shorter_by false xs ys n x y = y

at_register_length : (r : ℕ) (b : Reg) (i : Option Index) (d : ℕ) → length (at_register r b i d) ≤ 6
at_register_length r b None d =
    let e = displacement_by (is_signed W8 W64 d) d in
    shorter_by (number b % 8 == 4) ((64 * mode d + 8 * r + 4) ∷ sib None 4 ∷ displacement d)
    ((64 * mode d + 8 * r + number b % 8) ∷ displacement d) 6 (omega arith) (omega arith)
at_register_length r b (Some i) d = let e = displacement_by (is_signed W8 W64 d) d in omega arith

memory_length : (r : ℕ) (b : Base) (i : Option Index) (d : ℕ) → length (memory_bytes r b i d) ≤ 6
memory_length r bases.Nothing i d = omega (arith, length-little 4 (low W32 d))
memory_length r bases.Rip i d = omega (arith, length-little 4 (low W32 d))
memory_length r (bases.Register b) i d = at_register_length r b i d

place_length : (r : ℕ) (at : RegisterOrMemory) → length (place_bytes r at) ≤ 6
place_length r (places.Register b) = omega arith
place_length r (places.Memory m) = memory_length r m.base m.index m.displacement

modrm_length : (w : Width) (op : Opcode) (r : ℕ) (at : RegisterOrMemory)
    → length (modrm w op r at) ≤ 10
unfolding modrm
modrm_length w op r at =
    let p = prefixes w (modrm_bits w r at) in
    let a = prefixes_length w (modrm_bits w r at) in
    let b = opcode_length op in
    let c = place_length (r % 8) at in
    let d = length-append (p ++ opcode_bytes op) (place_bytes (r % 8) at) in
    let e = length-append p (opcode_bytes op) in
    omega arith

opcode_register_length : (w : Width) (op : ℕ) (r : Reg) → length (opcode_register w op r) ≤ 3
unfolding opcode_register
opcode_register_length w op r =
    let p = prefixes w (8 * wide w + number r / 8) in
    let a = prefixes_length w (8 * wide w + number r / 8) in
    let d = length-append p ((op + number r % 8) ∷ []) in
    omega arith

immediate_most : (w : Width) → bytes_of (immediate_of w) ≤ 4
immediate_most W8 = omega arith
immediate_most w = omega arith

modrm_most : (w : Width) (op : Opcode) (r : ℕ) (at : RegisterOrMemory)
    → length (modrm w op r at) ≤ 15
modrm_most w op r at = omega (arith, modrm_length w op r at)

-- with a number after it
modrm_more : (w : Width) (op : Opcode) (r : ℕ) (at : RegisterOrMemory) (n v : ℕ) → n ≤ 4
    → length (modrm w op r at ++ little n v) ≤ 15
modrm_more w op r at n v h = let a = length-append (modrm w op r at) (little n v) in
    let b = length-little n v in let c = modrm_length w op r at in omega arith

immediate_more : (w : Width) (op : Opcode) (r : ℕ) (at : RegisterOrMemory) (u : Width) (v : ℕ)
    → length (modrm w op r at ++ immediate_bytes u v) ≤ 15
immediate_more w op r at u v = modrm_more w op r at (bytes_of (immediate_of u))
    (low (immediate_of u) v) (immediate_most u)

register_more : (w : Width) (op : ℕ) (r : Reg) (n v : ℕ) → n ≤ 8
    → length (opcode_register w op r ++ little n v) ≤ 15
register_more w op r n v h = let a = length-append (opcode_register w op r) (little n v) in
    let b = length-little n v in let c = opcode_register_length w op r in omega arith

arithmetic_length : (o : Operation) (w : Width) (to : RegisterOrMemory) (v : ℕ)
    → length (arithmetic_bytes o w to v) ≤ 15
arithmetic_length o W8 to v = immediate_more W8 (opcodes.One 0x80) (opcode_extension o) to W8 v
arithmetic_length o W16 to v = shorter_by (is_signed W8 W16 v) _ _ 15
    (modrm_more W16 (opcodes.One 0x83) (opcode_extension o) to 1 (low W8 v) (omega arith))
    (immediate_more W16 (opcodes.One 0x81) (opcode_extension o) to W16 v)
arithmetic_length o W32 to v = shorter_by (is_signed W8 W32 v) _ _ 15
    (modrm_more W32 (opcodes.One 0x83) (opcode_extension o) to 1 (low W8 v) (omega arith))
    (immediate_more W32 (opcodes.One 0x81) (opcode_extension o) to W32 v)
arithmetic_length o W64 to v = shorter_by (is_signed W8 W64 v) _ _ 15
    (modrm_more W64 (opcodes.One 0x83) (opcode_extension o) to 1 (low W8 v) (omega arith))
    (immediate_more W64 (opcodes.One 0x81) (opcode_extension o) to W64 v)

move_length : (w : Width) (to : Reg) (v : ℕ) → length (move_bytes w to v) ≤ 15
move_length W8 to v = immediate_more W8 (opcodes.One 0xC6) 0 (places.Register to) W8 v
move_length W16 to v = register_more W16 0xB8 to 2 v (omega arith)
move_length W32 to v = register_more W32 0xB8 to 4 v (omega arith)
move_length W64 to v = register_more W64 0xB8 to 8 v (omega arith)

plain_length : (w : Width) (op : ℕ) → length (plain_bytes w op) ≤ 15
plain_length W8 op = omega arith
plain_length w op = omega arith

count_length : (w : Width) (d : ℕ) (to : RegisterOrMemory) (by : Count)
    → length (count_bytes w d to by) ≤ 15
count_length w d to (counts.Immediate n) = modrm_more w (opcodes.One 0xC1) d to 1 n (omega arith)
count_length w d to counts.Cl = modrm_most w (opcodes.One 0xD3) d to

displaced_length : (b c d : ℕ) → length (b ∷ c ∷ little 4 d) ≤ 15
displaced_length b c d = omega (arith, length-little 4 d)

pub longest : (i : Instr) → encoded_len i ≤ 15
longest (instrs.Move w to (operands.Register r)) = modrm_most w (opcodes.One (sized_opcode w 0x88))
    (number r) to
longest (instrs.Move w (places.Register r) (operands.Memory m)) = modrm_most w
    (opcodes.One (sized_opcode w 0x8A)) (number r) (places.Memory m)
longest (instrs.Move w (places.Register r) (operands.Immediate v)) = move_length w r v
longest (instrs.Move w (places.Memory n) (operands.Memory m)) = omega arith
longest (instrs.Move w (places.Memory n) (operands.Immediate v)) = immediate_more w
    (opcodes.One (sized_opcode w 0xC6)) 0 (places.Memory n) w v
longest (instrs.Extend e w to n from) = modrm_most (extend_width w n) (extend_opcode e n)
    (number to) from
longest (instrs.LoadAddress w to m) = modrm_most w (opcodes.One 0x8D) (number to) (places.Memory m)
longest (instrs.Arithmetic o w to (operands.Register r)) = modrm_most w
    (opcodes.One (sized_opcode w (8 * opcode_extension o))) (number r) to
longest (instrs.Arithmetic o w to (operands.Immediate v)) = arithmetic_length o w to v
longest (instrs.Arithmetic o w (places.Register r) (operands.Memory m)) = modrm_most w
    (opcodes.One (sized_opcode w (8 * opcode_extension o + 2))) (number r) (places.Memory m)
longest (instrs.Arithmetic o w (places.Memory n) (operands.Memory m)) = omega arith
longest (instrs.Test w at (operands.Register r)) = modrm_most w (opcodes.One (sized_opcode w 0x84))
    (number r) at
longest (instrs.Test w at (operands.Immediate v)) = immediate_more w
    (opcodes.One (sized_opcode w 0xF6)) 0 at w v
longest (instrs.Test w at (operands.Memory m)) = omega arith
longest (instrs.Multiply w to from) = modrm_most w (opcodes.Two 0xAF) (number to) from
longest (instrs.MultiplyBy w to from v) = shorter_by (is_signed W8 w v) _ _ 15
    (modrm_more w (opcodes.One 0x6B) (number to) from 1 (low W8 v) (omega arith))
    (immediate_more w (opcodes.One 0x69) (number to) from w v)
longest (instrs.Unary o w at) = modrm_most w (opcodes.One (sized_opcode w 0xF6))
    (unary_opcode_extension o) at
longest (instrs.Divide d w at) = modrm_most w (opcodes.One 0xF7) (division_opcode_extension d) at
longest (instrs.ExtendRax w) = plain_length w 0x99
longest (instrs.Shift d w to by) = count_length w (direction_opcode_extension d) to by
longest (instrs.Set c at) = modrm_most W8 (opcodes.Two (0x90 + condition_number c)) 0 at
longest (instrs.JumpIf c d) = displaced_length 0x0F (0x80 + condition_number c) (low W32 d)
longest (instrs.Jump (Relative d)) = omega (arith, length-little 4 (low W32 d))
longest (instrs.Jump (Indirect at)) = modrm_most W32 (opcodes.One 0xFF) 4 at
longest (instrs.Call (Relative d)) = omega (arith, length-little 4 (low W32 d))
longest (instrs.Call (Indirect at)) = modrm_most W32 (opcodes.One 0xFF) 2 at
longest (instrs.Push r) = omega (arith, opcode_register_length W32 0x50 r)
longest (instrs.Pop r) = omega (arith, opcode_register_length W32 0x58 r)
longest instrs.Return = omega arith
longest i = omega arith
