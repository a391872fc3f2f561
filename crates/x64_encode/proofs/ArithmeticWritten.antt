-- Moves and arithmetic, as they are written, are read again.
use Rattle.std.proofs.Common.{◌≡◌, ℕ, ◌+◌, ◌*◌, ◌/◌, ◌%◌, ◌^◌, ◌<◌, ◌≤◌, Bool, true, false, cond, List, ◌++◌, Some, refl, ap, ◌∙◌, append_assoc, arith, inl, inr}
use Rattle.std.proofs.lemmas.Bool.{ltb-true, lt-ltb, le-ltb, le-leb}
use Rattle.std.proofs.lemmas.Bool.Decides.{leb_tells}
use Rattle.std.specs.Prelude.{◌&&◌, ◌||◌, nat_lt, nat_le}
use Rattle.x64_encode.specs.Words.{Width, W8, W16, W32, W64, bytes_of, limit, low, Reg, RegisterOrMemory, Operation, Instr, Read, ◌>>=◌, number, signed, immediate_of, register_of_low_bits, rm_extension, given, operation, group_1, group_11, move_immediate, row, after_prefixes, instr, little, is_signed, wide, place_bytes, modrm_bits, modrm, opcode_register, sized_opcode, opcode_extension, immediate_bytes, arithmetic_bytes, move_bytes, is_place, is_immediate}
use Rattle.x64_instr.specs.declared.operand.RegisterOrMemory.TheVariants as places
use Rattle.x64_instr.specs.declared.operand.Operand.TheVariants as operands
use Rattle.x64_encode.specs.declared.writing.Opcode.TheVariants as opcodes
use Rattle.x64_instr.specs.declared.instruction.Operation.TheVariants as operations
use Rattle.x64_instr.specs.declared.instruction.Instr.TheVariants as instrs
use Rattle.x64_instr.specs.Registers as regs
use Rattle.x64_encode.proofs.Lemmas.{number_small}
use Rattle.x64_encode.proofs.Operands.{read_as, number_little, signed_little}
use Rattle.x64_encode.proofs.OpcodesAgain.{is_word, wide_small, width_read, modrm_prefixes, open_one, width_is, listed, rm_digit_read, IsOpcode, rm_r_again, rm_digit_again, register_prefixes, open_register, lowest_read, immediate_row, row_move_number, row_arithmetic_number, row_arithmetic}

-- ---- numbers after the operands

-- what is false can't be true
pub impossible : {A : Type 0} → false ≡ true → A
impossible e = absurd (cc)

bytes_limit : (w : Width) → 256 ^ bytes_of w ≡ limit w
bytes_limit W8 = refl
bytes_limit w = refl

pub limit_least : (w : Width) → limit W8 ≤ limit w
limit_least W8 = omega arith
limit_least w = omega arith

immediate_most : (w : Width) → limit (immediate_of w) ≤ limit w
immediate_most W8 = omega arith
immediate_most w = omega arith

pub immediate_read : (w : Width) (v : ℕ) (more : List ℕ) → is_immediate w v ≡ true
    → signed (immediate_of w) w (immediate_bytes w v ++ more) ≡ read_as v more
immediate_read w v more fits = signed_little (immediate_of w) w v more (immediate_most w) fits

-- a byte is an immediate of 8 bits
byte_is : (v : ℕ) → v < 256 → is_signed W8 W8 v ≡ true
byte_is v lt = elim (leb_tells 128 v) [
  | inl a ↦ let le = a.1 in ap (λ c. nat_lt v 128 || (c && nat_lt v 256)) (le-leb 128 v le)
      ∙ ap (λ c. nat_lt v 128 || c) (lt-ltb v 256 lt) ∙ ap (λ c. c || true) (le-ltb v 128 le)
  | inr b ↦ let less = b.1 in ap (λ c. c || (nat_le 128 v && nat_lt v 256)) (lt-ltb v 128 less)
]

operation-opcode_extension : (o : Operation) → operation (opcode_extension o) ≡ Some o
operation-opcode_extension operations.Add = refl
operation-opcode_extension o = refl

digit_small : (o : Operation) → opcode_extension o < 8
digit_small operations.Add = omega arith
digit_small o = omega arith

arithmetic_read : (o : Operation) (from w : Width) (to : RegisterOrMemory) (v : ℕ) (more : List ℕ)
    → limit from ≤ limit w → is_signed from w v ≡ true
    → group_1 from w (opcode_extension o) to (little (bytes_of from) (low from v) ++ more)
    ≡ Some (instrs.Arithmetic o w to (operands.Immediate v), more)
arithmetic_read o from w to v more le fits =
    let bytes = little (bytes_of from) (low from v) ++ more in
    ap (λ x. given x bytes >>= λ y. signed from w y.1
    >>= λ n. read_as (instrs.Arithmetic y.0 w to (operands.Immediate n.0)) n.1)
    (operation-opcode_extension o)
    ∙ ap (λ (x : Read ℕ). x >>= λ n. read_as (instrs.Arithmetic o w to (operands.Immediate n.0))
    n.1) (signed_little from w v more le fits)

is_80 : IsOpcode 0x80
is_80 = record { even = refl; size = λ e. absurd (omega arith); rex = λ e. absurd (omega arith) }

pub is_84 : IsOpcode 0x84
is_84 = record { even = refl; size = λ e. absurd (omega arith); rex = λ e. absurd (omega arith) }

pub is_88 : IsOpcode 0x88
is_88 = record { even = refl; size = λ e. absurd (omega arith); rex = λ e. absurd (omega arith) }

pub is_8A : IsOpcode 0x8A
is_8A = record { even = refl; size = λ e. absurd (omega arith); rex = λ e. absurd (omega arith) }

is_C6 : IsOpcode 0xC6
is_C6 = record { even = refl; size = λ e. absurd (omega arith); rex = λ e. absurd (omega arith) }

pub is_F6 : IsOpcode 0xF6
is_F6 = record { even = refl; size = λ e. absurd (omega arith); rex = λ e. absurd (omega arith) }

-- ---- moves

move_immediate_read : (w : Width) (r : Reg) (v : ℕ) (more : List ℕ) → is_word w ≡ true → v < limit w
    → move_immediate (register_prefixes w r) (0xB8 + regs.number r % 8)
    (little (bytes_of w) v ++ more) ≡ Some (
      instrs.Move w (places.Register r)
          (operands.Immediate v),
      more,
    )
move_immediate_read w r v more word fits =
    let b = number_small r in
    let is_w = width_read w (8 * wide w + regs.number r / 8) word
    (let a = wide_small w in omega arith) in
    let p = register_prefixes w r in
    let op = 0xB8 + regs.number r % 8 in
    let made = λ (v : Width) (x : Reg) (n : ℕ). instrs.Move v (places.Register x)
    (operands.Immediate n) in
    ap (λ u. number (bytes_of u) (little (bytes_of w) v ++ more)
    >>= λ x. read_as (made u (register_of_low_bits p op) x.0) x.1) is_w
    ∙ ap (λ (o : Read ℕ). o >>= λ x. read_as (made w (register_of_low_bits p op) x.0) x.1)
    (number_little (bytes_of w) v more (let e = bytes_limit w in omega arith))
    ∙ ap (λ x. read_as (made w x v) more) (lowest_read w 0xB8 r (omega arith))

move_word : (w : Width) (r : Reg) (v : ℕ) (more : List ℕ) → is_word w ≡ true
    → nat_lt v (limit w) ≡ true → instr ((opcode_register w 0xB8 r ++ little (bytes_of w) v)
    ++ more) ≡ Some (instrs.Move w (places.Register r) (operands.Immediate v), more)
move_word w r v more word fits =
    let bytes = little (bytes_of w) v in
    ap instr (append_assoc (opcode_register w 0xB8 r) bytes more)
    ∙ open_register w 0xB8 r (bytes ++ more) (λ e. absurd (omega arith)) (λ e. absurd (omega arith))
    ∙ immediate_row r (register_prefixes w r) (bytes ++ more)
    ∙ move_immediate_read w r v more word (ltb-true v (limit w) fits)

pub move_place : (w : Width) (to : RegisterOrMemory) (v : ℕ) (more : List ℕ) → is_place to ≡ true
    → is_immediate w v ≡ true → instr ((modrm w (opcodes.One (sized_opcode w 0xC6)) 0 to
    ++ immediate_bytes w v) ++ more) ≡ Some (instrs.Move w to (operands.Immediate v), more)
move_place w to v more ok fits =
    ap instr (append_assoc (modrm w (opcodes.One (sized_opcode w 0xC6)) 0 to) (immediate_bytes w v)
    more)
    ∙ rm_digit_again w 0xC6 (immediate_bytes w v ++ more) is_C6 (λ p. group_11) 0 to (omega arith)
    ok (row_move_number w)
    ∙ ap (λ (o : Read ℕ). o >>= λ n. read_as (instrs.Move w to (operands.Immediate n.0)) n.1)
    (immediate_read w v more fits)

pub again_move_number : (w : Width) (r : Reg) (v : ℕ) (more : List ℕ) → nat_lt v (limit w) ≡ true
    → instr (move_bytes w r v ++ more) ≡ Some
    (instrs.Move w (places.Register r) (operands.Immediate v), more)
again_move_number W8 r v more fits = move_place W8 (places.Register r) v more refl
    (byte_is v (ltb-true v 256 fits))
again_move_number W16 r v more fits = move_word W16 r v more refl fits
again_move_number W32 r v more fits = move_word W32 r v more refl fits
again_move_number W64 r v more fits = move_word W64 r v more refl fits

-- ---- arithmetic

arithmetic_byte : (o : Operation) (w : Width) (to : RegisterOrMemory) (v : ℕ) (more : List ℕ)
    → is_word w ≡ true → is_place to ≡ true → is_signed W8 w v ≡ true
    → instr ((modrm w (opcodes.One 0x83) (opcode_extension o) to ++ little 1 (low W8 v)) ++ more)
    ≡ Some (instrs.Arithmetic o w to (operands.Immediate v), more)
unfolding after_prefixes row
arithmetic_byte o w to v more word ok fits =
    let bytes = little 1 (low W8 v) in
    let d = digit_small o in
    let p = modrm_prefixes w (opcode_extension o) to in
    let lr : opcode_extension o < 16 = omega arith in
    let is_w = width_is w (opcode_extension o) to (bytes ++ more) lr word in
    ap instr (append_assoc (modrm w (opcodes.One 0x83) (opcode_extension o) to) bytes more)
    ∙ open_one w (opcode_extension o) to (bytes ++ more) lr 0x83 (λ e. absurd (omega arith))
    (λ e. absurd (omega arith))
    ∙ ap (λ u. rm_extension p u (group_1 W8 u)
    (place_bytes (opcode_extension o % 8) to ++ (bytes ++ more))) is_w
    ∙ rm_digit_read w w (opcode_extension o) to (bytes ++ more) (group_1 W8 w) d ok
    (listed w (modrm_bits w (opcode_extension o) to) to)
    ∙ arithmetic_read o W8 w to v more (limit_least w) fits

arithmetic_full : (o : Operation) (w : Width) (to : RegisterOrMemory) (v : ℕ) (more : List ℕ)
    → is_place to ≡ true → is_immediate w v ≡ true
    → instr ((modrm w (opcodes.One (sized_opcode w 0x80)) (opcode_extension o) to
    ++ immediate_bytes w v) ++ more) ≡ Some (instrs.Arithmetic o w to (operands.Immediate v), more)
arithmetic_full o w to v more ok fits =
    ap instr (append_assoc (modrm w (opcodes.One (sized_opcode w 0x80)) (opcode_extension o) to)
    (immediate_bytes w v) more)
    ∙ rm_digit_again w 0x80 (immediate_bytes w v ++ more) is_80 (λ p u. group_1 (immediate_of u) u)
    (opcode_extension o) to (digit_small o) ok (row_arithmetic_number w)
    ∙ arithmetic_read o (immediate_of w) w to v more (immediate_most w) fits

-- the short form where t holds
pub either : (t : Bool) (xs ys more : List ℕ) (i : Instr)
    → (t ≡ true → instr (xs ++ more) ≡ Some (i, more)) → instr (ys ++ more) ≡ Some (i, more)
    → instr (cond t xs ys ++ more) ≡ Some (i, more)
either true xs ys more i a b = a refl
either false xs ys more i a b = b

pub again_arithmetic_number : (o : Operation) (w : Width) (to : RegisterOrMemory) (v : ℕ)
    (more : List ℕ) → is_place to ≡ true → is_immediate w v ≡ true
    → instr (arithmetic_bytes o w to v ++ more)
    ≡ Some (instrs.Arithmetic o w to (operands.Immediate v), more)
again_arithmetic_number o W8 to v more ok fits = arithmetic_full o W8 to v more ok fits
again_arithmetic_number o W16 to v more ok fits = either (is_signed W8 W16 v) _ _ more _
    (arithmetic_byte o W16 to v more refl ok) (arithmetic_full o W16 to v more ok fits)
again_arithmetic_number o W32 to v more ok fits = either (is_signed W8 W32 v) _ _ more _
    (arithmetic_byte o W32 to v more refl ok) (arithmetic_full o W32 to v more ok fits)
again_arithmetic_number o W64 to v more ok fits = either (is_signed W8 W64 v) _ _ more _
    (arithmetic_byte o W64 to v more refl ok) (arithmetic_full o W64 to v more ok fits)

pub is_arithmetic : (o : Operation) (k : ℕ) → k % 2 ≡ 0 → k < 4
    → IsOpcode (8 * opcode_extension o + k)
is_arithmetic o k even lt = let d = digit_small o in
    record { even = omega arith; size = λ e. absurd (omega arith); rex = λ e. absurd (omega arith) }

is_arithmetic_first : (o : Operation) → IsOpcode (8 * opcode_extension o)
is_arithmetic_first o = let d = digit_small o in
    record { even = omega arith; size = λ e. absurd (omega arith); rex = λ e. absurd (omega arith) }

pub again_arithmetic : (o : Operation) (w : Width) (to : RegisterOrMemory) (r : Reg) (more : List ℕ)
    → is_place to ≡ true → instr (modrm w (opcodes.One (sized_opcode w (8 * opcode_extension o)))
    (regs.number r) to ++ more) ≡ Some (instrs.Arithmetic o w to (operands.Register r), more)
again_arithmetic o w to r more ok = rm_r_again w (8 * opcode_extension o) more
    (is_arithmetic_first o) (instrs.Arithmetic o) r to ok (row_arithmetic o w)
