-- What the spellings that are only read are read as.
use Rattle.std.proofs.Common.{◌≡◌, ◌≢◌, ℕ, ◌+◌, ◌-◌, ◌*◌, ◌%◌, ◌<◌, Bool, true, false, true≢false, cond, eqb, List, [], ◌∷◌, ◌++◌, Some, refl, sym, ap, ◌∙◌, arith, inl, inr, append-nil}
use Rattle.std.proofs.lemmas.Bool.{cases_lt, lt-ltb, le-ltb, eq-eqb}
use Rattle.std.specs.Prelude.{◌&&◌}
use Rattle.x64_laws.specs.Words.{Width, W8, W64, limit, signed, wrapped, extended, RegisterOrMemory, Read, ◌>>=◌, number, given, operation, group_1, load, immediate_of, instr, after_size, after_prefixes, row, plain_row, two_byte_row, place}
use Rattle.x64_instr.specs.Reading as reading
use Rattle.x64_instr.specs.declared.operand.RegisterOrMemory.TheVariants as places
use Rattle.x64_instr.specs.declared.operand.Operand.TheVariants as operands
use Rattle.x64_instr.specs.declared.instruction.Operation.{Operation}
use Rattle.x64_instr.specs.declared.instruction.Operation.TheVariants as operations
use Rattle.x64_instr.specs.declared.instruction.Condition.{Condition}
use Rattle.x64_instr.specs.declared.instruction.Condition.TheVariants as conditions
use Rattle.x64_instr.specs.declared.instruction.Target.TheVariants.{Relative}
use Rattle.x64_instr.specs.declared.instruction.Instr.{Instr}
use Rattle.x64_instr.specs.declared.instruction.Instr.TheVariants as instrs
use Rattle.x64_encode.specs.declared.writing.Opcode.TheVariants as opcodes
use Rattle.x64_encode.specs.Chosen.{modrm, opcode_register, sized_opcode, opcode_extension, condition_number, immediate_bytes}
use Rattle.x64_encode.proofs.OpcodesAgain.{IsOpcode, r_rm_again, rm_digit_again, row_arithmetic_load, row_load, row_arithmetic_number, from_memory}
use Rattle.x64_encode.proofs.ArithmeticWritten.{is_arithmetic, is_8A, move_place, immediate_read}
use Rattle.x64_laws.specs.ReadOnly.{RowsOnlyRead, ArithmeticReadsRegisters, MovReadsRegisters, MovReadsImmediate, ArithmeticReadsImmediate, JmpReadsByte, JccReadsByte}
use Rattle.x64_laws.proofs.Lemmas.{signed_low, signed_high, low_is}

-- ---- registers where a place in memory might be

pub arithmetic_reads_registers : ArithmeticReadsRegisters
arithmetic_reads_registers o w to from =
    let bytes = modrm w (opcodes.One (sized_opcode w (8 * opcode_extension o + 2))) (number to)
    (places.Register from) in
    ap instr (sym (append-nil bytes))
    ∙ r_rm_again w (8 * opcode_extension o + 2) [] (is_arithmetic o 2 refl (omega arith))
    (from_memory o) to (places.Register from) refl (row_arithmetic_load o w)

pub mov_reads_registers : MovReadsRegisters
mov_reads_registers w to from =
    let bytes = modrm w (opcodes.One (sized_opcode w 0x8A)) (number to) (places.Register from) in
    ap instr (sym (append-nil bytes))
    ∙ r_rm_again w 0x8A [] is_8A load to (places.Register from) refl (row_load w)

pub mov_reads_immediate : MovReadsImmediate
mov_reads_immediate w to v fits =
    let bytes = modrm w (opcodes.One (sized_opcode w 0xC6)) 0 (places.Register to)
    ++ immediate_bytes w v in
    ap instr (sym (append-nil bytes)) ∙ move_place w (places.Register to) v [] refl fits

is_80 : IsOpcode 0x80
is_80 = record {
  even = refl;
  size = λ e. absurd (omega arith);
  rex = λ e. absurd (omega arith);
}

chosen_operation : (o : Operation) → operation (opcode_extension o) ≡ Some o
chosen_operation operations.Add = refl
chosen_operation o = refl

few : (o : Operation) → opcode_extension o < 8
few operations.Add = omega arith
few o = omega arith

abbrev with_number : Operation → Width → RegisterOrMemory → Read ℕ → Read Instr
with_number o w to n = n >>= λ v. Some (instrs.Arithmetic o w to (operands.Immediate v.0), v.1)

pub arithmetic_reads_immediate : ArithmeticReadsImmediate
arithmetic_reads_immediate o w to v ok fits =
    let first = modrm w (opcodes.One (sized_opcode w 0x80)) (opcode_extension o) to in
    let last = immediate_bytes w v in
    ap instr (ap (λ (bs : List ℕ). first ++ bs) (sym (append-nil last)))
    ∙ rm_digit_again w 0x80 (last ++ []) is_80 (λ p u. group_1 (immediate_of u) u)
    (opcode_extension o) to (few o) ok (row_arithmetic_number w)
    ∙ ap (λ x. given x (last ++ [])
    >>= λ y. with_number y.0 w to (reading.signed (immediate_of w) w y.1)) (chosen_operation o)
    ∙ ap (with_number o w to) (immediate_read w v [] fits)

-- ---- jumps by a byte

byte_extended : (b : ℕ) → b < 256 → extended W8 W64 (b + 256 * 0) ≡ wrapped W64 (signed W8 b)
byte_extended b lt =
    let plain : b + 256 * 0 ≡ b = omega arith in
    ap (extended W8 W64) plain ∙ elim (cases_lt b 128) [
      | inl l ↦
          ap (λ c. cond c b (b + (limit W64 - limit W8))) (lt-ltb b 128 l)
          ∙ sym (ap (wrapped W64) (signed_low W8 b l) ∙ low_is W64 b (omega arith))
      | inr g ↦
          let e : limit W64 - 1 - (limit W8 - 1 - b) % limit W64 ≡ b + (limit W64 - limit W8) =
          omega arith in
          ap (λ c. cond c b (b + (limit W64 - limit W8))) (le-ltb b 128 g)
          ∙ sym (ap (wrapped W64) (signed_high W8 b g lt) ∙ e)
    ]

head : List ℕ → ℕ
head [] = 0
head (b ∷ bytes) = b

pub jmp_reads_byte : JmpReadsByte
unfolding head instr after_size after_prefixes row plain_row
jmp_reads_byte b lt = record {
  is = ap (λ (d : ℕ). let r : Read Instr = Some (instrs.Jump (Relative d), []) in r)
      (byte_extended b lt);
  other = λ e. let f = ap head e in absurd (omega arith);
}

jcc_row : (c : Condition) (b : ℕ) → instr ((0x70 + condition_number c) ∷ b ∷ [])
    ≡ Some (instrs.JumpIf c (extended W8 W64 (b + 256 * 0)), [])
unfolding instr after_size after_prefixes row plain_row
jcc_row conditions.Overflow b = refl
jcc_row c b = refl

two_bytes : (c : Condition) → 0x0F ≢ 0x70 + condition_number c
two_bytes c e = absurd (omega arith)

pub jcc_reads_byte : JccReadsByte
unfolding head
jcc_reads_byte c b lt = record {
  is = jcc_row c b ∙ ap (λ (d : ℕ). let r : Read Instr = Some (instrs.JumpIf c d, []) in r)
      (byte_extended b lt);
  other = λ e. two_bytes c (ap head e);
}

-- ---- rows

is_same : List ℕ → List ℕ → Bool
is_same [] [] = true
is_same (x ∷ xs) (y ∷ ys) = eqb x y && is_same xs ys
is_same xs ys = false

same : (xs : List ℕ) → is_same xs xs ≡ true
unfolding is_same
same [] = refl
same (x ∷ xs) = ap (λ (b : Bool). b && is_same xs xs) (eq-eqb x x refl) ∙ same xs

differs : (xs ys : List ℕ) → is_same xs ys ≡ false → xs ≢ ys
differs xs ys other e = true≢false (sym (same xs) ∙ ap (is_same xs) e ∙ other)

pub rows_only_read : RowsOnlyRead
unfolding is_same instr after_size after_prefixes row plain_row two_byte_row place modrm
    opcode_register
rows_only_read = record {
  mod_00 = record { is = refl; other = differs _ _ refl };
  mod_00_sib = record { is = refl; other = differs _ _ refl };
  mod_10 = record { is = refl; other = differs _ _ refl };
  imul = record { is = refl; other = differs _ _ refl };
  rex = record { is = refl; other = differs _ _ refl };
  rex_w = record { is = refl; other = differs _ _ refl };
  byte = record { is = refl; other = differs _ _ refl };
  set = record { is = refl; other = differs _ _ refl };
  size = record { is = refl; other = differs _ _ refl };
}
