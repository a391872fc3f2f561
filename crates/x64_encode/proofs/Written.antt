-- What is written is read again, whatever follows.
use Rattle.std.proofs.Common.{◌≡◌, ◌≢◌, ℕ, ◌+◌, ◌-◌, ◌*◌, ◌/◌, ◌%◌, ◌<◌, true, not, cond, eqb, List, [], ◌++◌, Option, Some, None, refl, sym, ap, ◌∙◌, append_assoc, arith, length, length-append, eq-eqb}
use Rattle.std.proofs.lemmas.Bool.{ne_eqb, and_parts, ltb-true}
use Rattle.std.proofs.lemmas.List.{append-nil}
use Rattle.std.specs.Prelude.{◌&&◌, ◌||◌, option_map}
use Rattle.x64_encode.specs.Words.{Width, W8, W16, W32, W64, low, Reg, RegisterOrMemory, Count, Condition, Relative, Indirect, Instr, Read, ◌>>=◌, byte, signed, bit, width_of, sized_narrow, immediate_of, is_listed, rm_and_register, r_rm, rm_extension, given, direction, group_2_immediate, group_2_cl, group_5, load, extend, address_to, plain_row, row, two_byte_row, after_prefixes, after_size, instr, IsEncoding, leading, little, is_signed, wide, has_rex, place_bytes, modrm_bits, modrm, sized_opcode, opcode_extension, division_opcode_extension, direction_opcode_extension, condition_number, extend_width, extend_opcode, immediate_bytes, count_bytes, chosen, encoded_len, is_place, is_wide, is_immediate, is_widened, is_count, is_encodable, IsEncodable}
use Rattle.x64_instr.specs.declared.operand.RegisterOrMemory.TheVariants as places
use Rattle.x64_instr.specs.declared.operand.Operand.TheVariants as operands
use Rattle.x64_encode.specs.declared.writing.Opcode.TheVariants as opcodes
use Rattle.x64_instr.specs.declared.instruction.Unary.TheVariants.{Not, Negate}
use Rattle.x64_instr.specs.declared.instruction.Extension.{Extension}
use Rattle.x64_instr.specs.declared.instruction.Extension.TheVariants.{Sign, Zero}
use Rattle.x64_instr.specs.declared.instruction.Division.{Division}
use Rattle.x64_instr.specs.declared.instruction.Division.TheVariants.{Unsigned, Signed}
use Rattle.x64_instr.specs.declared.instruction.Direction.{Direction}
use Rattle.x64_instr.specs.declared.instruction.Direction.TheVariants.{Left, Right, ArithmeticRight}
use Rattle.x64_instr.specs.declared.instruction.Count.TheVariants as counts
use Rattle.x64_instr.specs.declared.instruction.Instr.TheVariants as instrs
use Rattle.x64_instr.specs.Registers as regs
use Rattle.x64_encode.proofs.Lemmas.{number_small}
use Rattle.x64_encode.proofs.Operands.{read_as, signed_little, high_small}
use Rattle.x64_encode.proofs.OpcodesAgain.{is_word, read_prefixes, modrm_prefixes, open_one, open_two, width_is, bits_top, digit_read, operands_read, listed, r_rm_read, rm_digit_read, rm_r_again, r_rm_again, rm_digit_again, open_register, lowest_read, push_row, pop_row, row_move, row_load, row_test, third, row_third, from_memory, row_arithmetic_load, row_jump_if, row_set}
use Rattle.x64_encode.proofs.ArithmeticWritten.{impossible, limit_least, immediate_read, is_84, is_88, is_8A, is_F6, move_place, again_move_number, either, again_arithmetic_number, is_arithmetic, again_arithmetic}

-- ---- instructions of 32 and 64 bits

-- what follows an opcode without 66
module _ (w : Width) (op : ℕ) (more : List ℕ) (size : op ≢ 0x66) (rex : op / 16 ≢ 4)
    (word : is_word w ≡ true) where
  wide_digit_again : (made : Width → ℕ → RegisterOrMemory → List ℕ → Read Instr) (d : ℕ)
      (at : RegisterOrMemory) → d < 8 → is_place at ≡ true
      → ((bits : ℕ) (bytes : List ℕ) → after_prefixes (read_prefixes w bits) op bytes
      ≡ rm_extension (read_prefixes w bits) (width_of (read_prefixes w bits))
      (made (width_of (read_prefixes w bits))) bytes)
      → instr (modrm w (opcodes.One op) d at ++ more) ≡ made w d at more
  wide_digit_again made d at small ok is =
      let lr : d < 16 = omega arith in
      let p = modrm_prefixes w d at in
      let bytes = place_bytes (d % 8) at ++ more in
      open_one w d at more lr op size rex
      ∙ is (modrm_bits w d at) bytes
      ∙ ap (λ u. rm_extension p u (made u) bytes) (width_is w d at more lr word)
      ∙ rm_digit_read w w d at more (made w) small ok (listed w (modrm_bits w d at) at)

  -- both operands, then what is made of them
  wide_register_again : (made : Width → Reg → RegisterOrMemory → List ℕ → Read Instr) (r : Reg)
      (at : RegisterOrMemory) → is_place at ≡ true
      → ((bits : ℕ) (bytes : List ℕ) → after_prefixes (read_prefixes w bits) op bytes
      ≡ (rm_and_register (read_prefixes w bits) (width_of (read_prefixes w bits))
      (width_of (read_prefixes w bits)) bytes
      >>= λ x. made (width_of (read_prefixes w bits)) x.0.1 x.0.0 x.1))
      → instr (modrm w (opcodes.One op) (regs.number r) at ++ more) ≡ made w r at more
  wide_register_again made r at ok is =
      let n = regs.number r in
      let lr = number_small r in
      let p = modrm_prefixes w n at in
      let bits = modrm_bits w n at in
      let bytes = place_bytes (n % 8) at ++ more in
      open_one w n at more lr op size rex
      ∙ is bits bytes
      ∙ ap (λ u. rm_and_register p u u bytes >>= λ x. made u x.0.1 x.0.0 x.1)
      (width_is w n at more lr word)
      ∙ ap (λ (o : Read (RegisterOrMemory × Reg)). o >>= λ x. made w x.0.1 x.0.0 x.1)
      (operands_read w w w r at more ok (listed w bits at) (listed w bits (places.Register r)))

abbrev multiplied_by : Width → Width → Reg → RegisterOrMemory → List ℕ → Read Instr
multiplied_by from w to at bytes = signed from w bytes
    >>= λ v. read_as (instrs.MultiplyBy w to at v.0) v.1

multiply_byte : (w : Width) (to : Reg) (from : RegisterOrMemory) (v : ℕ) (more : List ℕ)
    → is_wide w ≡ true → is_place from ≡ true → is_signed W8 w v ≡ true
    → instr ((modrm w (opcodes.One 0x6B) (regs.number to) from ++ little 1 (low W8 v)) ++ more)
    ≡ Some (instrs.MultiplyBy w to from v, more)
unfolding after_prefixes row plain_row
multiply_byte W8 to from v more is ok fits = impossible is
multiply_byte W16 to from v more is ok fits = impossible is
multiply_byte W32 to from v more is ok fits =
    let bytes = little 1 (low W8 v) in
    ap instr (append_assoc (modrm W32 (opcodes.One 0x6B) (regs.number to) from) bytes more)
    ∙ wide_register_again W32 0x6B (bytes ++ more) (λ e. absurd (omega arith))
    (λ e. absurd (omega arith)) refl (multiplied_by W8) to from ok (λ b bs. refl)
    ∙ ap (λ (o : Read ℕ). o >>= λ n. read_as (instrs.MultiplyBy W32 to from n.0) n.1)
    (signed_little W8 W32 v more (limit_least W32) fits)
multiply_byte W64 to from v more is ok fits =
    let bytes = little 1 (low W8 v) in
    ap instr (append_assoc (modrm W64 (opcodes.One 0x6B) (regs.number to) from) bytes more)
    ∙ wide_register_again W64 0x6B (bytes ++ more) (λ e. absurd (omega arith))
    (λ e. absurd (omega arith)) refl (multiplied_by W8) to from ok (λ b bs. refl)
    ∙ ap (λ (o : Read ℕ). o >>= λ n. read_as (instrs.MultiplyBy W64 to from n.0) n.1)
    (signed_little W8 W64 v more (limit_least W64) fits)

multiply_full : (w : Width) (to : Reg) (from : RegisterOrMemory) (v : ℕ) (more : List ℕ)
    → is_wide w ≡ true → is_place from ≡ true → is_immediate w v ≡ true
    → instr ((modrm w (opcodes.One 0x69) (regs.number to) from ++ immediate_bytes w v) ++ more)
    ≡ Some (instrs.MultiplyBy w to from v, more)
unfolding after_prefixes row plain_row
multiply_full W8 to from v more is ok fits = impossible is
multiply_full W16 to from v more is ok fits = impossible is
multiply_full W32 to from v more is ok fits =
    let bytes = immediate_bytes W32 v in
    ap instr (append_assoc (modrm W32 (opcodes.One 0x69) (regs.number to) from) bytes more)
    ∙ wide_register_again W32 0x69 (bytes ++ more) (λ e. absurd (omega arith))
    (λ e. absurd (omega arith)) refl (λ u. multiplied_by (immediate_of u) u) to from ok
    (λ b bs. refl)
    ∙ ap (λ (o : Read ℕ). o >>= λ n. read_as (instrs.MultiplyBy W32 to from n.0) n.1)
    (immediate_read W32 v more fits)
multiply_full W64 to from v more is ok fits =
    let bytes = immediate_bytes W64 v in
    ap instr (append_assoc (modrm W64 (opcodes.One 0x69) (regs.number to) from) bytes more)
    ∙ wide_register_again W64 0x69 (bytes ++ more) (λ e. absurd (omega arith))
    (λ e. absurd (omega arith)) refl (λ u. multiplied_by (immediate_of u) u) to from ok
    (λ b bs. refl)
    ∙ ap (λ (o : Read ℕ). o >>= λ n. read_as (instrs.MultiplyBy W64 to from n.0) n.1)
    (immediate_read W64 v more fits)

again_multiply : (w : Width) (to : Reg) (from : RegisterOrMemory) (more : List ℕ) → is_wide w ≡ true
    → is_place from ≡ true → instr (modrm w (opcodes.Two 0xAF) (regs.number to) from ++ more)
    ≡ Some (instrs.Multiply w to from, more)
unfolding two_byte_row
again_multiply W8 to from more is ok = impossible is
again_multiply W16 to from more is ok = impossible is
again_multiply W32 to from more is ok =
    let p = modrm_prefixes W32 (regs.number to) from in
    open_two W32 (regs.number to) from more (number_small to) 0xAF
    ∙ ap (λ u. r_rm p u u (instrs.Multiply u) (place_bytes (regs.number to % 8) from ++ more))
    (width_is W32 (regs.number to) from more (number_small to) refl)
    ∙ r_rm_read W32 to from more (instrs.Multiply W32) ok
again_multiply W64 to from more is ok =
    let p = modrm_prefixes W64 (regs.number to) from in
    open_two W64 (regs.number to) from more (number_small to) 0xAF
    ∙ ap (λ u. r_rm p u u (instrs.Multiply u) (place_bytes (regs.number to % 8) from ++ more))
    (width_is W64 (regs.number to) from more (number_small to) refl)
    ∙ r_rm_read W64 to from more (instrs.Multiply W64) ok

again_load_address : (w : Width) (to : Reg) (from : RegisterOrMemory) (more : List ℕ)
    → is_wide w ≡ true → is_place from ≡ true
    → instr (modrm w (opcodes.One 0x8D) (regs.number to) from ++ more) ≡ address_to w to from more
unfolding after_prefixes row plain_row
again_load_address W8 to from more is ok = impossible is
again_load_address W16 to from more is ok = impossible is
again_load_address W32 to from more is ok = wide_register_again W32 0x8D more
    (λ e. absurd (omega arith)) (λ e. absurd (omega arith)) refl address_to to from ok
    (λ b bs. refl)
again_load_address W64 to from more is ok = wide_register_again W64 0x8D more
    (λ e. absurd (omega arith)) (λ e. absurd (omega arith)) refl address_to to from ok
    (λ b bs. refl)

-- ---- shifts and divisions

direction-opcode_extension : (d : Direction) → direction (direction_opcode_extension d) ≡ Some d
direction-opcode_extension Left = refl
direction-opcode_extension Right = refl
direction-opcode_extension ArithmeticRight = refl

direction_small : (d : Direction) → direction_opcode_extension d < 8
direction_small Left = omega arith
direction_small Right = omega arith
direction_small ArithmeticRight = omega arith

shifted_by : (d : Direction) (w : Width) (to : RegisterOrMemory) (n : ℕ) (more : List ℕ) → n < 256
    → group_2_immediate w (direction_opcode_extension d) to (little 1 n ++ more)
    ≡ Some (instrs.Shift d w to (counts.Immediate n), more)
shifted_by d w to n more lt =
    let same : n % 256 ≡ n = omega arith in
    ap (λ x. given x (little 1 n ++ more) >>= λ y. byte y.1
    >>= λ b. read_as (instrs.Shift y.0 w to (counts.Immediate b.0)) b.1)
    (direction-opcode_extension d)
    ∙ ap (λ b. read_as (instrs.Shift d w to (counts.Immediate b)) more) same

shift_number : (d : Direction) (w : Width) (to : RegisterOrMemory) (n : ℕ) (more : List ℕ)
    → is_wide w ≡ true → is_place to ≡ true → n < 256
    → instr ((modrm w (opcodes.One 0xC1) (direction_opcode_extension d) to ++ little 1 n) ++ more)
    ≡ Some (instrs.Shift d w to (counts.Immediate n), more)
unfolding after_prefixes row plain_row
shift_number d W8 to n more is ok lt = impossible is
shift_number d W16 to n more is ok lt = impossible is
shift_number d W32 to n more is ok lt =
    ap instr (append_assoc (modrm W32 (opcodes.One 0xC1) (direction_opcode_extension d) to)
    (little 1 n) more)
    ∙ wide_digit_again W32 0xC1 (little 1 n ++ more) (λ e. absurd (omega arith))
    (λ e. absurd (omega arith)) refl group_2_immediate (direction_opcode_extension d) to
    (direction_small d) ok (λ b bs. refl)
    ∙ shifted_by d W32 to n more lt
shift_number d W64 to n more is ok lt =
    ap instr (append_assoc (modrm W64 (opcodes.One 0xC1) (direction_opcode_extension d) to)
    (little 1 n) more)
    ∙ wide_digit_again W64 0xC1 (little 1 n ++ more) (λ e. absurd (omega arith))
    (λ e. absurd (omega arith)) refl group_2_immediate (direction_opcode_extension d) to
    (direction_small d) ok (λ b bs. refl)
    ∙ shifted_by d W64 to n more lt

shift_cl : (d : Direction) (w : Width) (to : RegisterOrMemory) (more : List ℕ) → is_wide w ≡ true
    → is_place to ≡ true → instr (modrm w (opcodes.One 0xD3) (direction_opcode_extension d) to
    ++ more) ≡ Some (instrs.Shift d w to counts.Cl, more)
unfolding after_prefixes row plain_row
shift_cl d W8 to more is ok = impossible is
shift_cl d W16 to more is ok = impossible is
shift_cl d W32 to more is ok =
    wide_digit_again W32 0xD3 more (λ e. absurd (omega arith)) (λ e. absurd (omega arith)) refl
    group_2_cl (direction_opcode_extension d) to (direction_small d) ok (λ b bs. refl)
    ∙ ap (λ x. given x more >>= λ y. read_as (instrs.Shift y.0 W32 to counts.Cl) y.1)
    (direction-opcode_extension d)
shift_cl d W64 to more is ok =
    wide_digit_again W64 0xD3 more (λ e. absurd (omega arith)) (λ e. absurd (omega arith)) refl
    group_2_cl (direction_opcode_extension d) to (direction_small d) ok (λ b bs. refl)
    ∙ ap (λ x. given x more >>= λ y. read_as (instrs.Shift y.0 W64 to counts.Cl) y.1)
    (direction-opcode_extension d)

again_shift : (d : Direction) (w : Width) (to : RegisterOrMemory) (by : Count) (more : List ℕ)
    → is_wide w ≡ true → is_place to ≡ true → is_count by ≡ true
    → instr (count_bytes w (direction_opcode_extension d) to by ++ more)
    ≡ Some (instrs.Shift d w to by, more)
again_shift d w to (counts.Immediate n) more is ok fits = shift_number d w to n more is ok
    (ltb-true n 256 fits)
again_shift d w to counts.Cl more is ok fits = shift_cl d w to more is ok

divided : (w : Width) (d : ℕ) (at : RegisterOrMemory) (more : List ℕ) → d < 8 → is_place at ≡ true
    → instr (modrm w (opcodes.One (sized_opcode w 0xF6)) d at ++ more)
    ≡ third w (modrm_prefixes w d at) w d at more
divided w d at more small ok = rm_digit_again w 0xF6 more is_F6 (third w) d at small ok
    (row_third w)

again_divide : (d : Division) (w : Width) (at : RegisterOrMemory) (more : List ℕ) → is_wide w ≡ true
    → is_place at ≡ true → instr (modrm w (opcodes.One 0xF7) (division_opcode_extension d) at
    ++ more) ≡ Some (instrs.Divide d w at, more)
again_divide d W8 at more is ok = impossible is
again_divide d W16 at more is ok = impossible is
again_divide Unsigned W32 at more is ok = divided W32 6 at more (omega arith) ok
again_divide Signed W32 at more is ok = divided W32 7 at more (omega arith) ok
again_divide Unsigned W64 at more is ok = divided W64 6 at more (omega arith) ok
again_divide Signed W64 at more is ok = divided W64 7 at more (omega arith) ok

again_test_number : (w : Width) (at : RegisterOrMemory) (v : ℕ) (more : List ℕ) → is_place at ≡ true
    → is_immediate w v ≡ true → instr ((modrm w (opcodes.One (sized_opcode w 0xF6)) 0 at
    ++ immediate_bytes w v) ++ more) ≡ Some (instrs.Test w at (operands.Immediate v), more)
again_test_number w at v more ok fits =
    ap instr (append_assoc (modrm w (opcodes.One (sized_opcode w 0xF6)) 0 at) (immediate_bytes w v)
    more)
    ∙ divided w 0 at (immediate_bytes w v ++ more) (omega arith) ok
    ∙ ap (λ (o : Read ℕ). o >>= λ n. read_as (instrs.Test w at (operands.Immediate n.0)) n.1)
    (immediate_read w v more fits)

-- ---- extensions

-- q is the width of the prefixes
extended_again : (e : Extension) (q w n : Width) (to : Reg) (from : RegisterOrMemory)
    (more : List ℕ) (op : ℕ) → is_place from ≡ true
    → ((bits : ℕ) (bytes : List ℕ) → two_byte_row (read_prefixes q bits) op bytes
    ≡ extend e (read_prefixes q bits) op bytes)
    → sized_narrow op ≡ n
    → width_of (modrm_prefixes q (regs.number to) from) ≡ w
    → is_listed (modrm_prefixes q (regs.number to) from) n from ≡ true
    → is_listed (modrm_prefixes q (regs.number to) from) w (places.Register to) ≡ true
    → instr (modrm q (opcodes.Two op) (regs.number to) from ++ more)
    ≡ Some (instrs.Extend e w to n from, more)
extended_again e q w n to from more op ok is narrow width a b =
    let p = modrm_prefixes q (regs.number to) from in
    let bytes = place_bytes (regs.number to % 8) from ++ more in
    open_two q (regs.number to) from more (number_small to) op
    ∙ is (modrm_bits q (regs.number to) from) bytes
    ∙ ap (λ k. r_rm p (width_of p) k (λ t f. instrs.Extend e (width_of p) t k f) bytes) narrow
    ∙ ap (λ u. r_rm p u n (λ t f. instrs.Extend e u t n f) bytes) width
    ∙ ap (λ (o : Read (RegisterOrMemory × Reg)). o
    >>= λ x. read_as (instrs.Extend e w x.0.1 n x.0.0) x.1)
    (operands_read q n w to from more ok a b)

byte_width : (bits : ℕ) → bits / 8 ≡ 0 → width_of (read_prefixes W8 bits) ≡ W32
byte_width bits e = ap (λ c. cond c W64 W32) (ne_eqb (bit 3 bits) 1 (λ h. absurd (omega arith)))

-- REX.W is REX
rex_wide : (bits : ℕ) → bits / 8 ≡ 1 → (at : RegisterOrMemory)
    → is_listed (read_prefixes W64 bits) W8 at ≡ true
rex_wide bits e (places.Register r) = ap (λ c. not c || not (eqb (regs.number r / 4) 1))
    (ne_eqb bits 0 (λ h. absurd (omega arith)))
rex_wide bits e (places.Memory m) = refl

again_extend : (e : Extension) (w n : Width) (to : Reg) (from : RegisterOrMemory) (more : List ℕ)
    → is_widened e w n ≡ true → is_place from ≡ true
    → instr (modrm (extend_width w n) (extend_opcode e n) (regs.number to) from ++ more)
    ≡ Some (instrs.Extend e w to n from, more)
unfolding after_prefixes row plain_row two_byte_row
again_extend Zero W32 W8 to from more is ok = extended_again Zero W8 W32 W8 to from more 0xB6 ok
    (λ b bs. refl) refl (byte_width (modrm_bits W8 (regs.number to) from)
    (bits_top W8 (regs.number to) from more (number_small to)))
    (listed W8 (modrm_bits W8 (regs.number to) from) from) refl
again_extend Zero W64 W8 to from more is ok = extended_again Zero W64 W64 W8 to from more 0xB6 ok
    (λ b bs. refl) refl (width_is W64 (regs.number to) from more (number_small to) refl)
    (rex_wide (modrm_bits W64 (regs.number to) from)
    (bits_top W64 (regs.number to) from more (number_small to)) from) refl
again_extend Zero W32 W16 to from more is ok = extended_again Zero W32 W32 W16 to from more 0xB7 ok
    (λ b bs. refl) refl (width_is W32 (regs.number to) from more (number_small to) refl) refl refl
again_extend Zero W64 W16 to from more is ok = extended_again Zero W64 W64 W16 to from more 0xB7 ok
    (λ b bs. refl) refl (width_is W64 (regs.number to) from more (number_small to) refl) refl refl
again_extend Sign W32 W8 to from more is ok = extended_again Sign W8 W32 W8 to from more 0xBE ok
    (λ b bs. refl) refl (byte_width (modrm_bits W8 (regs.number to) from)
    (bits_top W8 (regs.number to) from more (number_small to)))
    (listed W8 (modrm_bits W8 (regs.number to) from) from) refl
again_extend Sign W64 W8 to from more is ok = extended_again Sign W64 W64 W8 to from more 0xBE ok
    (λ b bs. refl) refl (width_is W64 (regs.number to) from more (number_small to) refl)
    (rex_wide (modrm_bits W64 (regs.number to) from)
    (bits_top W64 (regs.number to) from more (number_small to)) from) refl
again_extend Sign W32 W16 to from more is ok = extended_again Sign W32 W32 W16 to from more 0xBF ok
    (λ b bs. refl) refl (width_is W32 (regs.number to) from more (number_small to) refl) refl refl
again_extend Sign W64 W16 to from more is ok = extended_again Sign W64 W64 W16 to from more 0xBF ok
    (λ b bs. refl) refl (width_is W64 (regs.number to) from more (number_small to) refl) refl refl
again_extend Sign W64 W32 to from more is ok =
    let n = number_small to in
    let p = modrm_prefixes W64 (regs.number to) from in
    let bytes = place_bytes (regs.number to % 8) from ++ more in
    open_one W64 (regs.number to) from more n 0x63 (λ e. absurd (omega arith))
    (λ e. absurd (omega arith))
    ∙ ap (λ c. cond c (r_rm p W64 W32 (λ t f. instrs.Extend Sign W64 t W32 f) bytes) None)
    (eq-eqb (bit 3 (modrm_bits W64 (regs.number to) from)) 1
    (let h = high_small from in omega arith))
    ∙ ap (λ (o : Read (RegisterOrMemory × Reg)). o
    >>= λ x. read_as (instrs.Extend Sign W64 x.0.1 W32 x.0.0) x.1)
    (operands_read W64 W32 W64 to from more ok refl refl)
again_extend e w W8 to from more is ok = impossible is
again_extend e w W16 to from more is ok = impossible is
again_extend e w W32 to from more is ok = impossible is
again_extend e w W64 to from more is ok = impossible is

-- ---- jumps

relative : (made : ℕ → Instr) (d : ℕ) (more : List ℕ) → is_signed W32 W64 d ≡ true
    → (signed W32 W64 (little 4 (low W32 d) ++ more) >>= λ x. read_as (made x.0) x.1)
    ≡ Some (made d, more)
relative made d more fits = ap (λ (o : Read ℕ). o >>= λ x. read_as (made x.0) x.1)
    (signed_little W32 W64 d more (omega arith) fits)

again_set : (c : Condition) (at : RegisterOrMemory) (more : List ℕ) → is_place at ≡ true
    → instr (modrm W8 (opcodes.Two (0x90 + condition_number c)) 0 at ++ more)
    ≡ Some (instrs.Set c at, more)
again_set c at more ok =
    open_two W8 0 at more (omega arith) (0x90 + condition_number c)
    ∙ row_set c (modrm_bits W8 0 at) (place_bytes 0 at ++ more)
    ∙ ap (λ (o : Read (RegisterOrMemory × ℕ)). o >>= λ x. read_as (instrs.Set c x.0.0) x.1)
    (digit_read W8 0 at more (omega arith) W8 (listed W8 (modrm_bits W8 0 at) at) ok
    (omega arith))

again_indirect : (d : ℕ) (at : RegisterOrMemory) (more : List ℕ) → d < 8 → is_place at ≡ true
    → instr (modrm W32 (opcodes.One 0xFF) d at ++ more) ≡ group_5 d at more
unfolding after_prefixes row plain_row
again_indirect d at more small ok =
    let lr : d < 16 = omega arith in
    open_one W32 d at more lr 0xFF (λ e. absurd (omega arith)) (λ e. absurd (omega arith))
    ∙ rm_digit_read W32 W64 d at more group_5 small ok refl

again_extend_rax : (w : Width) (more : List ℕ) → is_wide w ≡ true
    → instr (chosen (instrs.ExtendRax w) ++ more) ≡ Some (instrs.ExtendRax w, more)
unfolding instr after_size after_prefixes row plain_row
again_extend_rax W8 more is = impossible is
again_extend_rax W16 more is = impossible is
again_extend_rax W32 more is = refl
again_extend_rax W64 more is = refl

-- ---- instructions

pub again : (i : Instr) (more : List ℕ) → is_encodable i ≡ true
    → instr (chosen i ++ more) ≡ Some (i, more)
unfolding instr after_size after_prefixes row plain_row two_byte_row
again (instrs.Move w to (operands.Register r)) more ok = rm_r_again w 0x88 more is_88 instrs.Move r
    to ok (row_move w)
again (instrs.Move w (places.Register r) (operands.Memory m)) more ok = r_rm_again w 0x8A more is_8A
    load r (places.Memory m) ok (row_load w)
again (instrs.Move w (places.Register r) (operands.Immediate v)) more ok = again_move_number w r v
    more ok
again (instrs.Move w (places.Memory m) (operands.Memory n)) more ok = impossible ok
again (instrs.Move w (places.Memory m) (operands.Immediate v)) more ok = let parts = and_parts
    (is_place (places.Memory m)) (is_immediate w v) ok in
    move_place w (places.Memory m) v more parts.0 parts.1
again (instrs.Extend e w to n from) more ok = let parts = and_parts (is_widened e w n)
    (is_place from) ok in again_extend e w n to from more parts.0 parts.1
again (instrs.LoadAddress w to m) more ok = let parts = and_parts (is_wide w)
    (is_place (places.Memory m)) ok in again_load_address w to (places.Memory m) more parts.0
    parts.1
again (instrs.Arithmetic o w to (operands.Register r)) more ok = again_arithmetic o w to r more ok
again (instrs.Arithmetic o w to (operands.Immediate v)) more ok = let parts = and_parts
    (is_place to) (is_immediate w v) ok in again_arithmetic_number o w to v more parts.0 parts.1
again (instrs.Arithmetic o w (places.Register r) (operands.Memory m)) more ok = r_rm_again w
    (8 * opcode_extension o + 2) more (is_arithmetic o 2 refl (omega arith)) (from_memory o) r
    (places.Memory m) ok (row_arithmetic_load o w)
again (instrs.Arithmetic o w (places.Memory n) (operands.Memory m)) more ok = impossible ok
again (instrs.Test w at (operands.Register r)) more ok = rm_r_again w 0x84 more is_84 instrs.Test r
    at ok (row_test w)
again (instrs.Test w at (operands.Immediate v)) more ok = let parts = and_parts (is_place at)
    (is_immediate w v) ok in again_test_number w at v more parts.0 parts.1
again (instrs.Test w at (operands.Memory m)) more ok = impossible ok
again (instrs.Multiply w to from) more ok = let parts = and_parts (is_wide w) (is_place from) ok in
    again_multiply w to from more parts.0 parts.1
again (instrs.MultiplyBy w to from v) more ok =
    let parts = and_parts (is_wide w) (is_place from && is_immediate w v) ok in
    let others = and_parts (is_place from) (is_immediate w v) parts.1 in
    either (is_signed W8 w v) _ _ more _ (multiply_byte w to from v more parts.0 others.0)
    (multiply_full w to from v more parts.0 others.0 others.1)
again (instrs.Unary Not w at) more ok = divided w 2 at more (omega arith) ok
again (instrs.Unary Negate w at) more ok = divided w 3 at more (omega arith) ok
again (instrs.Divide d w at) more ok = let parts = and_parts (is_wide w) (is_place at) ok in
    again_divide d w at more parts.0 parts.1
again (instrs.ExtendRax w) more ok = again_extend_rax w more ok
again (instrs.Shift d w to by) more ok =
    let parts = and_parts (is_wide w) (is_place to && is_count by) ok in
    let others = and_parts (is_place to) (is_count by) parts.1 in
    again_shift d w to by more parts.0 others.0 others.1
again (instrs.Set c at) more ok = again_set c at more ok
again (instrs.JumpIf c d) more ok = row_jump_if c (little 4 (low W32 d) ++ more)
    ∙ relative (instrs.JumpIf c) d more ok
again (instrs.Jump (Relative d)) more ok = relative (λ x. instrs.Jump (Relative x)) d more ok
again (instrs.Jump (Indirect at)) more ok = again_indirect 4 at more (omega arith) ok
again (instrs.Call (Relative d)) more ok = relative (λ x. instrs.Call (Relative x)) d more ok
again (instrs.Call (Indirect at)) more ok = again_indirect 2 at more (omega arith) ok
again (instrs.Push r) more ok =
    open_register W32 0x50 r more (λ e. absurd (omega arith)) (λ e. absurd (omega arith))
    ∙ push_row r (has_rex W32 (8 * wide W32 + regs.number r / 8)) (8 * wide W32 + regs.number r / 8)
    more
    ∙ ap (λ x. read_as (instrs.Push x) more) (lowest_read W32 0x50 r (omega arith))
again (instrs.Pop r) more ok =
    open_register W32 0x58 r more (λ e. absurd (omega arith)) (λ e. absurd (omega arith))
    ∙ pop_row r (has_rex W32 (8 * wide W32 + regs.number r / 8)) (8 * wide W32 + regs.number r / 8)
    more
    ∙ ap (λ x. read_as (instrs.Pop x) more) (lowest_read W32 0x58 r (omega arith))
again instrs.Return more ok = refl
again i more ok = refl

-- ---- both laws

pub spells : (i : Instr) → IsEncodable i → IsEncoding i (chosen i)
spells i ok = ap instr (sym (append-nil (chosen i))) ∙ again i [] ok

pub read_again : (i : Instr) (more : List ℕ) → IsEncodable i
    → leading (chosen i ++ more) ≡ Some (i, encoded_len i)
read_again i more ok =
    let all = chosen i ++ more in
    let k : length all - length more ≡ length (chosen i) = omega
    (arith, length-append (chosen i) more) in
    ap (option_map (λ (x : Instr × List ℕ). let y : Instr × ℕ = (x.0, length all - length x.1) in
    y)) (again i more ok) ∙ ap (λ n. let y : Option (Instr × ℕ) = Some (i, n) in y) k
