-- Prefixes, opcodes and the operands after them, as they are written, are read again.
use Rattle.std.proofs.Common.{◌≡◌, ◌≢◌, ℕ, ◌+◌, ◌*◌, ◌/◌, ◌%◌, ◌<◌, Bool, true, false, not, cond, eqb, List, [], ◌∷◌, ◌++◌, Some, None, refl, sym, ap, ◌∙◌, append_assoc, arith, eq-eqb}
use Rattle.std.proofs.lemmas.Bool.{ne_eqb, eqb-true, not-false}
use Rattle.std.specs.Prelude.{◌&&◌}
use Rattle.x64_encode.specs.Words.{Width, W8, W16, W32, W64, Reg, RegisterOrMemory, Prefixes, Operation, Condition, Instr, Read, ◌>>=◌, byte, signed, bit, width_of, sized, immediate_of, register_of_reg_field, register_of_low_bits, modrm_with_register, is_listed, rm_and_register, rm_and_opcode_extension, source, rm_r, r_rm, rm_extension, group_1, group_11, group_3, load, move_immediate, plain_row, row, two_byte_row, after_prefixes, after_size, instr, wide, has_rex, prefixes, high_bits, place_bytes, modrm_bits, modrm, opcode_register, sized_opcode, opcode_extension, condition_number, is_place}
use Rattle.x64_instr.specs.declared.register.Reg.TheVariants.{Rax}
use Rattle.x64_instr.specs.declared.operand.RegisterOrMemory.TheVariants as places
use Rattle.x64_instr.specs.declared.operand.Operand.{Operand}
use Rattle.x64_instr.specs.declared.operand.Operand.TheVariants as operands
use Rattle.x64_encode.specs.declared.writing.Opcode.TheVariants as opcodes
use Rattle.x64_instr.specs.declared.instruction.Operation.TheVariants as operations
use Rattle.x64_instr.specs.declared.instruction.Condition.TheVariants as conditions
use Rattle.x64_instr.specs.declared.instruction.Instr.TheVariants as instrs
use Rattle.x64_instr.specs.Registers as regs
use Rattle.x64_encode.proofs.Lemmas.{number_small}
use Rattle.x64_encode.proofs.Operands.{read_as, joined, High, IsRead, read_place, high_small}

-- ---- prefixes

-- not a byte
abbrev pub is_word : Width → Bool
is_word W8 = false
is_word w = true

abbrev is_short : Width → Bool
is_short W16 = true
is_short w = false

abbrev pub read_prefixes : Width → ℕ → Prefixes
read_prefixes w bits = record { operand_size = is_short w; has_rex = has_rex w bits; rex = bits }

-- what comes after 66, or where there is none
abbrev opened : Bool → List ℕ → Read Instr
opened size bytes = byte bytes >>= λ b. after_size size b.0 b.1

-- REX, or nothing
abbrev rex_by : Bool → ℕ → List ℕ
rex_by t bits = cond t ((0x40 + bits) ∷ []) []

module _ (op : ℕ) (more : List ℕ) (other : op / 16 ≢ 4) where
  after_rex : (size : Bool) (bits : ℕ) → bits < 16
      → opened size ((0x40 + bits) ∷ op ∷ more) ≡ after_prefixes (record {
        operand_size = size;
        has_rex = true;
        rex = bits;
      }) op more
  unfolding after_size
  after_rex size bits lt =
      let four : (0x40 + bits) / 16 ≡ 4 = omega arith in
      let lowest_bits : (0x40 + bits) % 16 ≡ bits = omega arith in
      ap (λ c. cond c (after_prefixes (record {
        operand_size = size;
        has_rex = true;
        rex =
            (0x40 + bits) % 16;
      }) op more) (after_prefixes (record {
        operand_size = size;
        has_rex =
            false;
        rex = 0;
      }) (0x40 + bits) (op ∷ more))) (eq-eqb _ _ four)
      ∙ ap (λ k. after_prefixes (record { operand_size = size; has_rex = true; rex = k }) op more)
      lowest_bits

  no_rex : (size : Bool) (bits : ℕ) → bits ≡ 0
      → opened size (op ∷ more) ≡ after_prefixes (record {
        operand_size = size;
        has_rex = false;
        rex = bits;
      }) op more
  unfolding after_size
  no_rex size bits e = rw (ne_eqb _ _ other) (ap
      (λ k. after_prefixes (record { operand_size = size; has_rex = false; rex = k }) op more)
      (sym e))

  maybe_rex : (size t : Bool) (bits : ℕ) → bits < 16 → (t ≡ false → bits ≡ 0)
      → opened size (rex_by t bits ++ op ∷ more) ≡ after_prefixes (record {
        operand_size = size;
        has_rex = t;
        rex = bits;
      }) op more
  maybe_rex size true bits lt e = after_rex size bits lt
  maybe_rex size false bits lt e = no_rex size bits (e refl)

  -- no 66
  no_size : (t : Bool) (bits : ℕ) → bits < 16 → op ≢ 0x66
      → instr (rex_by t bits ++ op ∷ more) ≡ opened false (rex_by t bits ++ op ∷ more)
  unfolding instr
  no_size true bits lt n = rw (ne_eqb (0x40 + bits) 0x66 (λ e. absurd (omega arith))) refl
  no_size false bits lt n = rw (ne_eqb op 0x66 n) refl

none_where_zero : (bits : ℕ) → not (eqb bits 0) ≡ false → bits ≡ 0
none_where_zero bits e = eqb-true bits 0 (not-false (eqb bits 0) e)

front : (w : Width) (bits op : ℕ) (more : List ℕ) → bits < 16 → op ≢ 0x66 → op / 16 ≢ 4
    → instr (prefixes w bits ++ op ∷ more) ≡ after_prefixes (read_prefixes w bits) op more
unfolding instr
front W8 bits op more lt n other = no_size op more other true bits lt n
    ∙ after_rex op more other false bits lt
front W16 bits op more lt n other = maybe_rex op more other true (has_rex W16 bits) bits lt
    (none_where_zero bits)
front W32 bits op more lt n other = no_size op more other (has_rex W32 bits) bits lt n
    ∙ maybe_rex op more other false (has_rex W32 bits) bits lt (none_where_zero bits)
front W64 bits op more lt n other = no_size op more other (has_rex W64 bits) bits lt n
    ∙ maybe_rex op more other false (has_rex W64 bits) bits lt (none_where_zero bits)

pub wide_small : (w : Width) → wide w < 2
wide_small W8 = omega arith
wide_small w = omega arith

-- the width that the prefixes say
pub width_read : (w : Width) (bits : ℕ) → is_word w ≡ true → bits / 8 ≡ wide w
    → width_of (read_prefixes w bits) ≡ w
width_read W8 bits word e = absurd (cc)
width_read W16 bits word e = rw (ne_eqb (bit 3 bits) 1 (λ h. absurd (omega arith))) refl
width_read W32 bits word e = rw (ne_eqb (bit 3 bits) 1 (λ h. absurd (omega arith))) refl
width_read W64 bits word e = rw (eq-eqb (bit 3 bits) 1 (omega arith)) refl

-- ---- an opcode with ModRM

abbrev pub modrm_prefixes : Width → ℕ → RegisterOrMemory → Prefixes
modrm_prefixes w r at = read_prefixes w (modrm_bits w r at)

module _ (w : Width) (r : ℕ) (at : RegisterOrMemory) (more : List ℕ) (lr : r < 16) where
  abbrev pre : Prefixes
  pre = modrm_prefixes w r at

  abbrev operand_bytes : List ℕ
  operand_bytes = place_bytes (r % 8) at ++ more

  pub bits_small : modrm_bits w r at < 16
  bits_small = let a = wide_small w in let b = high_small at in omega arith

  pub open_one : (op : ℕ) → op ≢ 0x66 → op / 16 ≢ 4
      → instr (modrm w (opcodes.One op) r at ++ more) ≡ after_prefixes pre op operand_bytes
  unfolding modrm
  open_one op n other =
      ap instr (append_assoc (prefixes w (modrm_bits w r at) ++ op
      ∷ []) (place_bytes (r % 8) at) more ∙ append_assoc (prefixes w (modrm_bits w r at)) (op
      ∷ []) operand_bytes)
      ∙ front w (modrm_bits w r at) op operand_bytes bits_small n other

  pub open_two : (op : ℕ) → instr (modrm w (opcodes.Two op) r at
      ++ more) ≡ two_byte_row pre op operand_bytes
  unfolding modrm after_prefixes
  open_two op =
      ap instr (append_assoc (prefixes w (modrm_bits w r at) ++ 0x0F ∷ op
      ∷ []) (place_bytes (r % 8) at) more ∙ append_assoc (prefixes w (modrm_bits w r at)) (0x0F
      ∷ op ∷ []) operand_bytes)
      ∙ front w (modrm_bits w r at) 0x0F (op ∷ operand_bytes) bits_small (λ e. absurd (omega arith))
      (λ e. absurd (omega arith))

  high : High pre (high_bits at)
  high = let a = wide_small w in let b = high_small at in
      record { b = omega arith; x = omega arith }

  is_read : is_place at ≡ true → IsRead pre (r % 8) at operand_bytes more
  is_read ok = read_place pre (r % 8) at more (omega arith) ok high

  pub width_is : is_word w ≡ true → width_of pre ≡ w
  width_is word = width_read w (modrm_bits w r at) word (let a = wide_small w in let b =
      high_small at in omega arith)

  pub bits_top : modrm_bits w r at / 8 ≡ wide w
  bits_top = let a = wide_small w in let b = high_small at in omega arith

  pub digit_read : (v : Width) → is_listed pre v at ≡ true → is_place at ≡ true → r < 8
      → rm_and_opcode_extension pre v operand_bytes ≡ Some ((at, r), more)
  digit_read v listed ok small =
      let i = is_read ok in
      let same : i.modrm / 8 % 8 ≡ r = omega (arith, i.opcode_extension) in
      ap (rm_and_opcode_extension pre v) i.whole
      ∙ ap (λ (o : Read RegisterOrMemory). (o >>= λ x. read_as (x.0, i.modrm / 8 % 8) x.1) >>= λ x.
      cond (is_listed pre v x.0.0) (Some x) None) i.gives
      ∙ ap (λ c. cond c (read_as (at, i.modrm / 8 % 8) more) None) listed
      ∙ ap (λ k. read_as (at, k) more) same

register_read : (w : Width) (r : Reg) (at : RegisterOrMemory) (more : List ℕ) → is_place at ≡ true
    → modrm_with_register (modrm_prefixes w (regs.number r) at) (place_bytes (regs.number r % 8) at
    ++ more) ≡ Some ((at, r), more)
register_read w r at more ok =
    let n = number_small r in
    let p = modrm_prefixes w (regs.number r) at in
    let i = is_read w (regs.number r) at more n ok in
    let a = wide_small w in
    let b = high_small at in
    let third : bit 2 p.rex ≡ regs.number r / 8 = omega arith in
    ap (modrm_with_register p) i.whole
    ∙ ap (λ (o : Read RegisterOrMemory). o >>= λ x. read_as
    (x.0, register_of_reg_field p i.modrm) x.1) i.gives
    ∙ ap (λ (x : Reg). read_as (at, x) more) (joined r (bit 2 p.rex)
    (i.modrm / 8 % 8) third i.opcode_extension)

-- the place of width v, the register of width u
pub operands_read : (w v u : Width) (r : Reg) (at : RegisterOrMemory) (more : List ℕ)
    → is_place at ≡ true → is_listed (modrm_prefixes w (regs.number r) at) v at ≡ true
    → is_listed (modrm_prefixes w (regs.number r) at) u (places.Register r) ≡ true
    → rm_and_register (modrm_prefixes w (regs.number r) at) v u (place_bytes (regs.number r % 8) at
    ++ more) ≡ Some ((at, r), more)
operands_read w v u r at more ok a b =
    let p = modrm_prefixes w (regs.number r) at in
    ap (λ (o : Read (RegisterOrMemory × Reg)). o >>= λ x. cond (is_listed p v x.0.0 && is_listed p u
    (places.Register x.0.1)) (Some x) None) (register_read w r at more ok)
    ∙ ap (λ c. cond (c && is_listed p u (places.Register r)) (read_as (at, r) more) None) a
    ∙ ap (λ c. cond c (read_as (at, r) more) None) b

-- the prefixes of a width list each place of that width
pub listed : (w : Width) (bits : ℕ) (at : RegisterOrMemory)
    → is_listed (read_prefixes w bits) w at ≡ true
listed W8 bits (places.Register r) = refl
listed W8 bits (places.Memory m) = refl
listed w bits at = refl

rm_r_read : (w : Width) (r : Reg) (at : RegisterOrMemory) (more : List ℕ) (made : RegisterOrMemory
    → Operand → Instr) → is_place at ≡ true → rm_r (modrm_prefixes w (regs.number r) at) w made
    (place_bytes (regs.number r % 8) at ++ more) ≡ Some (made at (operands.Register r), more)
rm_r_read w r at more made ok =
    let bits = modrm_bits w (regs.number r) at in
    ap (λ (o : Read (RegisterOrMemory × Reg)). o >>= λ x. read_as
    (made x.0.0 (operands.Register x.0.1)) x.1)
    (operands_read w w w r at more ok (listed w bits at) (listed w bits (places.Register r)))

pub r_rm_read : (w : Width) (r : Reg) (at : RegisterOrMemory) (more : List ℕ) (made : Reg
    → RegisterOrMemory → Instr) → is_place at ≡ true
    → r_rm (modrm_prefixes w (regs.number r) at) w w made (place_bytes (regs.number r % 8) at
    ++ more) ≡ Some (made r at, more)
r_rm_read w r at more made ok =
    let bits = modrm_bits w (regs.number r) at in
    ap (λ (o : Read (RegisterOrMemory × Reg)). o >>= λ x. read_as (made x.0.1 x.0.0) x.1)
    (operands_read w w w r at more ok (listed w bits at) (listed w bits (places.Register r)))

pub rm_digit_read : (w v : Width) (d : ℕ) (at : RegisterOrMemory) (more : List ℕ)
    (made : ℕ → RegisterOrMemory → List ℕ → Read Instr) → d < 8 → is_place at ≡ true
    → is_listed (modrm_prefixes w d at) v at ≡ true
    → rm_extension (modrm_prefixes w d at) v made (place_bytes (d % 8) at ++ more) ≡ made d at more
rm_digit_read w v d at more made small ok is =
    ap (λ (o : Read (RegisterOrMemory × ℕ)). o >>= λ x. made x.0.1 x.0.0 x.1)
    (digit_read w d at more (omega arith) v is ok small)

-- ---- an opcode with a byte form

sized_is : (w : Width) (bits op : ℕ) → op % 2 ≡ 0 → bits / 8 ≡ wide w
    → sized (read_prefixes w bits) (sized_opcode w op) ≡ w
sized_is W8 bits op even e = ap (λ c. cond c W8 (width_of (read_prefixes W8 bits)))
    (eq-eqb (op % 2) 0 even)
sized_is W16 bits op even e = ap (λ c. cond c W8 (width_of (read_prefixes W16 bits)))
    (ne_eqb ((op + 1) % 2) 0 (λ h. absurd (omega arith))) ∙ width_read W16 bits refl e
sized_is W32 bits op even e = ap (λ c. cond c W8 (width_of (read_prefixes W32 bits)))
    (ne_eqb ((op + 1) % 2) 0 (λ h. absurd (omega arith))) ∙ width_read W32 bits refl e
sized_is W64 bits op even e = ap (λ c. cond c W8 (width_of (read_prefixes W64 bits)))
    (ne_eqb ((op + 1) % 2) 0 (λ h. absurd (omega arith))) ∙ width_read W64 bits refl e

-- an opcode that isn't a prefix, and whose next isn't
pub record IsOpcode (base : ℕ) : Type 0 where
  pub even : base % 2 ≡ 0
  pub size : base / 2 ≢ 0x66 / 2
  pub rex : base / 16 ≢ 4

open_sized : (w : Width) (r : ℕ) (at : RegisterOrMemory) (more : List ℕ) (base : ℕ) → r < 16
    → IsOpcode base → instr (modrm w (opcodes.One (sized_opcode w base)) r at
    ++ more) ≡ after_prefixes (modrm_prefixes w r at) (sized_opcode w base) (place_bytes (r % 8) at
    ++ more)
open_sized W8 r at more base lr k = let even = k.even in
    open_one W8 r at more lr base (λ e. k.size (omega arith)) k.rex
open_sized W16 r at more base lr k = let even = k.even in
    open_one W16 r at more lr (base + 1) (λ e. k.size (omega arith)) (λ e. k.rex (omega arith))
open_sized W32 r at more base lr k = let even = k.even in
    open_one W32 r at more lr (base + 1) (λ e. k.size (omega arith)) (λ e. k.rex (omega arith))
open_sized W64 r at more base lr k = let even = k.even in
    open_one W64 r at more lr (base + 1) (λ e. k.size (omega arith)) (λ e. k.rex (omega arith))

module _ (w : Width) (base : ℕ) (more : List ℕ) (k : IsOpcode base) where
  pub rm_r_again : (made : Width → RegisterOrMemory → Operand
      → Instr) (r : Reg) (at : RegisterOrMemory) → is_place at ≡ true
      → ((p : Prefixes) (bytes : List ℕ) → after_prefixes p (sized_opcode w base) bytes ≡ rm_r p
      (sized p (sized_opcode w base)) (made (sized p (sized_opcode w base))) bytes)
      → instr (modrm w (opcodes.One (sized_opcode w base)) (regs.number r) at ++ more) ≡ Some
      (made w at (operands.Register r), more)
  rm_r_again made r at ok is =
      let n = regs.number r in
      let p = modrm_prefixes w n at in
      let bytes = place_bytes (n % 8) at ++ more in
      open_sized w n at more base (number_small r) k
      ∙ is p bytes
      ∙ ap (λ v. rm_r p v (made v) bytes) (sized_is w (modrm_bits w n at) base k.even
      (bits_top w n at more (number_small r)))
      ∙ rm_r_read w r at more (made w) ok

  pub r_rm_again : (made : Width → Reg → RegisterOrMemory → Instr) (r : Reg) (at : RegisterOrMemory)
      → is_place at ≡ true
      → ((p : Prefixes) (bytes : List ℕ) → after_prefixes p (sized_opcode w base) bytes ≡ r_rm p
      (sized p (sized_opcode w base)) (sized p (sized_opcode w base))
      (made (sized p (sized_opcode w base))) bytes)
      → instr (modrm w (opcodes.One (sized_opcode w base)) (regs.number r) at ++ more) ≡ Some
      (made w r at, more)
  r_rm_again made r at ok is =
      let n = regs.number r in
      let p = modrm_prefixes w n at in
      let bytes = place_bytes (n % 8) at ++ more in
      open_sized w n at more base (number_small r) k
      ∙ is p bytes
      ∙ ap (λ v. r_rm p v v (made v) bytes) (sized_is w (modrm_bits w n at) base k.even
      (bits_top w n at more (number_small r)))
      ∙ r_rm_read w r at more (made w) ok

  pub rm_digit_again : (made : Prefixes → Width → ℕ → RegisterOrMemory → List ℕ
      → Read Instr) (d : ℕ) (at : RegisterOrMemory) → d < 8 → is_place at ≡ true
      → ((p : Prefixes) (bytes : List ℕ) → after_prefixes p (sized_opcode w base) bytes
      ≡ rm_extension p (sized p (sized_opcode w base))
      (made p (sized p (sized_opcode w base))) bytes)
      → instr (modrm w (opcodes.One (sized_opcode w base)) d at ++ more) ≡ made
      (modrm_prefixes w d at) w d at more
  rm_digit_again made d at small ok is =
      let p = modrm_prefixes w d at in
      let bytes = place_bytes (d % 8) at ++ more in
      let lr : d < 16 = omega arith in
      open_sized w d at more base lr k
      ∙ is p bytes
      ∙ ap (λ v. rm_extension p v (made p v) bytes) (sized_is w (modrm_bits w d at) base k.even
      (bits_top w d at more lr))
      ∙ rm_digit_read w w d at more (made p w) small ok (listed w (modrm_bits w d at) at)

-- ---- an opcode with a register

abbrev pub register_prefixes : Width → Reg → Prefixes
register_prefixes w r = read_prefixes w (8 * wide w + regs.number r / 8)

pub open_register : (w : Width) (op : ℕ) (r : Reg) (more : List ℕ) → (op + regs.number r % 8) ≢ 0x66
    → (op + regs.number r % 8) / 16 ≢ 4 → instr (opcode_register w op r ++ more) ≡ after_prefixes
    (register_prefixes w r) (op + regs.number r % 8) more
unfolding opcode_register
open_register w op r more n other =
    let a = wide_small w in
    let b = number_small r in
    ap instr (append_assoc (prefixes w (8 * wide w + regs.number r / 8)) ((op + regs.number r % 8)
    ∷ []) more)
    ∙ front w (8 * wide w + regs.number r / 8) (op + regs.number r % 8) more (omega arith) n other

pub lowest_read : (w : Width) (op : ℕ) (r : Reg) → (op + regs.number r % 8) % 8 ≡ regs.number r % 8
    → register_of_low_bits (register_prefixes w r) (op + regs.number r % 8) ≡ r
lowest_read w op r e =
    let a = wide_small w in
    let b = number_small r in
    joined r (bit 0 (8 * wide w + regs.number r / 8)) ((op + regs.number r % 8) % 8) (omega arith) e

-- these rows by each register, since the opcode has its number
pub push_row : (r : Reg) (h : Bool) (bits : ℕ) (more : List ℕ)
    → let p : Prefixes = record { operand_size = false; has_rex = h; rex = bits } in
    after_prefixes p (0x50 + regs.number r % 8) more ≡ Some
    (instrs.Push (register_of_low_bits p (0x50 + regs.number r % 8)), more)
unfolding after_prefixes row plain_row
push_row r h bits more = elim r as (λ r. let p : Prefixes =
    record { operand_size = false; has_rex = h; rex = bits } in
    after_prefixes p (0x50 + regs.number r % 8) more
    ≡ Some (instrs.Push (register_of_low_bits p (0x50 + regs.number r % 8)), more)) [
      | Rax ↦ refl
      | other ↦ refl
    ]

pub pop_row : (r : Reg) (h : Bool) (bits : ℕ) (more : List ℕ)
    → let p : Prefixes = record { operand_size = false; has_rex = h; rex = bits } in
    after_prefixes p (0x58 + regs.number r % 8) more ≡ Some
    (instrs.Pop (register_of_low_bits p (0x58 + regs.number r % 8)), more)
unfolding after_prefixes row plain_row
pop_row r h bits more = elim r as (λ r. let p : Prefixes =
    record { operand_size = false; has_rex = h; rex = bits } in
    after_prefixes p (0x58 + regs.number r % 8) more
    ≡ Some (instrs.Pop (register_of_low_bits p (0x58 + regs.number r % 8)), more)) [
      | Rax ↦ refl
      | other ↦ refl
    ]

pub immediate_row : (r : Reg) (p : Prefixes) (more : List ℕ)
    → after_prefixes p (0xB8 + regs.number r % 8) more ≡ move_immediate p
    (0xB8 + regs.number r % 8) more
unfolding after_prefixes row
immediate_row r p more = elim r as (λ r. after_prefixes p (0xB8 + regs.number r % 8) more
    ≡ move_immediate p (0xB8 + regs.number r % 8) more) [
      | Rax ↦ refl
      | other ↦ refl
    ]

-- ---- rows

-- by each width, and by each operation
pub row_move : (w : Width) (p : Prefixes) (bytes : List ℕ)
    → after_prefixes p (sized_opcode w 0x88) bytes ≡ rm_r p (sized p (sized_opcode w 0x88))
    (instrs.Move (sized p (sized_opcode w 0x88))) bytes
unfolding after_prefixes row
row_move W8 p bytes = refl
row_move w p bytes = refl

pub row_load : (w : Width) (p : Prefixes) (bytes : List ℕ)
    → after_prefixes p (sized_opcode w 0x8A) bytes ≡ r_rm p (sized p (sized_opcode w 0x8A))
    (sized p (sized_opcode w 0x8A)) (load (sized p (sized_opcode w 0x8A))) bytes
unfolding after_prefixes row
row_load W8 p bytes = refl
row_load w p bytes = refl

pub row_test : (w : Width) (p : Prefixes) (bytes : List ℕ)
    → after_prefixes p (sized_opcode w 0x84) bytes ≡ rm_r p (sized p (sized_opcode w 0x84))
    (instrs.Test (sized p (sized_opcode w 0x84))) bytes
unfolding after_prefixes row
row_test W8 p bytes = refl
row_test w p bytes = refl

pub row_move_number : (w : Width) (p : Prefixes) (bytes : List ℕ)
    → after_prefixes p (sized_opcode w 0xC6) bytes ≡ rm_extension p (sized p (sized_opcode w 0xC6))
    (group_11 (sized p (sized_opcode w 0xC6))) bytes
unfolding after_prefixes row
row_move_number W8 p bytes = refl
row_move_number w p bytes = refl

pub row_arithmetic_number : (w : Width) (p : Prefixes) (bytes : List ℕ)
    → after_prefixes p (sized_opcode w 0x80) bytes ≡ rm_extension p (sized p (sized_opcode w 0x80))
    (group_1 (immediate_of (sized p (sized_opcode w 0x80))) (sized p (sized_opcode w 0x80))) bytes
unfolding after_prefixes row
row_arithmetic_number W8 p bytes = refl
row_arithmetic_number w p bytes = refl

abbrev pub third : Width → Prefixes → Width → ℕ → RegisterOrMemory → List ℕ → Read Instr
third w p v d at bytes = group_3 (eqb (sized_opcode w 0xF6) 0xF7 && not p.operand_size) v d at bytes

pub row_third : (w : Width) (p : Prefixes) (bytes : List ℕ)
    → after_prefixes p (sized_opcode w 0xF6) bytes ≡ rm_extension p (sized p (sized_opcode w 0xF6))
    (third w p (sized p (sized_opcode w 0xF6))) bytes
unfolding after_prefixes row
row_third W8 p bytes = refl
row_third w p bytes = refl

pub row_arithmetic : (o : Operation) (w : Width) (p : Prefixes) (bytes : List ℕ)
    → after_prefixes p (sized_opcode w (8 * opcode_extension o)) bytes
    ≡ rm_r p (sized p (sized_opcode w (8 * opcode_extension o)))
    (instrs.Arithmetic o (sized p (sized_opcode w (8 * opcode_extension o)))) bytes
unfolding after_prefixes row
row_arithmetic operations.Add W8 p bytes = refl
row_arithmetic o W8 p bytes = refl
row_arithmetic o w p bytes = refl

abbrev pub from_memory : Operation → Width → Reg → RegisterOrMemory → Instr
from_memory o w to from = instrs.Arithmetic o w (places.Register to) (source from)

pub row_arithmetic_load : (o : Operation) (w : Width) (p : Prefixes) (bytes : List ℕ)
    → after_prefixes p (sized_opcode w (8 * opcode_extension o + 2)) bytes
    ≡ r_rm p (sized p (sized_opcode w (8 * opcode_extension o + 2)))
    (sized p (sized_opcode w (8 * opcode_extension o + 2)))
    (from_memory o (sized p (sized_opcode w (8 * opcode_extension o + 2)))) bytes
unfolding after_prefixes row
row_arithmetic_load operations.Add W8 p bytes = refl
row_arithmetic_load o W8 p bytes = refl
row_arithmetic_load o w p bytes = refl

pub row_jump_if : (c : Condition) (bytes : List ℕ)
    → instr (0x0F ∷ (0x80 + condition_number c)
    ∷ bytes) ≡ (signed W32 W64 bytes >>= λ d. Some (instrs.JumpIf c d.0, d.1))
unfolding instr after_size after_prefixes two_byte_row
row_jump_if conditions.Overflow bytes = refl
row_jump_if c bytes = refl

pub row_set : (c : Condition) (bits : ℕ) (bytes : List ℕ)
    → two_byte_row (read_prefixes W8 bits) (0x90 + condition_number c) bytes
    ≡ (rm_and_opcode_extension (read_prefixes W8 bits) W8 bytes >>= λ x. Some (
      instrs.Set c x.0.0,
      x.1,
    ))
unfolding two_byte_row
row_set conditions.Overflow bits bytes = refl
row_set c bits bytes = refl
