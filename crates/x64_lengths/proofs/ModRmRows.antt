-- The law for opcodes of one byte with ModRM.
use Rattle.std.proofs.Common.{◌≡◌, ℕ, ◌-◌, ◌^◌, Bool, true, false, not, cond, eqb, List, [], ◌∷◌, Some, None, refl, sym, ap, subst, ◌∙◌}
use Rattle.std.specs.Prelude.{◌&&◌}
use Rattle.std.proofs.lemmas.Nat.Bits.{bit_at-pow_same}
use Rattle.seh_num.specs.declared.width.Width.{Width}
use Rattle.seh_num.specs.declared.width.Width.TheVariants.{W8, W16, W32, W64}
use Rattle.x64_instr.specs.declared.prefixes.Prefixes.{Prefixes}
use Rattle.x64_instr.specs.declared.register.Reg.{Reg}
use Rattle.x64_instr.specs.declared.operand.RegisterOrMemory.{RegisterOrMemory}
use Rattle.x64_instr.specs.declared.operand.RegisterOrMemory.TheVariants as places
use Rattle.x64_instr.specs.declared.operand.Operand.{Operand}
use Rattle.x64_instr.specs.declared.operand.Operand.TheVariants as operand_kinds
use Rattle.x64_instr.specs.declared.instruction.Instr.{Instr}
use Rattle.x64_instr.specs.declared.instruction.Instr.TheVariants as instrs
use Rattle.x64_instr.specs.Registers as registers
use Rattle.x64_instr.specs.Reading.{Read, ◌>>=◌, number, bit}
use Rattle.x64_instr.specs.Operands.{width_of, place, register_of_reg_field, modrm_with_register, is_listed, rm_and_register}
use Rattle.x64_instr.specs.Spelling.{rm_r}
use Rattle.x64_instr.specs.Spelling as spelling
use Rattle.x64_instr.proofs.Readers.{pair, bind_some}
use Rattle.x64_maps.specs.declared.cell.Cell.{Cell}
use Rattle.x64_maps.specs.declared.cell.Form.TheVariants as forms
use Rattle.x64_maps.specs.declared.cell.Part.TheVariants as parts
use Rattle.x64_maps.specs.declared.cell.Immediate.TheVariants as immediates
use Rattle.x64_maps.specs.declared.cell.Row.TheVariants as rows
use Rattle.x64_maps.specs.declared.words.TheConstants as words
use Rattle.x64_lengths.specs.declared.places.ModRm.{ModRm}
use Rattle.x64_lengths.specs.declared.spelled.Map.{Map}
use Rattle.x64_lengths.specs.declared.spelled.Map.TheVariants.{OneByte}
use Rattle.x64_lengths.specs.Maps.{row, row_of, by_modrm, has_form}
use Rattle.x64_lengths.specs.Places.{reg_field, operands}
use Rattle.x64_lengths.specs.Effects.{effects_of, is_no_operation, part, byte_register}
use Rattle.x64_lengths.specs.Measures.{immediate_bytes, is_relative, is_allowed, with_operands, with_modrm, with_row}
use Rattle.x64_instr.specs.Written.{written, written_place}
use Rattle.x64_lengths.specs.Agreement.{AreIn, opcode_at, RowAgrees, OneByteRowAgrees}
use Rattle.x64_lengths.proofs.Rows.{or_left, in_modrm, always}
use Rattle.x64_lengths.proofs.PlainRows.{the_cell}

-- ---- what ModRM is read as, on both sides

-- ModRM's bytes: the first, its place, the rest
pub record ModRmRead (p : Prefixes) (bytes : List ℕ) (at : RegisterOrMemory) (reg : Reg)
    (rest : List ℕ) : Type 0 where
  pub first : ℕ
  pub others : List ℕ
  pub whole : bytes ≡ first ∷ others
  pub place_is : place p first others ≡ Some (at, rest)
  pub reg_is : register_of_reg_field p first ≡ reg

pub both : (a b : Bool) → (a && b) ≡ true → (a ≡ true) × (b ≡ true)
both true b h = (refl, h)
both false b h = absurd cc

pub if_some : {A : Type 0} (b : Bool) (x y : A) → cond b (Some x) None ≡ Some y
    → (b ≡ true) × (x ≡ y)
if_some true x y e = (refl, cc)
if_some false x y e = absurd cc

pub record Listed (p : Prefixes) (w v : Width) (bytes : List ℕ) (at : RegisterOrMemory) (reg : Reg)
    (rest : List ℕ) : Type 0 where
  pub modrm : ModRmRead p bytes at reg rest
  pub place_is_listed : is_listed p w at ≡ true
  pub reg_is_listed : is_listed p v (places.Register reg) ≡ true

modrm_read : (p : Prefixes) (bytes : List ℕ) (at : RegisterOrMemory) (reg : Reg) (rest : List ℕ)
    → modrm_with_register p bytes ≡ Some ((at, reg), rest) → ModRmRead p bytes at reg rest
modrm_read p [] at reg rest e = absurd cc
modrm_read p (m ∷ bs) at reg rest e =
    let b = bind_some (place p m bs)
    (λ x. Some ((x.0, register_of_reg_field p m), x.1)) ((at, reg), rest) e in
    let q = pair (b.0.0, register_of_reg_field p m) (at, reg) b.0.1 rest b.2 in
    record {
      first = m;
      others = bs;
      whole = refl;
      place_is = b.1 ∙ ap (λ (x : RegisterOrMemory). Some (x, b.0.1))
          (ap (λ (x : RegisterOrMemory × Reg). x.0) q.0)
          ∙ ap (λ (r : List ℕ). Some (at, r)) q.1;
      reg_is = ap (λ (x : RegisterOrMemory × Reg). x.1) q.0;
    }

pub listed : (p : Prefixes) (w v : Width) (bytes : List ℕ) (at : RegisterOrMemory) (reg : Reg)
    (rest : List ℕ) → rm_and_register p w v bytes ≡ Some ((at, reg), rest)
    → Listed p w v bytes at reg rest
listed p w v bytes at reg rest e =
    let b = bind_some (modrm_with_register p bytes)
    (λ x. cond (is_listed p w x.0.0 && is_listed p v (places.Register x.0.1)) (Some x) None)
    ((at, reg), rest) e in
    let f = if_some (is_listed p w b.0.0.0 && is_listed p v (places.Register b.0.0.1)) b.0
    ((at, reg), rest) b.2 in
    let l : (is_listed p w at && is_listed p v (places.Register reg)) ≡ true =
    subst (λ (x : (RegisterOrMemory × Reg) × List ℕ). (is_listed p w x.0.0
    && is_listed p v (places.Register x.0.1)) ≡ true) f.1 f.0 in
    let t = both (is_listed p w at) (is_listed p v (places.Register reg)) l in
    record {
      modrm = modrm_read p bytes at reg rest
          (b.1 ∙ ap (λ (x : (RegisterOrMemory × Reg) × List ℕ). Some x) f.1);
      place_is_listed = t.0;
      reg_is_listed = t.1;
    }

abbrev pub modrm_of : Prefixes → ℕ → RegisterOrMemory → ModRm
modrm_of p m at = record { reg = reg_field p m; place = at }

abbrev pub read_modrm : ModRm → List ℕ → Read ModRm
read_modrm x bytes = Some (x, bytes)

-- what is read by a row with ModRM of any form
pub any_modrm : (p : Prefixes) (table : Map) (op : ℕ) (c : Cell) (m : ℕ) (bs : List ℕ)
    (at : RegisterOrMemory)
    (after : List ℕ) (v : ℕ) (rest : List ℕ)
    → row_of (opcode_at p table op) ≡ rows.Always c → c.form ≡ forms.Any
    → place p m bs ≡ Some (at, after)
    → is_allowed (opcode_at p table op) c.ending (Some (modrm_of p m at)) ≡ true
    → number (immediate_bytes (opcode_at p table op) c.immediate) after ≡ Some (v, rest)
    → with_row (opcode_at p table op) (row_of (opcode_at p table op)) (m ∷ bs)
    ≡ Some (
      effects_of (opcode_at p table op) c (Some (modrm_of p m at))
          (immediate_bytes (opcode_at p table op) c.immediate) v,
      rest,
    )
unfolding by_modrm
any_modrm p table op c m bs at after v rest e f pl a n =
    let s = opcode_at p table op in
    let k = immediate_bytes s c.immediate in
    let x = modrm_of p m at in
    ap (λ r. with_row s r (m ∷ bs)) e
    ∙ ap (λ t. cond (has_form t)
    (with_modrm s (Some c) m bs) (with_operands s c None (m ∷ bs))) f
    ∙ ap (λ t. operands t p m bs >>= λ y. with_operands s c (Some y.0) y.1) f
    ∙ ap (λ (o : Read RegisterOrMemory). (o >>= λ z. read_modrm (modrm_of p m z.0) z.1) >>= λ y.
    with_operands s c (Some y.0) y.1) pl
    ∙ ap (λ b. cond b (number k after >>= λ v. Some (effects_of s c (Some x) k v.0, v.1)) None) a
    ∙ ap (λ (o : Read ℕ). o >>= λ v. Some (effects_of s c (Some x) k v.0, v.1)) n

-- ---- what is written

-- a register that is listed is written as itself
pub byte_same : (p : Prefixes) (r : Reg) → is_listed p W8 (places.Register r) ≡ true
    → byte_register p.has_rex (registers.number r) ≡ registers.number r
byte_same p r l = ap (λ b. cond b (registers.number r) (registers.number r - 4)) l

-- the part of the cell that a width is written as
abbrev pub part_of : Width → parts.the_data
part_of W8 = parts.Byte
part_of w = parts.Whole

pub rm_written : (p : Prefixes) (w : Width) (r : Reg) → is_listed p w (places.Register r) ≡ true
    → bit (registers.number r) (part p.has_rex (part_of w) (registers.number r)) ≡ 1
rm_written p W8 r l =
    ap (λ n. bit (registers.number r) (2 ^ n)) (byte_same p r l)
    ∙ bit_at-pow_same (registers.number r)
rm_written p W16 r l = bit_at-pow_same (registers.number r)
rm_written p W32 r l = bit_at-pow_same (registers.number r)
rm_written p W64 r l = bit_at-pow_same (registers.number r)

-- the place of ModRM is among those written where the cell says so
pub place_written : (p : Prefixes) (table : Map) (op : ℕ) (c : Cell) (w : Width) (m : ℕ)
    (at : RegisterOrMemory)
    → is_no_operation (opcode_at p table op) ≡ false → c.rm ≡ part_of w
    → is_listed p w at ≡ true
    → AreIn (written_place at)
    (effects_of (opcode_at p table op) c (Some (modrm_of p m at)) 0 0).general
place_written p table op c w m (places.Memory a) n e l = tt
place_written p table op c w m (places.Register r) n e l = (
  in_modrm (opcode_at p table op) c (Some (modrm_of p m (places.Register r)))
      (registers.number r) n
      (or_left (registers.number r) (part p.has_rex c.rm (registers.number r))
      (part p.has_rex c.reg (reg_field p m))
      (ap (λ t. bit (registers.number r) (part p.has_rex t (registers.number r))) e
      ∙ rm_written p w r l)),
  tt,
)

pub wide_part : (a b : Bool) → part_of (cond a W64 (cond b W16 W32)) ≡ parts.Whole
wide_part true b = refl
wide_part false true = refl
wide_part false false = refl

pub allowed_with : (size relative memory : Bool) → relative ≡ false
    → (not (size && relative) && true) ≡ true
allowed_with true relative memory e = ap (λ r. not r && true) e
allowed_with false relative memory e = refl

-- ---- r/m, r

pub record IsPlain (c : Cell) : Type 0 where
  pub form_is : c.form ≡ forms.Any
  pub no_immediate : c.immediate ≡ immediates.Nothing
  pub goes_on : is_relative c.ending ≡ false

-- one reading, in parts
pub modrm_agrees : (p : Prefixes) (table : Map) (op : ℕ) (c : Cell) (at : RegisterOrMemory)
    (reg : Reg) (i : Instr)
    (bytes rest : List ℕ) → row_of (opcode_at p table op) ≡ rows.Always c → IsPlain c
    → (read : ModRmRead p bytes at reg rest)
    → AreIn (written i)
    (effects_of (opcode_at p table op) c (Some (modrm_of p read.first at)) 0 0).general
    → RowAgrees p table op bytes i rest
modrm_agrees p table op c at reg i bytes rest e plain read all =
    let s = opcode_at p table op in
    let x = modrm_of p read.first at in
    subst (λ t. RowAgrees p table op t i rest) (sym read.whole) (record {
      effects = effects_of s c (Some x) (immediate_bytes s c.immediate) 0;
      is_read = any_modrm p table op c read.first read.others at rest 0 rest e
          plain.form_is read.place_is
          (allowed_with p.operand_size (is_relative c.ending) true plain.goes_on)
          (ap (λ t. number (immediate_bytes s t) rest) plain.no_immediate);
      all = all;
    })

pub rm_r_agrees : (p : Prefixes) (table : Map) (op : ℕ) (c : Cell) (w : Width)
    (made : RegisterOrMemory → Operand → Instr) → row_of (opcode_at p table op) ≡ rows.Always c
    → IsPlain c
    → ((m : ℕ) (at : RegisterOrMemory) (reg : Reg) → is_listed p w at ≡ true
    → AreIn (written (made at (operand_kinds.Register reg)))
    (effects_of (opcode_at p table op) c (Some (modrm_of p m at)) 0 0).general)
    → (bytes : List ℕ) (i : Instr) (rest : List ℕ) → rm_r p w made bytes ≡ Some (i, rest)
    → RowAgrees p table op bytes i rest
rm_r_agrees p table op c w made e plain all bytes i rest h =
    let b = bind_some (rm_and_register p w w bytes)
    (λ x. Some (made x.0.0 (operand_kinds.Register x.0.1), x.1)) (i, rest) h in
    let q = pair (made b.0.0.0 (operand_kinds.Register b.0.0.1)) i b.0.1 rest b.2 in
    let l = listed p w w bytes b.0.0.0 b.0.0.1 b.0.1 b.1 in
    subst (λ t. RowAgrees p table op bytes t rest) q.0
    (subst (λ t. RowAgrees p table op bytes
    (made b.0.0.0 (operand_kinds.Register b.0.0.1)) t) q.1
    (modrm_agrees p table op c b.0.0.0 b.0.0.1 (made b.0.0.0 (operand_kinds.Register b.0.0.1)) bytes
    b.0.1 e plain l.modrm (all l.modrm.first b.0.0.0 b.0.0.1 l.place_is_listed)))

-- ---- MOV r/m, r

mov_8 : row OneByte 0x88 ≡ rows.Always (the_cell words.Me)
unfolding row
mov_8 = refl

mov_all : row OneByte 0x89 ≡ rows.Always (the_cell words.ME)
unfolding row
mov_all = refl

pub mov_byte : OneByteRowAgrees 0x88
unfolding spelling.row
mov_byte p bytes i rest e =
    rm_r_agrees p OneByte 0x88 (the_cell words.Me) W8 (instrs.Move W8) (always p 0x88
    (the_cell words.Me) mov_8)
    (record { form_is = refl; no_immediate = refl; goes_on = refl })
    (λ m at reg l. place_written p OneByte 0x88 (the_cell words.Me) W8 m at refl refl l) bytes i
    rest e

pub mov : OneByteRowAgrees 0x89
unfolding spelling.row
mov p bytes i rest e =
    rm_r_agrees p OneByte 0x89 (the_cell words.ME) (width_of p) (instrs.Move (width_of p))
    (always p 0x89 (the_cell words.ME) mov_all)
    (record { form_is = refl; no_immediate = refl; goes_on = refl })
    (λ m at reg l. place_written p OneByte 0x89 (the_cell words.ME) (width_of p) m at refl
    (sym (wide_part (eqb (bit 3 p.rex) 1) p.operand_size)) l) bytes i rest e

-- ---- TEST r/m, r

test_row_8 : row OneByte 0x84 ≡ rows.Always (the_cell words.Mo)
unfolding row
test_row_8 = refl

test_row : row OneByte 0x85 ≡ rows.Always (the_cell words.Mo)
unfolding row
test_row = refl

pub test_byte : OneByteRowAgrees 0x84
unfolding spelling.row
test_byte p bytes i rest e =
    rm_r_agrees p OneByte 0x84 (the_cell words.Mo) W8 (instrs.Test W8) (always p 0x84
    (the_cell words.Mo) test_row_8)
    (record { form_is = refl; no_immediate = refl; goes_on = refl })
    (λ m at reg l. tt) bytes i rest e

pub test : OneByteRowAgrees 0x85
unfolding spelling.row
test p bytes i rest e =
    rm_r_agrees p OneByte 0x85 (the_cell words.Mo) (width_of p) (instrs.Test (width_of p))
    (always p 0x85 (the_cell words.Mo) test_row)
    (record { form_is = refl; no_immediate = refl; goes_on = refl })
    (λ m at reg l. tt) bytes i rest e
