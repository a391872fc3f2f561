-- The law for IMUL with an immediate, LEA and NOP: 69, 6B, 8D and 90.
use Rattle.std.proofs.Common.{◌≡◌, ℕ, ◌/◌, ◌%◌, Bool, true, false, not, cond, eqb, List, ◌∷◌, Some, None, refl, sym, ap, subst, ◌∙◌}
use Rattle.seh_num.specs.declared.width.Width.{Width}
use Rattle.seh_num.specs.declared.width.Width.TheVariants.{W8}
use Rattle.seh_num.specs.Widths.{bytes_of}
use Rattle.x64_instr.specs.declared.prefixes.Prefixes.{Prefixes}
use Rattle.x64_instr.specs.declared.register.Reg.{Reg}
use Rattle.x64_instr.specs.declared.operand.MemRef.{MemRef}
use Rattle.x64_instr.specs.declared.operand.RegisterOrMemory.{RegisterOrMemory}
use Rattle.x64_instr.specs.declared.operand.RegisterOrMemory.TheVariants as places
use Rattle.x64_instr.specs.declared.instruction.Instr.{Instr}
use Rattle.x64_instr.specs.declared.instruction.Instr.TheVariants as instrs
use Rattle.x64_instr.specs.Reading.{Read, ◌>>=◌, number, signed, bit}
use Rattle.x64_instr.specs.Operands.{width_of, immediate_of, register_of_low_bits, memory_operand, place, rm_and_register}
use Rattle.x64_instr.specs.Spelling.{multiply_by, address_to, plain_row}
use Rattle.x64_instr.proofs.Readers.{read_as, pair, bind_some}
use Rattle.x64_maps.specs.declared.cell.Cell.{Cell}
use Rattle.x64_maps.specs.declared.cell.Form.TheVariants as forms
use Rattle.x64_maps.specs.declared.cell.Part.TheVariants as parts
use Rattle.x64_maps.specs.declared.cell.Row.TheVariants as rows
use Rattle.x64_maps.specs.declared.words.TheConstants as words
use Rattle.x64_lengths.specs.declared.spelled.Map.TheVariants.{OneByte}
use Rattle.x64_lengths.specs.Maps.{row, row_of, by_modrm, has_form}
use Rattle.x64_lengths.specs.Places.{operands}
use Rattle.x64_lengths.specs.Effects.{effects_of, is_no_operation}
use Rattle.x64_lengths.specs.Measures.{immediate_bytes, is_relative, is_allowed, with_operands, with_modrm, with_row}
use Rattle.x64_lengths.specs.Agreement.{opcode_at, RowAgrees, PlainRowAgrees}
use Rattle.x64_lengths.proofs.Rows.{always, no_modrm}
use Rattle.x64_lengths.proofs.PlainRows.{the_cell, allowed, no_bytes}
use Rattle.x64_lengths.proofs.ModRmRows.{Listed, listed, modrm_of, read_modrm, any_modrm, wide_part, allowed_with}
use Rattle.x64_lengths.proofs.MoreRows.{reg_written}
use Rattle.x64_lengths.proofs.GroupOneRows.{immediate_read, half_bytes_are}

-- ---- IMUL r, r/m, imm

multiply_agrees : (p : Prefixes) (op : ℕ) (c : Cell) (from : Width)
    → row_of (opcode_at p OneByte op) ≡ rows.Always c → c.form ≡ forms.Any → c.reg ≡ parts.Whole
    → is_relative c.ending ≡ false → is_no_operation (opcode_at p OneByte op) ≡ false
    → immediate_bytes (opcode_at p OneByte op) c.immediate ≡ bytes_of from → (bytes : List ℕ)
    (i : Instr) (rest : List ℕ) → multiply_by p from bytes ≡ Some (i, rest)
    → RowAgrees p OneByte op bytes i rest
multiply_agrees p op c from e f g r n k bytes i rest h =
    let w = width_of p in
    let s = opcode_at p OneByte op in
    let b = bind_some (rm_and_register p w w bytes) (λ x. signed from w x.1 >>= λ v. Some
    (instrs.MultiplyBy w x.0.1 x.0.0 v.0, v.1)) (i, rest) h in
    let l = listed p w w bytes b.0.0.0 b.0.0.1 b.0.1 b.1 in
    let m = immediate_read from w (λ v. instrs.MultiplyBy w b.0.0.1 b.0.0.0 v) b.0.1 i rest b.2 in
    let x = modrm_of p l.modrm.first b.0.0.0 in
    subst (λ t. RowAgrees p OneByte op t i rest) (sym l.modrm.whole)
    (subst (λ t. RowAgrees p OneByte op (l.modrm.first ∷ l.modrm.others) t rest) m.instr_is
    (record {
      effects = effects_of s c (Some x) (immediate_bytes s c.immediate) m.value;
      is_read = any_modrm p OneByte op c l.modrm.first l.modrm.others b.0.0.0 b.0.1 m.value rest e f
          l.modrm.place_is (allowed_with p.operand_size (is_relative c.ending) true r)
          (ap (λ t. number t b.0.1) k ∙ m.number_is);
      all = reg_written p OneByte op c w l.modrm.first b.0.0.0 b.0.0.1 n
          (g ∙ sym (wide_part (eqb (bit 3 p.rex) 1) p.operand_size)) l.modrm.reg_is l.reg_is_listed;
    }))

whole_row : row OneByte 0x69 ≡ rows.Always (the_cell words.MzG)
unfolding row
whole_row = refl

byte_row : row OneByte 0x6B ≡ rows.Always (the_cell words.MbG)
unfolding row
byte_row = refl

pub multiply_whole : PlainRowAgrees 0x69
unfolding plain_row
multiply_whole p bytes i rest s e =
    multiply_agrees p 0x69 (the_cell words.MzG) (immediate_of (width_of p))
    (always p 0x69 (the_cell words.MzG) whole_row) refl refl refl refl
    (half_bytes_are (eqb (bit 3 p.rex) 1) p.operand_size) bytes i rest e

pub multiply_byte : PlainRowAgrees 0x6B
unfolding plain_row
multiply_byte p bytes i rest s e =
    multiply_agrees p 0x6B (the_cell words.MbG) W8 (always p 0x6B (the_cell words.MbG) byte_row)
    refl refl refl refl refl bytes i rest e

-- ---- LEA

-- where a place is in memory mod isn't 11
not_register : (p : Prefixes) (m : ℕ) (bs : List ℕ) (a : MemRef) (rest : List ℕ)
    → place p m bs ≡ Some (places.Memory a, rest) → not (eqb (m / 64) 3) ≡ true
unfolding place
not_register p m bs a rest h = go (eqb (m / 64) 3) h
  where
    go : (t : Bool) → cond t (read_as (places.Register (register_of_low_bits p m)) bs)
        (memory_operand p (m / 64) (m % 8) bs) ≡ Some (places.Memory a, rest) → not t ≡ true
    go true h =
        let q = pair (places.Register (register_of_low_bits p m)) (places.Memory a) bs rest h in
        let d : places.Register (register_of_low_bits p m) ≡ places.Memory a = q.0 in
        absurd cc
    go false h = refl

-- what is read by a row with ModRM in memory form, without an immediate
memory_modrm : (p : Prefixes) (op : ℕ) (c : Cell) (m : ℕ) (bs : List ℕ) (a : MemRef)
    (rest : List ℕ) → row_of (opcode_at p OneByte op) ≡ rows.Always c → c.form ≡ forms.Memory
    → place p m bs ≡ Some (places.Memory a, rest)
    → is_allowed (opcode_at p OneByte op) c.ending (Some (modrm_of p m (places.Memory a))) ≡ true
    → immediate_bytes (opcode_at p OneByte op) c.immediate ≡ 0
    → with_row (opcode_at p OneByte op) (row_of (opcode_at p OneByte op)) (m ∷ bs)
    ≡ Some (
      effects_of (opcode_at p OneByte op) c (Some (modrm_of p m (places.Memory a)))
          (immediate_bytes (opcode_at p OneByte op) c.immediate) 0,
      rest,
    )
unfolding by_modrm
memory_modrm p op c m bs a rest e f pl al k0 =
    let s = opcode_at p OneByte op in
    let k = immediate_bytes s c.immediate in
    let x = modrm_of p m (places.Memory a) in
    ap (λ r. with_row s r (m ∷ bs)) e
    ∙ ap (λ t. cond (has_form t)
    (with_modrm s (Some c) m bs) (with_operands s c None (m ∷ bs))) f
    ∙ ap (λ t. operands t p m bs >>= λ y. with_operands s c (Some y.0) y.1) f
    ∙ ap (λ b. (cond b (place p m bs >>= λ z. read_modrm (modrm_of p m z.0) z.1) None) >>= λ y.
    with_operands s c (Some y.0) y.1) (not_register p m bs a rest pl)
    ∙ ap (λ (o : Read RegisterOrMemory). (o >>= λ z. read_modrm (modrm_of p m z.0) z.1) >>= λ y.
    with_operands s c (Some y.0) y.1) pl
    ∙ ap (λ b. cond b (number k rest >>= λ v. Some (effects_of s c (Some x) k v.0, v.1)) None) al
    ∙ ap (λ t. number t rest >>= λ v. Some (effects_of s c (Some x) k v.0, v.1)) k0

address_row : row OneByte 0x8D ≡ rows.Always (the_cell words.mG)
unfolding row
address_row = refl

pub load_address_agrees : PlainRowAgrees 0x8D
unfolding plain_row
load_address_agrees p bytes i rest s e =
    let w = width_of p in
    let b = bind_some (rm_and_register p w w bytes) (λ x. address_to w x.0.1 x.0.0 x.1) (i, rest)
    e in
    go b.0.0.0 b.0.0.1 b.0.1 (listed p w w bytes b.0.0.0 b.0.0.1 b.0.1 b.1) b.2
  where
    go : (at : RegisterOrMemory) (reg : Reg) (after : List ℕ)
        → Listed p (width_of p) (width_of p) bytes at reg after
        → address_to (width_of p) reg at after ≡ Some (i, rest)
        → RowAgrees p OneByte 0x8D bytes i rest
    go (places.Register r) reg after l h = absurd cc
    go (places.Memory a) reg after l h =
        let w = width_of p in
        let c = the_cell words.mG in
        let s = opcode_at p OneByte 0x8D in
        let x = modrm_of p l.modrm.first (places.Memory a) in
        let q = pair (instrs.LoadAddress w reg a) i after rest h in
        subst (λ t. RowAgrees p OneByte 0x8D bytes t rest) q.0
        (subst (λ t. RowAgrees p OneByte 0x8D bytes (instrs.LoadAddress w reg a) t) q.1
        (subst (λ t. RowAgrees p OneByte 0x8D t (instrs.LoadAddress w reg a) after)
        (sym l.modrm.whole) (record {
          effects = effects_of s c (Some x) (immediate_bytes s c.immediate) 0;
          is_read = memory_modrm p 0x8D c l.modrm.first l.modrm.others a after
              (always p 0x8D c address_row) refl l.modrm.place_is
              (allowed_with p.operand_size (is_relative c.ending) true refl) refl;
          all = reg_written p OneByte 0x8D c w l.modrm.first (places.Memory a) reg refl
              (sym (wide_part (eqb (bit 3 p.rex) 1) p.operand_size)) l.modrm.reg_is
              l.reg_is_listed;
        })))

-- ---- NOP

nop_row : row OneByte 0x90 ≡ rows.Always (the_cell words.OA)
unfolding row
nop_row = refl

pub no_operation_agrees : PlainRowAgrees 0x90
unfolding plain_row
no_operation_agrees p bytes j rest s e = go (eqb (bit 0 p.rex) 1) e
  where
    go : (b : Bool) → cond b None (read_as instrs.NoOperation bytes) ≡ Some (j, rest)
        → RowAgrees p OneByte 0x90 bytes j rest
    go true h = absurd cc
    go false h =
        let c = the_cell words.OA in
        no_bytes p OneByte 0x90 c instrs.NoOperation bytes
        (no_modrm (opcode_at p OneByte 0x90) c bytes 0 bytes (always p 0x90 c nop_row) refl
        (allowed p 0x90 c.ending refl) refl) tt j rest h
