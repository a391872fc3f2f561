-- The law for the opcodes after 0F.
use Rattle.std.proofs.Common.{◌≡◌, ◌<◌, ℕ, ◌+◌, ◌%◌, true, false, cond, eqb, List, Option, Some, None, refl, sym, ap, subst, ◌∙◌}
use Rattle.seh_num.specs.declared.width.Width.TheVariants.{W8, W32}
use Rattle.x64_instr.specs.declared.prefixes.Prefixes.{Prefixes}
use Rattle.x64_instr.specs.declared.operand.RegisterOrMemory.{RegisterOrMemory}
use Rattle.x64_instr.specs.declared.instruction.Condition.{Condition}
use Rattle.x64_instr.specs.declared.instruction.Extension.{Extension}
use Rattle.x64_instr.specs.declared.instruction.Extension.TheVariants.{Sign, Zero}
use Rattle.x64_instr.specs.declared.instruction.Instr.{Instr}
use Rattle.x64_instr.specs.declared.instruction.Instr.TheVariants as instrs
use Rattle.x64_instr.specs.Reading.{◌>>=◌, bit}
use Rattle.x64_instr.specs.Operands.{width_of, sized_narrow, rm_and_opcode_extension}
use Rattle.x64_instr.specs.Spelling.{r_rm, given, condition, jump_if, set_if, extend}
use Rattle.x64_instr.proofs.Readers.{read_as, pair}
use Rattle.x64_maps.specs.declared.cell.Cell.{Cell}
use Rattle.x64_maps.specs.declared.cell.Row.TheVariants as rows
use Rattle.x64_maps.specs.declared.words.TheConstants as words
use Rattle.x64_lengths.specs.declared.spelled.Kind.TheVariants as kinds
use Rattle.x64_lengths.specs.declared.spelled.Mandatory.TheVariants as mandatories
use Rattle.x64_lengths.specs.declared.spelled.Map.TheVariants.{TwoByte}
use Rattle.x64_lengths.specs.Spelled.{or_66}
use Rattle.x64_lengths.specs.Maps.{row, mask, by_prefix, row_of, mandatory_number}
use Rattle.x64_lengths.specs.Effects.{effects_of}
use Rattle.x64_lengths.specs.Measures.{immediate_bytes, is_relative}
use Rattle.x64_lengths.specs.Agreement.{opcode_at, RowAgrees}
use Rattle.x64_lengths.proofs.Rows.{eight, no_modrm}
use Rattle.x64_lengths.proofs.PlainRows.{the_cell, allowed, no_bytes}
use Rattle.x64_lengths.proofs.ModRmRows.{modrm_of, any_modrm, wide_part, allowed_with, place_written}
use Rattle.x64_lengths.proofs.MoreRows.{half_is_four, jump_if_agrees, r_rm_agrees_by, reg_written}
use Rattle.x64_lengths.proofs.GroupRows.{group_read}

-- ---- rows without 66

-- the cell of an opcode, where there is no 66
abbrev CellIs : ℕ → Cell → Type 0
CellIs op c =
    (p : Prefixes) → p.operand_size ≡ false → row_of (opcode_at p TwoByte op) ≡ rows.Always c

cell_is : (op : ℕ) (c : Cell) → eqb (bit 0 (mask TwoByte op)) 1 ≡ true
    → by_prefix kinds.Legacy mandatories.Nothing (row TwoByte op) ≡ rows.Always c → CellIs op c
cell_is op c t e p s =
    ap (λ size. cond (eqb (bit (0 + mandatory_number (or_66 size mandatories.Nothing))
    (mask TwoByte op)) 1) (by_prefix kinds.Legacy (or_66 size mandatories.Nothing) (row TwoByte op))
    rows.Undefined) s
    ∙ ap (λ b. cond b (by_prefix kinds.Legacy mandatories.Nothing
    (row TwoByte op)) rows.Undefined) t
    ∙ e

-- ---- UD2

ud2_cell : CellIs 0x0B (the_cell words.STOP)
unfolding row mask by_prefix
ud2_cell = cell_is 0x0B (the_cell words.STOP) refl refl

pub undefined_agrees : (p : Prefixes) (bytes : List ℕ) (i : Instr) (rest : List ℕ)
    → p.operand_size ≡ false → read_as instrs.Undefined bytes ≡ Some (i, rest)
    → RowAgrees p TwoByte 0x0B bytes i rest
undefined_agrees p bytes i rest s e =
    let c = the_cell words.STOP in
    no_bytes p TwoByte 0x0B c instrs.Undefined bytes
    (no_modrm (opcode_at p TwoByte 0x0B) c bytes 0 bytes (ud2_cell p s) refl
    (allowed p 0x0B c.ending refl) refl) tt i rest e

-- ---- Jcc

jump_low : (k : ℕ) → k < 8 → CellIs (0x80 + k) (the_cell words.zj)
unfolding row mask by_prefix
jump_low = eight (λ k. CellIs (0x80 + k) (the_cell words.zj))
    (cell_is 0x80 (the_cell words.zj) refl refl) (cell_is 0x81 (the_cell words.zj) refl refl)
    (cell_is 0x82 (the_cell words.zj) refl refl) (cell_is 0x83 (the_cell words.zj) refl refl)
    (cell_is 0x84 (the_cell words.zj) refl refl) (cell_is 0x85 (the_cell words.zj) refl refl)
    (cell_is 0x86 (the_cell words.zj) refl refl) (cell_is 0x87 (the_cell words.zj) refl refl)

jump_high : (k : ℕ) → k < 8 → CellIs (0x88 + k) (the_cell words.zj)
unfolding row mask by_prefix
jump_high = eight (λ k. CellIs (0x88 + k) (the_cell words.zj))
    (cell_is 0x88 (the_cell words.zj) refl refl) (cell_is 0x89 (the_cell words.zj) refl refl)
    (cell_is 0x8A (the_cell words.zj) refl refl) (cell_is 0x8B (the_cell words.zj) refl refl)
    (cell_is 0x8C (the_cell words.zj) refl refl) (cell_is 0x8D (the_cell words.zj) refl refl)
    (cell_is 0x8E (the_cell words.zj) refl refl) (cell_is 0x8F (the_cell words.zj) refl refl)

-- the law for one opcode
abbrev pub TwoByteAgrees : (Prefixes → ℕ → List ℕ → Option (Instr × List ℕ)) → ℕ → Type 0
TwoByteAgrees read op =
    (p : Prefixes) (bytes : List ℕ) (i : Instr) (rest : List ℕ) → p.operand_size ≡ false
    → read p op bytes ≡ Some (i, rest) → RowAgrees p TwoByte op bytes i rest

jumps : (op : ℕ) → CellIs op (the_cell words.zj) → TwoByteAgrees (λ p. jump_if W32) op
jumps op cell p bytes i rest s e =
    jump_if_agrees p TwoByte op (the_cell words.zj) W32 (cell p s) refl
    (half_is_four (eqb (bit 3 p.rex) 1) p.operand_size s) s bytes i rest e

pub jumps_low : (k : ℕ) → k < 8 → TwoByteAgrees (λ p. jump_if W32) (0x80 + k)
jumps_low k lt = jumps (0x80 + k) (jump_low k lt)

pub jumps_high : (k : ℕ) → k < 8 → TwoByteAgrees (λ p. jump_if W32) (0x88 + k)
jumps_high k lt = jumps (0x88 + k) (jump_high k lt)

-- ---- SETcc

set_low : (k : ℕ) → k < 8 → CellIs (0x90 + k) (the_cell words.Me)
unfolding row mask by_prefix
set_low = eight (λ k. CellIs (0x90 + k) (the_cell words.Me))
    (cell_is 0x90 (the_cell words.Me) refl refl) (cell_is 0x91 (the_cell words.Me) refl refl)
    (cell_is 0x92 (the_cell words.Me) refl refl) (cell_is 0x93 (the_cell words.Me) refl refl)
    (cell_is 0x94 (the_cell words.Me) refl refl) (cell_is 0x95 (the_cell words.Me) refl refl)
    (cell_is 0x96 (the_cell words.Me) refl refl) (cell_is 0x97 (the_cell words.Me) refl refl)

set_high : (k : ℕ) → k < 8 → CellIs (0x98 + k) (the_cell words.Me)
unfolding row mask by_prefix
set_high = eight (λ k. CellIs (0x98 + k) (the_cell words.Me))
    (cell_is 0x98 (the_cell words.Me) refl refl) (cell_is 0x99 (the_cell words.Me) refl refl)
    (cell_is 0x9A (the_cell words.Me) refl refl) (cell_is 0x9B (the_cell words.Me) refl refl)
    (cell_is 0x9C (the_cell words.Me) refl refl) (cell_is 0x9D (the_cell words.Me) refl refl)
    (cell_is 0x9E (the_cell words.Me) refl refl) (cell_is 0x9F (the_cell words.Me) refl refl)

abbrev set_to : Condition → ℕ → RegisterOrMemory → List ℕ → Option (Instr × List ℕ)
set_to o k to bytes = Some (instrs.Set o to, bytes)

sets : (op : ℕ) → CellIs op (the_cell words.Me) → TwoByteAgrees set_if op
sets op cell p bytes i rest s e = go (condition (op % 16)) e
  where
    go : (o : Option Condition) → (given o bytes >>= λ o. rm_and_opcode_extension p W8 o.1 >>= λ x.
        Some (instrs.Set o.0 x.0.0, x.1)) ≡ Some (i, rest) → RowAgrees p TwoByte op bytes i rest
    go None h = absurd cc
    go (Some o) h =
        let c = the_cell words.Me in
        let t = opcode_at p TwoByte op in
        let r = group_read p W8 (set_to o) bytes i rest h in
        let x = modrm_of p r.modrm.first r.to in
        let q = pair (instrs.Set o r.to) i r.after rest r.made_is in
        subst (λ z. RowAgrees p TwoByte op bytes z rest) q.0
        (subst (λ z. RowAgrees p TwoByte op bytes (instrs.Set o r.to) z) q.1
        (subst (λ z. RowAgrees p TwoByte op z (instrs.Set o r.to) r.after) (sym r.modrm.whole)
        (record {
          effects = effects_of t c (Some x) (immediate_bytes t c.immediate) 0;
          is_read = any_modrm p TwoByte op c r.modrm.first r.modrm.others r.to r.after 0 r.after
              (cell p s) refl r.modrm.place_is
              (allowed_with p.operand_size (is_relative c.ending) true refl) refl;
          all = place_written p TwoByte op c W8 r.modrm.first r.to refl refl r.is_listed_place;
        })))

pub sets_low : (k : ℕ) → k < 8 → TwoByteAgrees set_if (0x90 + k)
sets_low k lt = sets (0x90 + k) (set_low k lt)

pub sets_high : (k : ℕ) → k < 8 → TwoByteAgrees set_if (0x98 + k)
sets_high k lt = sets (0x98 + k) (set_high k lt)

-- ---- IMUL r, r/m

multiply_cell : CellIs 0xAF (the_cell words.MG)
unfolding row mask by_prefix
multiply_cell = cell_is 0xAF (the_cell words.MG) refl refl

pub multiply_agrees : TwoByteAgrees
    (λ p op. r_rm p (width_of p) (width_of p) (instrs.Multiply (width_of p))) 0xAF
multiply_agrees p bytes i rest s e =
    let c = the_cell words.MG in
    r_rm_agrees_by p TwoByte 0xAF c (width_of p) (width_of p) (instrs.Multiply (width_of p))
    (multiply_cell p s) (record { form_is = refl; no_immediate = refl; goes_on = refl })
    (λ m at reg r l. reg_written p TwoByte 0xAF c (width_of p) m at reg refl
    (sym (wide_part (eqb (bit 3 p.rex) 1) p.operand_size)) r l) bytes i rest e

-- ---- MOVZX and MOVSX

extends : (x : Extension) (op : ℕ) → CellIs op (the_cell words.MG) → TwoByteAgrees (extend x) op
extends x op cell p bytes i rest s e =
    let c = the_cell words.MG in
    r_rm_agrees_by p TwoByte op c (width_of p) (sized_narrow op)
    (λ to from. instrs.Extend x (width_of p) to (sized_narrow op) from) (cell p s)
    (record { form_is = refl; no_immediate = refl; goes_on = refl })
    (λ m at reg r l. reg_written p TwoByte op c (width_of p) m at reg refl
    (sym (wide_part (eqb (bit 3 p.rex) 1) p.operand_size)) r l) bytes i rest e

pub zero_extend_byte : TwoByteAgrees (extend Zero) 0xB6
unfolding row mask by_prefix
zero_extend_byte = extends Zero 0xB6 (cell_is 0xB6 (the_cell words.MG) refl refl)

pub zero_extend_word : TwoByteAgrees (extend Zero) 0xB7
unfolding row mask by_prefix
zero_extend_word = extends Zero 0xB7 (cell_is 0xB7 (the_cell words.MG) refl refl)

pub sign_extend_byte : TwoByteAgrees (extend Sign) 0xBE
unfolding row mask by_prefix
sign_extend_byte = extends Sign 0xBE (cell_is 0xBE (the_cell words.MG) refl refl)

pub sign_extend_word : TwoByteAgrees (extend Sign) 0xBF
unfolding row mask by_prefix
sign_extend_word = extends Sign 0xBF (cell_is 0xBF (the_cell words.MG) refl refl)
