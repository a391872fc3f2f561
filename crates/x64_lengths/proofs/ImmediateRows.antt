-- The law for MOV r, imm, and for the two-byte jumps.
use Rattle.std.proofs.Common.{◌≡◌, ◌<◌, ℕ, ◌+◌, ◌/◌, ◌^◌, Bool, true, false, cond, eqb, List, Some, None, refl, sym, ap, subst, ◌∙◌, arith}
use Rattle.seh_num.specs.declared.width.Width.TheVariants.{W16, W32, W64}
use Rattle.seh_num.specs.Widths.{bytes_of}
use Rattle.x64_instr.specs.declared.prefixes.Prefixes.{Prefixes}
use Rattle.x64_instr.specs.declared.operand.RegisterOrMemory.TheVariants as places
use Rattle.x64_instr.specs.declared.operand.Operand.TheVariants as operand_kinds
use Rattle.x64_instr.specs.declared.instruction.Instr.{Instr}
use Rattle.x64_instr.specs.declared.instruction.Instr.TheVariants as instrs
use Rattle.x64_instr.specs.Registers as registers
use Rattle.x64_instr.specs.Reading.{number, bit}
use Rattle.x64_instr.specs.Operands.{width_of, register_of_low_bits}
use Rattle.x64_instr.specs.Spelling.{move_immediate}
use Rattle.x64_instr.specs.Spelling as spelling
use Rattle.x64_instr.proofs.Readers.{pair, bind_some}
use Rattle.x64_maps.specs.declared.cell.Row.TheVariants as rows
use Rattle.x64_maps.specs.declared.words.TheConstants as words
use Rattle.x64_lengths.specs.declared.spelled.Map.TheVariants.{OneByte}
use Rattle.x64_lengths.specs.Maps.{row}
use Rattle.x64_lengths.specs.Effects.{effects_of}
use Rattle.x64_lengths.specs.Measures.{immediate_bytes}
use Rattle.x64_lengths.specs.Agreement.{opcode_at, RowAgrees, OneByteRowAgrees}
use Rattle.x64_lengths.proofs.Rows.{eight, in_low, always, no_modrm}
use Rattle.x64_lengths.proofs.PlainRows.{the_cell, allowed, not_nop, low_written}

-- ---- MOV r, imm

whole_bytes : (wide size : Bool)
    → ◌≡◌ {A = ℕ} (cond wide 8 (cond wide 4 (cond size 2 4)))
    (bytes_of (cond wide W64 (cond size W16 W32)))
whole_bytes true size = refl
whole_bytes false true = refl
whole_bytes false false = refl

mov_row : (k : ℕ) → k < 8 → row OneByte (0xB8 + k) ≡ rows.Always (the_cell words.vO)
unfolding row
mov_row = eight (λ k. row OneByte (0xB8 + k) ≡ rows.Always (the_cell words.vO))
    refl refl refl refl refl refl refl refl

mov_is : (k : ℕ) → k < 8 → (p : Prefixes) (bytes : List ℕ)
    → spelling.row p (0xB8 + k) bytes ≡ move_immediate p (0xB8 + k) bytes
unfolding spelling.row
mov_is = eight (λ k. (p : Prefixes) (bytes : List ℕ)
    → spelling.row p (0xB8 + k) bytes ≡ move_immediate p (0xB8 + k) bytes)
    (λ p bytes. refl) (λ p bytes. refl) (λ p bytes. refl) (λ p bytes. refl)
    (λ p bytes. refl) (λ p bytes. refl) (λ p bytes. refl) (λ p bytes. refl)

abbrev moved : Prefixes → ℕ → ℕ → Instr
moved p op v =
    instrs.Move (width_of p) (places.Register (register_of_low_bits p op))
    (operand_kinds.Immediate v)

pub move_immediate_agrees : (k : ℕ) → k < 8 → OneByteRowAgrees (0xB8 + k)
move_immediate_agrees k lt p bytes i rest e =
    let op : ℕ = 0xB8 + k in
    let c = the_cell words.vO in
    let s = opcode_at p OneByte op in
    let b = bind_some (number (bytes_of (width_of p)) bytes)
    (λ v. Some (moved p op v.0, v.1)) (i, rest) (sym (mov_is k lt p bytes) ∙ e) in
    let q = pair (moved p op b.0.0) i b.0.1 rest b.2 in
    let n = immediate_bytes s c.immediate in
    subst (λ t. RowAgrees p OneByte op bytes t rest) q.0 (record {
      effects = effects_of s c None n b.0.0;
      is_read = no_modrm s c bytes b.0.0 rest (always p op c (mov_row k lt)) refl
          (allowed p op c.ending refl)
          (ap (λ t. number t bytes) (whole_bytes (eqb (bit 3 p.rex) 1) p.operand_size) ∙ b.1
          ∙ ap (λ (t : List ℕ). Some (b.0.0, t)) q.1);
      all = (
        in_low s c None (registers.number (register_of_low_bits p op))
            (not_nop p op (λ h. omega (arith, h, lt))) (low_written (p.rex / 2 ^ 0) op),
        tt,
      );
    })
