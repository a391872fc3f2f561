-- The law for opcodes of one byte without ModRM.
use Rattle.std.proofs.Common.{◌≡◌, ◌<◌, ℕ, ◌+◌, ◌*◌, ◌/◌, ◌%◌, ◌^◌, Bool, true, false, not, eqb, List, Option, Some, None, refl, sym, ap, subst, ◌∙◌, arith}
use Rattle.std.specs.Prelude.{◌&&◌}
use Rattle.std.proofs.lemmas.Bool.{ne_eqb}
use Rattle.std.proofs.lemmas.Nat.Bits.{bit_at-pow_same}
use Rattle.x64_instr.specs.declared.prefixes.Prefixes.{Prefixes}
use Rattle.x64_instr.specs.declared.instruction.Instr.{Instr}
use Rattle.x64_instr.specs.declared.instruction.Instr.TheVariants as instrs
use Rattle.x64_instr.specs.Registers.{register}
use Rattle.x64_instr.specs.Registers as registers
use Rattle.x64_instr.specs.Reading.{bit}
use Rattle.x64_instr.specs.Operands.{register_of_low_bits}
use Rattle.x64_instr.specs.Spelling.{plain_row}
use Rattle.x64_instr.proofs.Readers.{pair}
use Rattle.x64_instr.proofs.RegisterNumbers.{number_register}
use Rattle.x64_maps.specs.declared.cell.Cell.{Cell}
use Rattle.x64_maps.specs.declared.cell.Ending.{Ending}
use Rattle.x64_maps.specs.declared.cell.Row.{Row}
use Rattle.x64_maps.specs.declared.cell.Row.TheVariants as rows
use Rattle.x64_maps.specs.declared.words.TheConstants as words
use Rattle.x64_lengths.specs.declared.spelled.Map.{Map}
use Rattle.x64_lengths.specs.declared.spelled.Map.TheVariants.{OneByte}
use Rattle.x64_lengths.specs.Maps.{row, row_of}
use Rattle.x64_lengths.specs.Effects.{effects_of, is_no_operation}
use Rattle.x64_lengths.specs.Measures.{is_relative, is_allowed, with_row}
use Rattle.x64_instr.specs.Written.{written}
use Rattle.x64_lengths.specs.Agreement.{AreIn, opcode_at, RowAgrees, PlainRowAgrees}
use Rattle.x64_lengths.proofs.Rows.{eight, in_fixed, in_low, always, no_modrm}

-- ---- cells

abbrev pub the_cell : Row → Cell
the_cell (rows.Always c) = c
the_cell r = words.NOTHING

allowed_by : (size relative : Bool) → relative ≡ false → (not (size && relative) && true) ≡ true
allowed_by true relative e = ap (λ r. not r && true) e
allowed_by false relative e = refl

-- prefixes of the listed instructions are allowed but before a relative jump
pub allowed : (p : Prefixes) (op : ℕ) (e : Ending) → is_relative e ≡ false
    → is_allowed (opcode_at p OneByte op) e None ≡ true
allowed p op e r = allowed_by p.operand_size (is_relative e) r

pub not_nop : (p : Prefixes) (op : ℕ) → (op ≡ 0x90 → ⊥)
    → is_no_operation (opcode_at p OneByte op) ≡ false
not_nop p op n = ap (λ b. b && eqb (bit 0 p.rex) 0) (ne_eqb op 0x90 n)

-- an instruction that takes no bytes, with the effects of a cell that has none
pub no_bytes : (p : Prefixes) (table : Map) (op : ℕ) (c : Cell) (i : Instr) (bytes : List ℕ)
    → (is_read : with_row (opcode_at p table op) (row_of (opcode_at p table op)) bytes
    ≡ Some (effects_of (opcode_at p table op) c None 0 0, bytes))
    → AreIn (written i) (effects_of (opcode_at p table op) c None 0 0).general
    → (j : Instr) (rest : List ℕ) → ◌≡◌ {A = Option (Instr × List ℕ)} (Some (i, bytes)) (Some
    (j, rest))
    → RowAgrees p table op bytes j rest
no_bytes p table op c i bytes r all j rest e =
    let q = pair i j bytes rest e in
    subst (λ t. RowAgrees p table op bytes j t) q.1
    (subst (λ t. RowAgrees p table op bytes t bytes) q.0
    (record { effects = effects_of (opcode_at p table op) c None 0 0; is_read = r; all = all }))

-- ---- PUSH

push_row : (k : ℕ) → k < 8 → row OneByte (0x50 + k) ≡ rows.Always (the_cell words.Ws)
unfolding row
push_row = eight (λ k. row OneByte (0x50 + k) ≡ rows.Always (the_cell words.Ws))
    refl refl refl refl refl refl refl refl

push_is : (k : ℕ) → k < 8 → (p : Prefixes) (bytes : List ℕ)
    → plain_row p (0x50 + k) bytes
    ≡ Some (instrs.Push (register_of_low_bits p (0x50 + k)), bytes)
unfolding plain_row
push_is = eight (λ k. (p : Prefixes) (bytes : List ℕ) → plain_row p (0x50 + k) bytes
    ≡ Some (instrs.Push (register_of_low_bits p (0x50 + k)), bytes))
    (λ p bytes. refl) (λ p bytes. refl) (λ p bytes. refl) (λ p bytes. refl)
    (λ p bytes. refl) (λ p bytes. refl) (λ p bytes. refl) (λ p bytes. refl)

pub push : (k : ℕ) → k < 8 → PlainRowAgrees (0x50 + k)
push k lt p bytes j rest s e =
    let c = the_cell words.Ws in
    let op : ℕ = 0x50 + k in
    no_bytes p OneByte op c (instrs.Push (register_of_low_bits p op)) bytes
    (no_modrm (opcode_at p OneByte op) c bytes 0 bytes (always p op c (push_row k lt)) refl
    (allowed p op c.ending refl) refl) (
      in_fixed (opcode_at p OneByte op) c None 4
          (not_nop p op (λ h. omega (arith, h, lt))) refl,
      tt,
    )
    j rest (sym (push_is k lt p bytes) ∙ e)

-- ---- POP

pop_row : (k : ℕ) → k < 8 → row OneByte (0x58 + k) ≡ rows.Always (the_cell words.OS)
unfolding row
pop_row = eight (λ k. row OneByte (0x58 + k) ≡ rows.Always (the_cell words.OS))
    refl refl refl refl refl refl refl refl

pop_is : (k : ℕ) → k < 8 → (p : Prefixes) (bytes : List ℕ)
    → plain_row p (0x58 + k) bytes
    ≡ Some (instrs.Pop (register_of_low_bits p (0x58 + k)), bytes)
unfolding plain_row
pop_is = eight (λ k. (p : Prefixes) (bytes : List ℕ) → plain_row p (0x58 + k) bytes
    ≡ Some (instrs.Pop (register_of_low_bits p (0x58 + k)), bytes))
    (λ p bytes. refl) (λ p bytes. refl) (λ p bytes. refl) (λ p bytes. refl)
    (λ p bytes. refl) (λ p bytes. refl) (λ p bytes. refl) (λ p bytes. refl)

-- the register of the opcode's low bits is written
pub low_written : (b op : ℕ)
    → bit (registers.number (register (8 * (b % 2) + op % 8))) (2 ^ (8 * (b % 2) + op % 8)) ≡ 1
low_written b op =
    ap (λ n. bit n (2 ^ (8 * (b % 2) + op % 8)))
    (number_register (8 * (b % 2) + op % 8) (omega arith))
    ∙ bit_at-pow_same (8 * (b % 2) + op % 8)

pub pop : (k : ℕ) → k < 8 → PlainRowAgrees (0x58 + k)
pop k lt p bytes j rest s e =
    let c = the_cell words.OS in
    let op : ℕ = 0x58 + k in
    let n = not_nop p op (λ h. omega (arith, h, lt)) in
    no_bytes p OneByte op c (instrs.Pop (register_of_low_bits p op)) bytes
    (no_modrm (opcode_at p OneByte op) c bytes 0 bytes (always p op c (pop_row k lt)) refl
    (allowed p op c.ending refl) refl) (
      in_fixed (opcode_at p OneByte op) c None 4 n refl,
      (
        in_low (opcode_at p OneByte op) c None (registers.number (register_of_low_bits p op)) n
            (low_written (p.rex / 2 ^ 0) op),
        tt,
      ),
    )
    j rest (sym (pop_is k lt p bytes) ∙ e)
