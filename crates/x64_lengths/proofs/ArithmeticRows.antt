-- The law for ADD, OR, AND, SUB, XOR and CMP with r/m, r and r, r/m: 00 to 3F.
use Rattle.std.proofs.Common.{◌≡◌, ◌<◌, ℕ, ◌+◌, ◌*◌, false, eqb, List, Option, Some, None, refl, sym, ap, ◌∙◌}
use Rattle.std.specs.Prelude.{◌&&◌}
use Rattle.seh_num.specs.declared.width.Width.{Width}
use Rattle.seh_num.specs.declared.width.Width.TheVariants.{W8}
use Rattle.x64_instr.specs.declared.prefixes.Prefixes.{Prefixes}
use Rattle.x64_instr.specs.declared.register.Reg.{Reg}
use Rattle.x64_instr.specs.declared.operand.RegisterOrMemory.{RegisterOrMemory}
use Rattle.x64_instr.specs.declared.operand.RegisterOrMemory.TheVariants as places
use Rattle.x64_instr.specs.declared.operand.Operand.{Operand}
use Rattle.x64_instr.specs.declared.instruction.Operation.{Operation}
use Rattle.x64_instr.specs.declared.instruction.Operation.TheVariants as operations
use Rattle.x64_instr.specs.declared.instruction.Instr.{Instr}
use Rattle.x64_instr.specs.declared.instruction.Instr.TheVariants as instrs
use Rattle.x64_instr.specs.Reading.{bit}
use Rattle.x64_instr.specs.Operands.{width_of, source}
use Rattle.x64_instr.specs.Spelling.{rm_r, r_rm}
use Rattle.x64_instr.specs.Spelling as spelling
use Rattle.x64_maps.specs.declared.cell.Cell.{Cell}
use Rattle.x64_maps.specs.declared.cell.Form.TheVariants as forms
use Rattle.x64_maps.specs.declared.cell.Immediate.TheVariants as immediates
use Rattle.x64_maps.specs.declared.cell.Row.TheVariants as rows
use Rattle.x64_maps.specs.declared.words.TheConstants as words
use Rattle.x64_lengths.specs.declared.spelled.Map.TheVariants.{OneByte}
use Rattle.x64_lengths.specs.Maps.{row}
use Rattle.x64_lengths.specs.Effects.{is_no_operation}
use Rattle.x64_lengths.specs.Measures.{is_relative}
use Rattle.x64_instr.specs.Written.{written, written_place}
use Rattle.x64_lengths.specs.Agreement.{AreIn, opcode_at, OneByteRowAgrees}
use Rattle.x64_lengths.proofs.Rows.{eight, always}
use Rattle.x64_lengths.proofs.PlainRows.{the_cell}
use Rattle.x64_lengths.proofs.ModRmRows.{IsPlain, wide_part, place_written, rm_r_agrees}
use Rattle.x64_lengths.proofs.MoreRows.{r_rm_agrees_by, reg_written}

-- what is written is the place at most
pub to_place : (o : Operation) (w : Width) (at : RegisterOrMemory) (from : Operand) (set : ℕ)
    → AreIn (written_place at) set → AreIn (written (instrs.Arithmetic o w at from)) set
to_place operations.Compare w at from set h = tt
to_place operations.Add w at from set h = h
to_place operations.Or w at from set h = h
to_place operations.And w at from set h = h
to_place operations.Sub w at from set h = h
to_place operations.Xor w at from set h = h

pub apart : (p : Prefixes) (op : ℕ) → eqb op 0x90 ≡ false
    → is_no_operation (opcode_at p OneByte op) ≡ false
apart p op n = ap (λ b. b && eqb (bit 0 p.rex) 0) n

plain : (c : Cell) → c.form ≡ forms.Any → c.immediate ≡ immediates.Nothing
    → is_relative c.ending ≡ false → IsPlain c
plain c f n r = record { form_is = f; no_immediate = n; goes_on = r }

abbrev made_r : Operation → Width → Reg → RegisterOrMemory → Instr
made_r o w to from = instrs.Arithmetic o w (places.Register to) (source from)

-- r/m8, r8
byte_to : (op : ℕ) (o : Operation) → row OneByte op ≡ rows.Always (the_cell words.Me)
    → eqb op 0x90 ≡ false
    → ((p : Prefixes) (bytes : List ℕ) → spelling.row p op bytes
    ≡ rm_r p W8 (instrs.Arithmetic o W8) bytes) → OneByteRowAgrees op
byte_to op o e n is p bytes i rest h =
    let c = the_cell words.Me in
    rm_r_agrees p OneByte op c W8 (instrs.Arithmetic o W8) (always p op c e)
    (plain c refl refl refl)
    (λ m at reg l. to_place o W8 at _ _ (place_written p OneByte op c W8 m at
    (apart p op n) refl l))
    bytes i rest (sym (is p bytes) ∙ h)

-- r/m, r
all_to : (op : ℕ) (o : Operation) → row OneByte op ≡ rows.Always (the_cell words.ME)
    → eqb op 0x90 ≡ false
    → ((p : Prefixes) (bytes : List ℕ) → spelling.row p op bytes
    ≡ rm_r p (width_of p) (instrs.Arithmetic o (width_of p)) bytes) → OneByteRowAgrees op
all_to op o e n is p bytes i rest h =
    let c = the_cell words.ME in
    rm_r_agrees p OneByte op c (width_of p) (instrs.Arithmetic o (width_of p)) (always p op c e)
    (plain c refl refl refl)
    (λ m at reg l. to_place o (width_of p) at _ _ (place_written p OneByte op c (width_of p) m at
    (apart p op n) (sym (wide_part (eqb (bit 3 p.rex) 1) p.operand_size)) l))
    bytes i rest (sym (is p bytes) ∙ h)

-- r8, r/m8
byte_from : (op : ℕ) (o : Operation) → row OneByte op ≡ rows.Always (the_cell words.Mg)
    → eqb op 0x90 ≡ false
    → ((p : Prefixes) (bytes : List ℕ) → spelling.row p op bytes
    ≡ r_rm p W8 W8 (made_r o W8) bytes) → OneByteRowAgrees op
byte_from op o e n is p bytes i rest h =
    let c = the_cell words.Mg in
    r_rm_agrees_by p OneByte op c W8 W8 (made_r o W8) (always p op c e) (plain c refl refl refl)
    (λ m at reg r l. to_place o W8 (places.Register reg) _ _
    (reg_written p OneByte op c W8 m at reg (apart p op n) refl r l)) bytes i rest (sym
    (is p bytes) ∙ h)

-- r, r/m
all_from : (op : ℕ) (o : Operation) → row OneByte op ≡ rows.Always (the_cell words.MG)
    → eqb op 0x90 ≡ false
    → ((p : Prefixes) (bytes : List ℕ) → spelling.row p op bytes
    ≡ r_rm p (width_of p) (width_of p) (made_r o (width_of p)) bytes) → OneByteRowAgrees op
all_from op o e n is p bytes i rest h =
    let c = the_cell words.MG in
    r_rm_agrees_by p OneByte op c (width_of p) (width_of p) (made_r o (width_of p))
    (always p op c e)
    (plain c refl refl refl)
    (λ m at reg r l. to_place o (width_of p) (places.Register reg) _ _
    (reg_written p OneByte op c (width_of p) m at reg (apart p op n)
    (sym (wide_part (eqb (bit 3 p.rex) 1) p.operand_size)) r l))
    bytes i rest (sym (is p bytes) ∙ h)

-- CMP writes nothing
compare_rm : (op : ℕ) (w : Prefixes → Width) → row OneByte op ≡ rows.Always (the_cell words.Mo)
    → ((p : Prefixes) (bytes : List ℕ) → spelling.row p op bytes
    ≡ rm_r p (w p) (instrs.Arithmetic operations.Compare (w p)) bytes) → OneByteRowAgrees op
compare_rm op w e is p bytes i rest h =
    let c = the_cell words.Mo in
    rm_r_agrees p OneByte op c (w p) (instrs.Arithmetic operations.Compare (w p)) (always p op c e)
    (plain c refl refl refl) (λ m at reg l. tt) bytes i rest (sym (is p bytes) ∙ h)

compare_r : (op : ℕ) (w : Prefixes → Width) → row OneByte op ≡ rows.Always (the_cell words.Mo)
    → ((p : Prefixes) (bytes : List ℕ) → spelling.row p op bytes
    ≡ r_rm p (w p) (w p) (made_r operations.Compare (w p)) bytes) → OneByteRowAgrees op
compare_r op w e is p bytes i rest h =
    let c = the_cell words.Mo in
    r_rm_agrees_by p OneByte op c (w p) (w p) (made_r operations.Compare (w p)) (always p op c e)
    (plain c refl refl refl) (λ m at reg r l. tt) bytes i rest (sym (is p bytes) ∙ h)

-- ADC and SBB aren't listed
none : (op : ℕ) → ((p : Prefixes) (bytes : List ℕ) → spelling.row p op bytes ≡ None)
    → OneByteRowAgrees op
none op is p bytes i rest h =
    let n : ◌≡◌ {A = Option (Instr × List ℕ)} None (Some (i, rest)) = sym (is p bytes) ∙ h in
    absurd cc

pub rm_8 : (k : ℕ) → k < 8 → OneByteRowAgrees (8 * k)
unfolding spelling.row row
rm_8 = eight (λ k. OneByteRowAgrees (8 * k))
    (byte_to 0x00 operations.Add refl refl (λ p bytes. refl))
    (byte_to 0x08 operations.Or refl refl (λ p bytes. refl))
    (none 0x10 (λ p bytes. refl))
    (none 0x18 (λ p bytes. refl))
    (byte_to 0x20 operations.And refl refl (λ p bytes. refl))
    (byte_to 0x28 operations.Sub refl refl (λ p bytes. refl))
    (byte_to 0x30 operations.Xor refl refl (λ p bytes. refl))
    (compare_rm 0x38 (λ p. W8) refl (λ p bytes. refl))

pub rm_all : (k : ℕ) → k < 8 → OneByteRowAgrees (8 * k + 1)
unfolding spelling.row row
rm_all = eight (λ k. OneByteRowAgrees (8 * k + 1))
    (all_to 0x01 operations.Add refl refl (λ p bytes. refl))
    (all_to 0x09 operations.Or refl refl (λ p bytes. refl))
    (none 0x11 (λ p bytes. refl))
    (none 0x19 (λ p bytes. refl))
    (all_to 0x21 operations.And refl refl (λ p bytes. refl))
    (all_to 0x29 operations.Sub refl refl (λ p bytes. refl))
    (all_to 0x31 operations.Xor refl refl (λ p bytes. refl))
    (compare_rm 0x39 width_of refl (λ p bytes. refl))

pub r_8 : (k : ℕ) → k < 8 → OneByteRowAgrees (8 * k + 2)
unfolding spelling.row row
r_8 = eight (λ k. OneByteRowAgrees (8 * k + 2))
    (byte_from 0x02 operations.Add refl refl (λ p bytes. refl))
    (byte_from 0x0A operations.Or refl refl (λ p bytes. refl))
    (none 0x12 (λ p bytes. refl))
    (none 0x1A (λ p bytes. refl))
    (byte_from 0x22 operations.And refl refl (λ p bytes. refl))
    (byte_from 0x2A operations.Sub refl refl (λ p bytes. refl))
    (byte_from 0x32 operations.Xor refl refl (λ p bytes. refl))
    (compare_r 0x3A (λ p. W8) refl (λ p bytes. refl))

pub r_all : (k : ℕ) → k < 8 → OneByteRowAgrees (8 * k + 3)
unfolding spelling.row row
r_all = eight (λ k. OneByteRowAgrees (8 * k + 3))
    (all_from 0x03 operations.Add refl refl (λ p bytes. refl))
    (all_from 0x0B operations.Or refl refl (λ p bytes. refl))
    (none 0x13 (λ p bytes. refl))
    (none 0x1B (λ p bytes. refl))
    (all_from 0x23 operations.And refl refl (λ p bytes. refl))
    (all_from 0x2B operations.Sub refl refl (λ p bytes. refl))
    (all_from 0x33 operations.Xor refl refl (λ p bytes. refl))
    (compare_r 0x3B width_of refl (λ p bytes. refl))
