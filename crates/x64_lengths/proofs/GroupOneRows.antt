-- The law for ADD, OR, AND, SUB, XOR and CMP with r/m, imm: 80, 81 and 83.
use Rattle.std.proofs.Common.{◌≡◌, ◌<◌, ℕ, zero, suc, ◌/◌, Bool, true, false, cond, eqb, List, [], Some, refl, sym, ap, subst, ◌∙◌, arith}
use Rattle.std.specs.Prelude.{slice_index_or}
use Rattle.seh_num.specs.declared.width.Width.{Width}
use Rattle.seh_num.specs.declared.width.Width.TheVariants.{W8, W16, W32, W64}
use Rattle.seh_num.specs.Widths.{bytes_of}
use Rattle.x64_instr.specs.declared.prefixes.Prefixes.{Prefixes}
use Rattle.x64_instr.specs.declared.operand.RegisterOrMemory.{RegisterOrMemory}
use Rattle.x64_instr.specs.declared.operand.Operand.TheVariants as operand_kinds
use Rattle.x64_instr.specs.declared.instruction.Operation.{Operation}
use Rattle.x64_instr.specs.declared.instruction.Operation.TheVariants as operations
use Rattle.x64_instr.specs.declared.instruction.Instr.{Instr}
use Rattle.x64_instr.specs.declared.instruction.Instr.TheVariants as instrs
use Rattle.x64_instr.specs.Reading.{◌>>=◌, number, signed, extended, bit}
use Rattle.x64_instr.specs.Operands.{width_of, immediate_of, is_listed}
use Rattle.x64_instr.specs.Spelling.{rm_extension, group_1, given, operation}
use Rattle.x64_instr.specs.Spelling as spelling
use Rattle.x64_instr.proofs.Readers.{pair, bind_some}
use Rattle.x64_maps.specs.declared.cell.Cell.{Cell}
use Rattle.x64_maps.specs.declared.cell.Form.TheVariants as forms
use Rattle.x64_maps.specs.declared.cell.Group.{Group}
use Rattle.x64_maps.specs.declared.cell.Group.TheVariants as groups
use Rattle.x64_maps.specs.declared.cell.Row.TheVariants as rows
use Rattle.x64_maps.specs.declared.words.TheConstants as words
use Rattle.x64_maps.specs.declared.groups.TheConstants.{GROUPS}
use Rattle.x64_lengths.specs.declared.spelled.Map.TheVariants.{OneByte}
use Rattle.x64_lengths.specs.Maps.{row, by_prefix, row_of, by_modrm, group_number, at}
use Rattle.x64_lengths.specs.Effects.{effects_of}
use Rattle.x64_lengths.specs.Measures.{immediate_bytes, is_relative}
use Rattle.x64_instr.specs.Written.{written}
use Rattle.x64_lengths.specs.Agreement.{AreIn, opcode_at, RowAgrees, OneByteRowAgrees}
use Rattle.x64_lengths.proofs.Rows.{eight}
use Rattle.x64_lengths.proofs.PlainRows.{the_cell}
use Rattle.x64_lengths.proofs.ModRmRows.{modrm_of, allowed_with, wide_part, part_of, place_written}
use Rattle.x64_lengths.proofs.GroupRows.{ExtensionRead, group_read, chosen, any_row}
use Rattle.x64_lengths.proofs.ArithmeticRows.{to_place, apart}

-- ---- a cell of a group, with an immediate

pub group_agrees : (p : Prefixes) (op : ℕ) (g : Group) (c : Cell) (i : Instr) (bytes : List ℕ)
    (to : RegisterOrMemory) (ext : ℕ) (after : List ℕ) (v : ℕ) (rest : List ℕ)
    → row_of (opcode_at p OneByte op) ≡ rows.Group g → (m : ExtensionRead p bytes to ext after)
    → by_modrm m.first (rows.Group g) ≡ rows.Always c → c.form ≡ forms.Any
    → is_relative c.ending ≡ false
    → number (immediate_bytes (opcode_at p OneByte op) c.immediate) after ≡ Some (v, rest)
    → AreIn (written i)
    (effects_of (opcode_at p OneByte op) c (Some (modrm_of p m.first to)) 0 0).general
    → RowAgrees p OneByte op bytes i rest
group_agrees p op g c i bytes to ext after v rest e m b f r n all =
    let s = opcode_at p OneByte op in
    let x = modrm_of p m.first to in
    subst (λ t. RowAgrees p OneByte op t i rest) (sym m.whole) (record {
      effects = effects_of s c (Some x) (immediate_bytes s c.immediate) v;
      is_read = any_row p OneByte op (rows.Group g) c m.first m.others to after v rest e refl b f
          m.place_is (allowed_with p.operand_size (is_relative c.ending) true r) n;
      all = all;
    })

-- a signed immediate is a number of the same bytes
pub record ImmediateRead (from : Width) (f : ℕ → Instr) (bytes : List ℕ) (i : Instr)
    (rest : List ℕ) : Type 0 where
  pub value : ℕ
  pub immediate : ℕ
  pub number_is : number (bytes_of from) bytes ≡ Some (value, rest)
  pub instr_is : f immediate ≡ i

pub immediate_read : (from w : Width) (f : ℕ → Instr) (bytes : List ℕ) (i : Instr)
    (rest : List ℕ) → (signed from w bytes >>= λ d. Some (f d.0, d.1)) ≡ Some (i, rest)
    → ImmediateRead from f bytes i rest
immediate_read from w f bytes i rest e =
    let b = bind_some (signed from w bytes) (λ d. Some (f d.0, d.1)) (i, rest) e in
    let q = pair (f b.0.0) i b.0.1 rest b.2 in
    let n = bind_some (number (bytes_of from) bytes) (λ v. Some (extended from w v.0, v.1)) b.0
    b.1 in
    let r = pair (extended from w n.0.0) b.0.0 n.0.1 b.0.1 n.2 in
    record {
      value = n.0.0;
      immediate = b.0.0;
      number_is = n.1 ∙ ap (λ (t : List ℕ). Some (n.0.0, t)) (r.1 ∙ q.1);
      instr_is = q.0;
    }

-- ---- group 1, for a cell that writes the place and one that doesn't

-- what a group's three opcodes differ in
pub record GroupOne (p : Prefixes) (op : ℕ) (g : Group) (from w : Width) (writes reads : Cell)
    : Type 0 where
  pub row_is : row_of (opcode_at p OneByte op) ≡ rows.Group g
  pub writes_at : (f : Bool) (k : ℕ) → k < 7
      → at (slice_index_or GROUPS (group_number g) []) (cond f 1 0) k ≡ rows.Always writes
  pub reads_at : (f : Bool)
      → at (slice_index_or GROUPS (group_number g) []) (cond f 1 0) 7 ≡ rows.Always reads
  pub forms_are : (writes.form ≡ forms.Any) × (reads.form ≡ forms.Any)
  pub go_on : (is_relative writes.ending ≡ false) × (is_relative reads.ending ≡ false)
  pub bytes_are : (immediate_bytes (opcode_at p OneByte op) writes.immediate ≡ bytes_of from)
      × (immediate_bytes (opcode_at p OneByte op) reads.immediate ≡ bytes_of from)
  pub rm_is : writes.rm ≡ part_of w
  pub apart_from_nop : eqb op 0x90 ≡ false

writing : (p : Prefixes) (op : ℕ) (g : Group) (from w : Width) (writes reads : Cell)
    → GroupOne p op g from w writes reads → (o : Operation) (bytes : List ℕ)
    (to : RegisterOrMemory) (ext : ℕ) (after : List ℕ) (i : Instr) (rest : List ℕ)
    → ExtensionRead p bytes to ext after → ext < 7 → is_listed p w to ≡ true
    → (signed from w after >>= λ v. Some
    (instrs.Arithmetic o w to (operand_kinds.Immediate v.0), v.1)) ≡ Some (i, rest)
    → RowAgrees p OneByte op bytes i rest
unfolding by_modrm
writing p op g from w c d one o bytes to ext after i rest m lt l h =
    let r = immediate_read from w
    (λ v. instrs.Arithmetic o w to (operand_kinds.Immediate v)) after i rest h in
    let t = at (slice_index_or GROUPS (group_number g) []) (cond (eqb (m.first / 64) 3) 1 0) in
    subst (λ z. RowAgrees p OneByte op bytes z rest) r.instr_is
    (group_agrees p op g c (instrs.Arithmetic o w to (operand_kinds.Immediate r.immediate)) bytes
    to ext after r.value rest one.row_is m
    (ap t m.ext_is ∙ one.writes_at (eqb (m.first / 64) 3) ext lt) one.forms_are.0 one.go_on.0
    (ap (λ z. number z after) one.bytes_are.0 ∙ r.number_is)
    (to_place o w to _ _ (place_written p OneByte op c w m.first to (apart p op one.apart_from_nop)
    one.rm_is l)))

comparing : (p : Prefixes) (op : ℕ) (g : Group) (from w : Width) (writes reads : Cell)
    → GroupOne p op g from w writes reads → (bytes : List ℕ)
    (to : RegisterOrMemory) (after : List ℕ) (i : Instr) (rest : List ℕ)
    → ExtensionRead p bytes to 7 after
    → (signed from w after >>= λ v. Some
    (instrs.Arithmetic operations.Compare w to (operand_kinds.Immediate v.0), v.1)) ≡ Some (i, rest)
    → RowAgrees p OneByte op bytes i rest
unfolding by_modrm
comparing p op g from w c d one bytes to after i rest m h =
    let f : ℕ → Instr = λ v. instrs.Arithmetic operations.Compare w to
    (operand_kinds.Immediate v) in
    let r = immediate_read from w f after i rest h in
    let t = at (slice_index_or GROUPS (group_number g) []) (cond (eqb (m.first / 64) 3) 1 0) in
    subst (λ z. RowAgrees p OneByte op bytes z rest) r.instr_is
    (group_agrees p op g d (f r.immediate) bytes to 7 after r.value rest one.row_is m
    (ap t m.ext_is ∙ one.reads_at (eqb (m.first / 64) 3)) one.forms_are.1 one.go_on.1
    (ap (λ z. number z after) one.bytes_are.1 ∙ r.number_is) tt)

abbrev Extension : Prefixes → ℕ → Width → Width → List ℕ → Instr → List ℕ → ℕ → Type 0
Extension p op from w bytes i rest k =
    (to : RegisterOrMemory) (after : List ℕ) → ExtensionRead p bytes to k after
    → is_listed p w to ≡ true → group_1 from w k to after ≡ Some (i, rest)
    → RowAgrees p OneByte op bytes i rest

by_extension : (p : Prefixes) (op : ℕ) (g : Group) (from w : Width) (writes reads : Cell)
    → GroupOne p op g from w writes reads → (bytes : List ℕ) (i : Instr) (rest : List ℕ)
    → (k : ℕ) → k < 8 → Extension p op from w bytes i rest k
by_extension p op g from w c d one bytes i rest = eight (Extension p op from w bytes i rest)
    (λ to after m l h. writing p op g from w c d one operations.Add bytes to 0 after i rest m
    (omega arith) l h)
    (λ to after m l h. writing p op g from w c d one operations.Or bytes to 1 after i rest m
    (omega arith) l h)
    (λ to after m l h. absurd cc)
    (λ to after m l h. absurd cc)
    (λ to after m l h. writing p op g from w c d one operations.And bytes to 4 after i rest m
    (omega arith) l h)
    (λ to after m l h. writing p op g from w c d one operations.Sub bytes to 5 after i rest m
    (omega arith) l h)
    (λ to after m l h. writing p op g from w c d one operations.Xor bytes to 6 after i rest m
    (omega arith) l h)
    (λ to after m l h. comparing p op g from w c d one bytes to after i rest m h)

group_one : (p : Prefixes) (op : ℕ) (g : Group) (from w : Width) (writes reads : Cell)
    → GroupOne p op g from w writes reads → (bytes : List ℕ) (i : Instr) (rest : List ℕ)
    → rm_extension p w (group_1 from w) bytes ≡ Some (i, rest)
    → RowAgrees p OneByte op bytes i rest
group_one p op g from w c d one bytes i rest h =
    let r = group_read p w (group_1 from w) bytes i rest h in
    by_extension p op g from w c d one bytes i rest r.ext
    (subst (λ k. k < 8) r.modrm.ext_is (omega arith)) r.to r.after r.modrm r.is_listed_place
    r.made_is

-- ---- the opcodes

seven : (P : ℕ → Type 0) → P 0 → P 1 → P 2 → P 3 → P 4 → P 5 → P 6 → (k : ℕ) → k < 7 → P k
seven P a b c d e f g zero lt = a
seven P a b c d e f g (suc zero) lt = b
seven P a b c d e f g (suc (suc zero)) lt = c
seven P a b c d e f g (suc (suc (suc zero))) lt = d
seven P a b c d e f g (suc (suc (suc (suc zero)))) lt = e
seven P a b c d e f g (suc (suc (suc (suc (suc zero))))) lt = f
seven P a b c d e f g (suc (suc (suc (suc (suc (suc zero)))))) lt = g
seven P a b c d e f g (suc (suc (suc (suc (suc (suc (suc k))))))) lt = absurd (omega arith)

abbrev pub CellsAt : Group → Cell → Bool → ℕ → Type 0
CellsAt g c f k = at (slice_index_or GROUPS (group_number g) []) (cond f 1 0) k ≡ rows.Always c

byte_cells : (f : Bool) → (k : ℕ) → k < 7 → CellsAt groups.One8 (the_cell words.Mbe) f k
byte_cells true = seven (CellsAt groups.One8 (the_cell words.Mbe) true)
    refl refl refl refl refl refl refl
byte_cells false = seven (CellsAt groups.One8 (the_cell words.Mbe) false)
    refl refl refl refl refl refl refl

byte_reads : (f : Bool) → CellsAt groups.One8 (the_cell words.Mb) f 7
byte_reads true = refl
byte_reads false = refl

byte_row : row OneByte 0x80 ≡ rows.Group groups.One8
unfolding row
byte_row = refl

byte_one : (p : Prefixes) → GroupOne p 0x80 groups.One8 W8 W8 (the_cell words.Mbe)
    (the_cell words.Mb)
unfolding by_prefix
byte_one p = record {
  row_is = chosen p 0x80 (rows.Group groups.One8) byte_row refl;
  writes_at = byte_cells;
  reads_at = byte_reads;
  forms_are = (refl, refl);
  go_on = (refl, refl);
  bytes_are = (refl, refl);
  rm_is = refl;
  apart_from_nop = refl;
}

pub immediate_byte : OneByteRowAgrees 0x80
unfolding spelling.row
immediate_byte p bytes i rest h =
    group_one p 0x80 groups.One8 W8 W8 (the_cell words.Mbe) (the_cell words.Mb) (byte_one p)
    bytes i rest h

signed_cells : (f : Bool) → (k : ℕ) → k < 7 → CellsAt groups.OneSigned (the_cell words.MbE) f k
signed_cells true = seven (CellsAt groups.OneSigned (the_cell words.MbE) true)
    refl refl refl refl refl refl refl
signed_cells false = seven (CellsAt groups.OneSigned (the_cell words.MbE) false)
    refl refl refl refl refl refl refl

signed_reads : (f : Bool) → CellsAt groups.OneSigned (the_cell words.Mb) f 7
signed_reads true = refl
signed_reads false = refl

signed_row : row OneByte 0x83 ≡ rows.Group groups.OneSigned
unfolding row
signed_row = refl

signed_one : (p : Prefixes)
    → GroupOne p 0x83 groups.OneSigned W8 (width_of p) (the_cell words.MbE) (the_cell words.Mb)
unfolding by_prefix
signed_one p = record {
  row_is = chosen p 0x83 (rows.Group groups.OneSigned) signed_row refl;
  writes_at = signed_cells;
  reads_at = signed_reads;
  forms_are = (refl, refl);
  go_on = (refl, refl);
  bytes_are = (refl, refl);
  rm_is = sym (wide_part (eqb (bit 3 p.rex) 1) p.operand_size);
  apart_from_nop = refl;
}

pub immediate_signed : OneByteRowAgrees 0x83
unfolding spelling.row
immediate_signed p bytes i rest h =
    group_one p 0x83 groups.OneSigned W8 (width_of p) (the_cell words.MbE) (the_cell words.Mb)
    (signed_one p) bytes i rest h

pub half_bytes_are : (wide size : Bool) → ◌≡◌ {A = ℕ} (cond wide 4 (cond size 2 4))
    (bytes_of (immediate_of (cond wide W64 (cond size W16 W32))))
half_bytes_are true size = refl
half_bytes_are false true = refl
half_bytes_are false false = refl

all_cells : (f : Bool) → (k : ℕ) → k < 7 → CellsAt groups.One (the_cell words.MzE) f k
all_cells true = seven (CellsAt groups.One (the_cell words.MzE) true)
    refl refl refl refl refl refl refl
all_cells false = seven (CellsAt groups.One (the_cell words.MzE) false)
    refl refl refl refl refl refl refl

all_reads : (f : Bool) → CellsAt groups.One (the_cell words.Mz) f 7
all_reads true = refl
all_reads false = refl

all_row : row OneByte 0x81 ≡ rows.Group groups.One
unfolding row
all_row = refl

all_one : (p : Prefixes) → GroupOne p 0x81 groups.One (immediate_of (width_of p)) (width_of p)
    (the_cell words.MzE) (the_cell words.Mz)
unfolding by_prefix
all_one p =
    let b = half_bytes_are (eqb (bit 3 p.rex) 1) p.operand_size in
    record {
      row_is = chosen p 0x81 (rows.Group groups.One) all_row refl;
      writes_at = all_cells;
      reads_at = all_reads;
      forms_are = (refl, refl);
      go_on = (refl, refl);
      bytes_are = (b, b);
      rm_is = sym (wide_part (eqb (bit 3 p.rex) 1) p.operand_size);
      apart_from_nop = refl;
    }

pub immediate_all : OneByteRowAgrees 0x81
unfolding spelling.row
immediate_all p bytes i rest h =
    group_one p 0x81 groups.One (immediate_of (width_of p)) (width_of p) (the_cell words.MzE)
    (the_cell words.Mz) (all_one p) bytes i rest h
