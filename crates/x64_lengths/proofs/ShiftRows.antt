-- The law for the groups 2, 3 and 11: C1, C6, C7, D3, F6 and F7.
use Rattle.std.proofs.Common.{◌≡◌, ◌<◌, ℕ, ◌+◌, ◌*◌, ◌/◌, Bool, true, false, not, cond, eqb, List, [], ◌∷◌, Some, None, refl, sym, ap, subst, ◌∙◌, arith}
use Rattle.std.specs.Prelude.{slice_index_or}
use Rattle.seh_num.specs.declared.width.Width.{Width}
use Rattle.seh_num.specs.declared.width.Width.TheVariants.{W8}
use Rattle.seh_num.specs.Widths.{bytes_of}
use Rattle.x64_instr.specs.declared.prefixes.Prefixes.{Prefixes}
use Rattle.x64_instr.specs.declared.operand.RegisterOrMemory.{RegisterOrMemory}
use Rattle.x64_instr.specs.declared.operand.Operand.TheVariants as operand_kinds
use Rattle.x64_instr.specs.declared.instruction.Unary.TheVariants.{Not, Negate}
use Rattle.x64_instr.specs.declared.instruction.Division.TheVariants.{Unsigned, Signed}
use Rattle.x64_instr.specs.declared.instruction.Direction.{Direction}
use Rattle.x64_instr.specs.declared.instruction.Direction.TheVariants as directions
use Rattle.x64_instr.specs.declared.instruction.Count.TheVariants as counts
use Rattle.x64_instr.specs.declared.instruction.Instr.{Instr}
use Rattle.x64_instr.specs.declared.instruction.Instr.TheVariants as instrs
use Rattle.x64_instr.specs.Reading.{Read, ◌>>=◌, byte, number, bit}
use Rattle.x64_instr.specs.Operands.{width_of, immediate_of, is_listed}
use Rattle.x64_instr.specs.Spelling.{rm_extension, group_2_immediate, group_2_cl, group_3, group_11, plain_row}
use Rattle.x64_instr.specs.Spelling as spelling
use Rattle.x64_instr.specs.Written.{written}
use Rattle.x64_instr.proofs.Readers.{read_as, pair, bind_some}
use Rattle.x64_maps.specs.declared.cell.Cell.{Cell}
use Rattle.x64_maps.specs.declared.cell.Form.TheVariants as forms
use Rattle.x64_maps.specs.declared.cell.Group.{Group}
use Rattle.x64_maps.specs.declared.cell.Group.TheVariants as groups
use Rattle.x64_maps.specs.declared.cell.Row.TheVariants as rows
use Rattle.x64_maps.specs.declared.words.TheConstants as words
use Rattle.x64_maps.specs.declared.groups.TheConstants.{GROUPS}
use Rattle.x64_lengths.specs.declared.spelled.Map.TheVariants.{OneByte}
use Rattle.x64_lengths.specs.Maps.{row, by_prefix, row_of, by_modrm, group_number, at}
use Rattle.x64_lengths.specs.Effects.{effects_of}
use Rattle.x64_lengths.specs.Measures.{immediate_bytes, is_relative}
use Rattle.x64_lengths.specs.Agreement.{AreIn, opcode_at, RowAgrees, PlainRowAgrees, OneByteRowAgrees}
use Rattle.x64_lengths.proofs.Rows.{eight, in_fixed}
use Rattle.x64_lengths.proofs.PlainRows.{the_cell}
use Rattle.x64_lengths.proofs.ModRmRows.{modrm_of, part_of, wide_part, place_written}
use Rattle.x64_lengths.proofs.GroupRows.{ExtensionRead, group_read, chosen}
use Rattle.x64_lengths.proofs.GroupOneRows.{CellsAt, group_agrees, immediate_read, half_bytes_are}
use Rattle.x64_lengths.proofs.ArithmeticRows.{apart}

-- ---- a cell of a group

-- the cell of the reg field k, with an immediate of n bytes
record GroupCell (p : Prefixes) (op : ℕ) (g : Group) (c : Cell) (k n : ℕ) : Type 0 where
  pub row_is : row_of (opcode_at p OneByte op) ≡ rows.Group g
  pub cell_is : (f : Bool) → CellsAt g c f k
  pub form_is : c.form ≡ forms.Any
  pub goes_on : is_relative c.ending ≡ false
  pub bytes_are : immediate_bytes (opcode_at p OneByte op) c.immediate ≡ n
  pub apart_from_nop : eqb op 0x90 ≡ false

cell_agrees : (p : Prefixes) (op : ℕ) (g : Group) (c : Cell) (k n : ℕ) → GroupCell p op g c k n
    → (i : Instr) (bytes : List ℕ) (to : RegisterOrMemory) (after : List ℕ) (v : ℕ)
    (rest : List ℕ) → (m : ExtensionRead p bytes to k after) → number n after ≡ Some (v, rest)
    → AreIn (written i)
    (effects_of (opcode_at p OneByte op) c (Some (modrm_of p m.first to)) 0 0).general
    → RowAgrees p OneByte op bytes i rest
unfolding by_modrm
cell_agrees p op g c k n cell i bytes to after v rest m h all =
    group_agrees p op g c i bytes to k after v rest cell.row_is m
    (ap (at (slice_index_or GROUPS (group_number g) []) (cond (eqb (m.first / 64) 3) 1 0)) m.ext_is
    ∙ cell.cell_is (eqb (m.first / 64) 3)) cell.form_is cell.goes_on
    (ap (λ z. number z after) cell.bytes_are ∙ h) all

-- an instruction that writes its place
to_agrees : (p : Prefixes) (op : ℕ) (g : Group) (c : Cell) (k n : ℕ) → GroupCell p op g c k n
    → (w : Width) → c.rm ≡ part_of w → (i : Instr) (bytes : List ℕ) (to : RegisterOrMemory)
    (after : List ℕ) (v : ℕ) (rest : List ℕ) → ExtensionRead p bytes to k after
    → is_listed p w to ≡ true → number n after ≡ Some (v, rest)
    → ((set : ℕ) → AreIn (written (instrs.Unary Not w to)) set → AreIn (written i) set)
    → RowAgrees p OneByte op bytes i rest
to_agrees p op g c k n cell w r i bytes to after v rest m l h all =
    cell_agrees p op g c k n cell i bytes to after v rest m h
    (all _ (place_written p OneByte op c w m.first to (apart p op cell.apart_from_nop) r l))

-- what is read of an instruction by the reg field
abbrev ExtensionAgrees : Prefixes → ℕ → Width → (ℕ → RegisterOrMemory → List ℕ → Read Instr)
    → List ℕ → Instr → List ℕ → ℕ → Type 0
ExtensionAgrees p op w made bytes i rest k =
    (to : RegisterOrMemory) (after : List ℕ) → ExtensionRead p bytes to k after
    → is_listed p w to ≡ true → made k to after ≡ Some (i, rest)
    → RowAgrees p OneByte op bytes i rest

by_reg : (p : Prefixes) (op : ℕ) (w : Width) (made : ℕ → RegisterOrMemory → List ℕ → Read Instr)
    (bytes : List ℕ) (i : Instr) (rest : List ℕ)
    → ((k : ℕ) → k < 8 → ExtensionAgrees p op w made bytes i rest k)
    → rm_extension p w made bytes ≡ Some (i, rest) → RowAgrees p OneByte op bytes i rest
by_reg p op w made bytes i rest all h =
    let r = group_read p w made bytes i rest h in
    all r.ext (subst (λ k. k < 8) r.modrm.ext_is (omega arith)) r.to r.after r.modrm
    r.is_listed_place r.made_is

-- an instruction that takes no bytes after its place
ended : (p : Prefixes) (op : ℕ) (i : Instr) (after bytes : List ℕ) (j : Instr) (rest : List ℕ)
    → read_as i after ≡ Some (j, rest) → RowAgrees p OneByte op bytes i after
    → RowAgrees p OneByte op bytes j rest
ended p op i after bytes j rest e r =
    let q = pair i j after rest e in
    subst (λ t. RowAgrees p OneByte op bytes j t) q.1
    (subst (λ t. RowAgrees p OneByte op bytes t after) q.0 r)

-- ---- group 2: shifts by an immediate, and by CL

abbrev by_count : Direction → Width → RegisterOrMemory → ℕ → Instr
by_count d w to n = instrs.Shift d w to (counts.Immediate n)

shift_immediate : (p : Prefixes) (d : Direction) (k : ℕ)
    → GroupCell p 0xC1 groups.TwoImmediate (the_cell words.MbE) k 1 → (bytes : List ℕ)
    (i : Instr) (rest : List ℕ) (to : RegisterOrMemory) (after : List ℕ)
    → ExtensionRead p bytes to k after → is_listed p (width_of p) to ≡ true
    → (byte after >>= λ n. Some (by_count d (width_of p) to n.0, n.1)) ≡ Some (i, rest)
    → RowAgrees p OneByte 0xC1 bytes i rest
shift_immediate p d k cell bytes i rest to after m l h =
    let w = width_of p in
    let b = bind_some (byte after) (λ n. Some (by_count d w to n.0, n.1)) (i, rest) h in
    ended p 0xC1 (by_count d w to b.0.0) b.0.1 bytes i rest b.2
    (to_agrees p 0xC1 groups.TwoImmediate (the_cell words.MbE) k 1 cell w
    (sym (wide_part (eqb (bit 3 p.rex) 1) p.operand_size)) (by_count d w to b.0.0) bytes to after
    (b.0.0 + 256 * 0) b.0.1 m l (ap (λ (o : Read ℕ). o >>= λ n. Some (n.0 + 256 * 0, n.1)) b.1)
    (λ set a. a))

shift_row : row OneByte 0xC1 ≡ rows.Group groups.TwoImmediate
unfolding row
shift_row = refl

shift_cell : (p : Prefixes) (k : ℕ) → ((f : Bool) → CellsAt groups.TwoImmediate
    (the_cell words.MbE) f k)
    → GroupCell p 0xC1 groups.TwoImmediate (the_cell words.MbE) k 1
unfolding by_prefix
shift_cell p k h = record {
  row_is = chosen p 0xC1 (rows.Group groups.TwoImmediate) shift_row refl;
  cell_is = h;
  form_is = refl;
  goes_on = refl;
  bytes_are = refl;
  apart_from_nop = refl;
}

-- a cell that is one in memory and one in register form
each_form : (P : Bool → Type 0) → P true → P false → (f : Bool) → P f
each_form P a b true = a
each_form P a b false = b

pub shift_immediate_agrees : PlainRowAgrees 0xC1
unfolding plain_row
shift_immediate_agrees p bytes i rest s e =
    let w = width_of p in
    by_reg p 0xC1 w (group_2_immediate w) bytes i rest
    (eight (ExtensionAgrees p 0xC1 w (group_2_immediate w) bytes i rest)
    (λ to after m l h. absurd cc)
    (λ to after m l h. absurd cc)
    (λ to after m l h. absurd cc)
    (λ to after m l h. absurd cc)
    (shift_immediate p directions.Left 4 (shift_cell p 4 (each_form _ refl refl)) bytes i rest)
    (shift_immediate p directions.Right 5 (shift_cell p 5 (each_form _ refl refl)) bytes i rest)
    (λ to after m l h. absurd cc)
    (shift_immediate p directions.ArithmeticRight 7 (shift_cell p 7 (each_form _ refl refl)) bytes i
    rest)) e

shift_cl : (p : Prefixes) (d : Direction) (k : ℕ)
    → GroupCell p 0xD3 groups.Two (the_cell words.ME) k 0 → (bytes : List ℕ)
    (i : Instr) (rest : List ℕ) (to : RegisterOrMemory) (after : List ℕ)
    → ExtensionRead p bytes to k after → is_listed p (width_of p) to ≡ true
    → read_as (instrs.Shift d (width_of p) to counts.Cl) after ≡ Some (i, rest)
    → RowAgrees p OneByte 0xD3 bytes i rest
shift_cl p d k cell bytes i rest to after m l h =
    let w = width_of p in
    let j = instrs.Shift d w to counts.Cl in
    ended p 0xD3 j after bytes i rest h
    (to_agrees p 0xD3 groups.Two (the_cell words.ME) k 0 cell w
    (sym (wide_part (eqb (bit 3 p.rex) 1) p.operand_size)) j bytes to after 0 after m l refl
    (λ set a. a))

cl_row : row OneByte 0xD3 ≡ rows.Group groups.Two
unfolding row
cl_row = refl

cl_cell : (p : Prefixes) (k : ℕ) → ((f : Bool) → CellsAt groups.Two (the_cell words.ME) f k)
    → GroupCell p 0xD3 groups.Two (the_cell words.ME) k 0
unfolding by_prefix
cl_cell p k h = record {
  row_is = chosen p 0xD3 (rows.Group groups.Two) cl_row refl;
  cell_is = h;
  form_is = refl;
  goes_on = refl;
  bytes_are = refl;
  apart_from_nop = refl;
}

pub shift_cl_agrees : PlainRowAgrees 0xD3
unfolding plain_row
shift_cl_agrees p bytes i rest s e =
    let w = width_of p in
    by_reg p 0xD3 w (group_2_cl w) bytes i rest
    (eight (ExtensionAgrees p 0xD3 w (group_2_cl w) bytes i rest)
    (λ to after m l h. absurd cc)
    (λ to after m l h. absurd cc)
    (λ to after m l h. absurd cc)
    (λ to after m l h. absurd cc)
    (shift_cl p directions.Left 4 (cl_cell p 4 (each_form _ refl refl)) bytes i rest)
    (shift_cl p directions.Right 5 (cl_cell p 5 (each_form _ refl refl)) bytes i rest)
    (λ to after m l h. absurd cc)
    (shift_cl p directions.ArithmeticRight 7 (cl_cell p 7 (each_form _ refl refl)) bytes i rest)) e

-- ---- group 11: MOV r/m, imm

move_to : (p : Prefixes) (op : ℕ) (g : Group) (c : Cell) (w : Width)
    → GroupCell p op g c 0 (bytes_of (immediate_of w)) → c.rm ≡ part_of w → (bytes : List ℕ)
    (i : Instr) (rest : List ℕ) → ExtensionAgrees p op w (group_11 w) bytes i rest 0
move_to p op g c w cell r bytes i rest to after m l h =
    let d = immediate_read (immediate_of w) w (λ v. instrs.Move w to (operand_kinds.Immediate v))
    after i rest h in
    subst (λ z. RowAgrees p OneByte op bytes z rest) d.instr_is
    (to_agrees p op g c 0 (bytes_of (immediate_of w)) cell w r
    (instrs.Move w to (operand_kinds.Immediate d.immediate)) bytes to after d.value rest m l
    d.number_is (λ set a. a))

moved : (p : Prefixes) (op : ℕ) (g : Group) (c : Cell) (w : Width)
    → GroupCell p op g c 0 (bytes_of (immediate_of w)) → c.rm ≡ part_of w → (bytes : List ℕ)
    (i : Instr) (rest : List ℕ) → rm_extension p w (group_11 w) bytes ≡ Some (i, rest)
    → RowAgrees p OneByte op bytes i rest
moved p op g c w cell r bytes i rest e =
    by_reg p op w (group_11 w) bytes i rest
    (eight (ExtensionAgrees p op w (group_11 w) bytes i rest)
    (move_to p op g c w cell r bytes i rest)
    (λ to after m l h. absurd cc)
    (λ to after m l h. absurd cc)
    (λ to after m l h. absurd cc)
    (λ to after m l h. absurd cc)
    (λ to after m l h. absurd cc)
    (λ to after m l h. absurd cc)
    (λ to after m l h. absurd cc)) e

move_row_8 : row OneByte 0xC6 ≡ rows.Group groups.Eleven8
unfolding row
move_row_8 = refl

move_row : row OneByte 0xC7 ≡ rows.Group groups.Eleven
unfolding row
move_row = refl

pub move_byte_immediate : OneByteRowAgrees 0xC6
unfolding spelling.row by_prefix
move_byte_immediate p bytes i rest e =
    moved p 0xC6 groups.Eleven8 (the_cell words.Mbe) W8 (record {
      row_is = chosen p 0xC6 (rows.Group groups.Eleven8) move_row_8 refl;
      cell_is = each_form _ refl refl;
      form_is = refl;
      goes_on = refl;
      bytes_are = refl;
      apart_from_nop = refl;
    }) refl bytes i rest e

pub move_whole_immediate : OneByteRowAgrees 0xC7
unfolding spelling.row by_prefix
move_whole_immediate p bytes i rest e =
    moved p 0xC7 groups.Eleven (the_cell words.MzE) (width_of p) (record {
      row_is = chosen p 0xC7 (rows.Group groups.Eleven) move_row refl;
      cell_is = each_form _ refl refl;
      form_is = refl;
      goes_on = refl;
      bytes_are = half_bytes_are (eqb (bit 3 p.rex) 1) p.operand_size;
      apart_from_nop = refl;
    }) (sym (wide_part (eqb (bit 3 p.rex) 1) p.operand_size)) bytes i rest e

-- ---- group 3: TEST, NOT, NEG, DIV and IDIV

tests : (p : Prefixes) (op : ℕ) (g : Group) (c : Cell) (t : Bool) (w : Width)
    → GroupCell p op g c 0 (bytes_of (immediate_of w)) → (bytes : List ℕ)
    (i : Instr) (rest : List ℕ) → ExtensionAgrees p op w (group_3 t w) bytes i rest 0
tests p op g c t w cell bytes i rest to after m l h =
    let d = immediate_read (immediate_of w) w (λ v. instrs.Test w to (operand_kinds.Immediate v))
    after i rest h in
    subst (λ z. RowAgrees p OneByte op bytes z rest) d.instr_is
    (cell_agrees p op g c 0 (bytes_of (immediate_of w)) cell
    (instrs.Test w to (operand_kinds.Immediate d.immediate)) bytes to after d.value rest m
    d.number_is tt)

unary : (p : Prefixes) (op : ℕ) (g : Group) (c : Cell) (k : ℕ) (w : Width) → GroupCell p op g c k 0
    → c.rm ≡ part_of w → (j : Instr) (bytes : List ℕ) (i : Instr) (rest : List ℕ)
    (to : RegisterOrMemory) (after : List ℕ) → ExtensionRead p bytes to k after
    → is_listed p w to ≡ true
    → ((set : ℕ) → AreIn (written (instrs.Unary Not w to)) set → AreIn (written j) set)
    → read_as j after ≡ Some (i, rest) → RowAgrees p OneByte op bytes i rest
unary p op g c k w cell r j bytes i rest to after m l all h =
    ended p op j after bytes i rest h
    (to_agrees p op g c k 0 cell w r j bytes to after 0 after m l refl all)

-- DIV and IDIV write RAX and RDX
divides : (p : Prefixes) (op : ℕ) (g : Group) (c : Cell) (k : ℕ) → GroupCell p op g c k 0
    → bit 0 c.fixed ≡ 1 → bit 2 c.fixed ≡ 1 → (j : Instr) → written j ≡ 0 ∷ 2 ∷ []
    → (bytes : List ℕ) (i : Instr) (rest : List ℕ) (to : RegisterOrMemory) (after : List ℕ)
    → ExtensionRead p bytes to k after → read_as j after ≡ Some (i, rest)
    → RowAgrees p OneByte op bytes i rest
divides p op g c k cell a d j w bytes i rest to after m h =
    let s = opcode_at p OneByte op in
    let x = Some (modrm_of p m.first to) in
    let n = apart p op cell.apart_from_nop in
    ended p op j after bytes i rest h
    (cell_agrees p op g c k 0 cell j bytes to after 0 after m refl
    (subst (λ t. AreIn t (effects_of s c x 0 0).general) (sym w)
    (in_fixed s c x 0 n a, (in_fixed s c x 2 n d, tt))))

three_row_8 : row OneByte 0xF6 ≡ rows.Group groups.Three8
unfolding row
three_row_8 = refl

three_row : row OneByte 0xF7 ≡ rows.Group groups.Three
unfolding row
three_row = refl

byte_cell : (p : Prefixes) (c : Cell) (k n : ℕ) → ((f : Bool) → CellsAt groups.Three8 c f k)
    → c.form ≡ forms.Any → is_relative c.ending ≡ false
    → immediate_bytes (opcode_at p OneByte 0xF6) c.immediate ≡ n
    → GroupCell p 0xF6 groups.Three8 c k n
unfolding by_prefix
byte_cell p c k n h f r b = record {
  row_is = chosen p 0xF6 (rows.Group groups.Three8) three_row_8 refl;
  cell_is = h;
  form_is = f;
  goes_on = r;
  bytes_are = b;
  apart_from_nop = refl;
}

whole_cell : (p : Prefixes) (c : Cell) (k n : ℕ) → ((f : Bool) → CellsAt groups.Three c f k)
    → c.form ≡ forms.Any → is_relative c.ending ≡ false
    → immediate_bytes (opcode_at p OneByte 0xF7) c.immediate ≡ n
    → GroupCell p 0xF7 groups.Three c k n
unfolding by_prefix
whole_cell p c k n h f r b = record {
  row_is = chosen p 0xF7 (rows.Group groups.Three) three_row refl;
  cell_is = h;
  form_is = f;
  goes_on = r;
  bytes_are = b;
  apart_from_nop = refl;
}

pub three_byte_agrees : OneByteRowAgrees 0xF6
unfolding spelling.row
three_byte_agrees p bytes i rest e =
    by_reg p 0xF6 W8 (group_3 false W8) bytes i rest
    (eight (ExtensionAgrees p 0xF6 W8 (group_3 false W8) bytes i rest)
    (tests p 0xF6 groups.Three8 (the_cell words.Mb) false W8
    (byte_cell p (the_cell words.Mb) 0 1 (each_form _ refl refl) refl refl refl) bytes i rest)
    (λ to after m l h. absurd cc)
    (λ to after m l h. unary p 0xF6 groups.Three8 (the_cell words.Me) 2 W8
    (byte_cell p (the_cell words.Me) 2 0 (each_form _ refl refl) refl refl refl) refl
    (instrs.Unary Not W8 to) bytes i rest to after m l (λ set a. a) h)
    (λ to after m l h. unary p 0xF6 groups.Three8 (the_cell words.Me) 3 W8
    (byte_cell p (the_cell words.Me) 3 0 (each_form _ refl refl) refl refl refl) refl
    (instrs.Unary Negate W8 to) bytes i rest to after m l (λ set a. a) h)
    (λ to after m l h. absurd cc)
    (λ to after m l h. absurd cc)
    (λ to after m l h. absurd cc)
    (λ to after m l h. absurd cc)) e

-- a division, which is listed without 66 alone
divided : (p : Prefixes) (k : ℕ) → GroupCell p 0xF7 groups.Three (the_cell words.MAD) k 0
    → (t : Bool) (j : Instr) → written j ≡ 0 ∷ 2 ∷ [] → (bytes : List ℕ) (i : Instr)
    (rest : List ℕ) (to : RegisterOrMemory) (after : List ℕ) → ExtensionRead p bytes to k after
    → cond t (read_as j after) None ≡ Some (i, rest) → RowAgrees p OneByte 0xF7 bytes i rest
divided p k cell true j w bytes i rest to after m h =
    divides p 0xF7 groups.Three (the_cell words.MAD) k cell refl refl j w bytes i rest to after m h
divided p k cell false j w bytes i rest to after m h = absurd cc

pub three_whole_agrees : OneByteRowAgrees 0xF7
unfolding spelling.row
three_whole_agrees p bytes i rest e =
    let w = width_of p in
    let t = not p.operand_size in
    let whole = sym (wide_part (eqb (bit 3 p.rex) 1) p.operand_size) in
    by_reg p 0xF7 w (group_3 t w) bytes i rest
    (eight (ExtensionAgrees p 0xF7 w (group_3 t w) bytes i rest)
    (tests p 0xF7 groups.Three (the_cell words.Mz) t w
    (whole_cell p (the_cell words.Mz) 0 (bytes_of (immediate_of w))
    (each_form _ refl refl) refl refl
    (half_bytes_are (eqb (bit 3 p.rex) 1) p.operand_size)) bytes i rest)
    (λ to after m l h. absurd cc)
    (λ to after m l h. unary p 0xF7 groups.Three (the_cell words.ME) 2 w
    (whole_cell p (the_cell words.ME) 2 0 (each_form _ refl refl) refl refl refl) whole
    (instrs.Unary Not w to) bytes i rest to after m l (λ set a. a) h)
    (λ to after m l h. unary p 0xF7 groups.Three (the_cell words.ME) 3 w
    (whole_cell p (the_cell words.ME) 3 0 (each_form _ refl refl) refl refl refl) whole
    (instrs.Unary Negate w to) bytes i rest to after m l (λ set a. a) h)
    (λ to after m l h. absurd cc)
    (λ to after m l h. absurd cc)
    (λ to after m l h. divided p 6
    (whole_cell p (the_cell words.MAD) 6 0 (each_form _ refl refl) refl refl refl) t
    (instrs.Divide Unsigned w to) refl bytes i rest to after m h)
    (λ to after m l h. divided p 7
    (whole_cell p (the_cell words.MAD) 7 0 (each_form _ refl refl) refl refl refl) t
    (instrs.Divide Signed w to) refl bytes i rest to after m h)) e
