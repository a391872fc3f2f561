-- The law for opcodes whose cell ModRM's reg field chooses.
use Rattle.std.proofs.Common.{◌≡◌, ℕ, ◌/◌, ◌%◌, Bool, true, false, cond, eqb, List, [], ◌∷◌, Some, None, refl, sym, ap, subst, ◌∙◌}
use Rattle.std.proofs.lemmas.Bool.{eqb-true}
use Rattle.seh_num.specs.declared.width.Width.{Width}
use Rattle.seh_num.specs.declared.width.Width.TheVariants.{W64}
use Rattle.x64_instr.specs.declared.prefixes.Prefixes.{Prefixes}
use Rattle.x64_instr.specs.declared.operand.RegisterOrMemory.{RegisterOrMemory}
use Rattle.x64_instr.specs.declared.instruction.Instr.{Instr}
use Rattle.x64_instr.specs.declared.instruction.Instr.TheVariants as instrs
use Rattle.x64_instr.specs.declared.instruction.Target.TheVariants.{Indirect}
use Rattle.x64_instr.specs.Reading.{Read, ◌>>=◌, number}
use Rattle.x64_instr.specs.Operands.{place, is_listed, modrm_with_opcode_extension, rm_and_opcode_extension}
use Rattle.x64_instr.specs.Spelling.{plain_row, rm_extension, group_5}
use Rattle.x64_instr.proofs.Readers.{pair, bind_some}
use Rattle.x64_maps.specs.declared.cell.Cell.{Cell}
use Rattle.x64_maps.specs.declared.cell.Form.TheVariants as forms
use Rattle.x64_maps.specs.declared.cell.Group.TheVariants as groups
use Rattle.x64_maps.specs.declared.cell.Row.{Row}
use Rattle.x64_maps.specs.declared.cell.Row.TheVariants as rows
use Rattle.x64_maps.specs.declared.words.TheConstants as words
use Rattle.x64_maps.specs.declared.groups.TheConstants.{GROUPS}
use Rattle.x64_lengths.specs.declared.spelled.Kind.TheVariants as kinds
use Rattle.x64_lengths.specs.declared.spelled.Mandatory.TheVariants as mandatories
use Rattle.x64_lengths.specs.declared.spelled.Map.{Map}
use Rattle.x64_lengths.specs.declared.spelled.Map.TheVariants.{OneByte}
use Rattle.std.specs.Prelude.{slice_index_or}
use Rattle.x64_lengths.specs.Spelled.{or_66}
use Rattle.x64_lengths.specs.Maps.{row, mask, by_prefix, row_of, by_modrm, group_number, has_modrm, cell_of, at}
use Rattle.x64_lengths.specs.Places.{operands}
use Rattle.x64_lengths.specs.Effects.{effects_of}
use Rattle.x64_lengths.specs.Measures.{immediate_bytes, is_relative, is_allowed, with_operands, with_modrm, without_modrm, with_row}
use Rattle.x64_instr.specs.Written.{written}
use Rattle.x64_lengths.specs.Agreement.{AreIn, opcode_at, RowAgrees, PlainRowAgrees}
use Rattle.x64_lengths.proofs.Rows.{one_byte_there}
use Rattle.x64_lengths.proofs.PlainRows.{the_cell}
use Rattle.x64_lengths.proofs.ModRmRows.{modrm_of, read_modrm, if_some, allowed_with}

-- ---- what the listed instructions read

pub record ExtensionRead (p : Prefixes) (bytes : List ℕ) (to : RegisterOrMemory) (ext : ℕ)
    (rest : List ℕ) : Type 0 where
  pub first : ℕ
  pub others : List ℕ
  pub whole : bytes ≡ first ∷ others
  pub place_is : place p first others ≡ Some (to, rest)
  pub ext_is : first / 8 % 8 ≡ ext

extension_read : (p : Prefixes) (bytes : List ℕ) (to : RegisterOrMemory) (ext : ℕ)
    (rest : List ℕ) → modrm_with_opcode_extension p bytes ≡ Some ((to, ext), rest)
    → ExtensionRead p bytes to ext rest
extension_read p [] to ext rest e = absurd cc
extension_read p (m ∷ bs) to ext rest e =
    let b = bind_some (place p m bs) (λ x. Some ((x.0, m / 8 % 8), x.1)) ((to, ext), rest) e in
    let q = pair (b.0.0, m / 8 % 8) (to, ext) b.0.1 rest b.2 in
    record {
      first = m;
      others = bs;
      whole = refl;
      place_is = b.1 ∙ ap (λ (x : RegisterOrMemory). Some (x, b.0.1))
          (ap (λ (x : RegisterOrMemory × ℕ). x.0) q.0)
          ∙ ap (λ (r : List ℕ). Some (to, r)) q.1;
      ext_is = ap (λ (x : RegisterOrMemory × ℕ). x.1) q.0;
    }

-- what is read of ModRM, and the rest by the group
pub record GroupRead (p : Prefixes) (w : Width) (made : ℕ → RegisterOrMemory → List ℕ → Read Instr)
    (bytes : List ℕ) (i : Instr) (rest : List ℕ) : Type 0 where
  pub to : RegisterOrMemory
  pub ext : ℕ
  pub after : List ℕ
  pub modrm : ExtensionRead p bytes to ext after
  pub is_listed_place : is_listed p w to ≡ true
  pub made_is : made ext to after ≡ Some (i, rest)

pub group_read : (p : Prefixes) (w : Width) (made : ℕ → RegisterOrMemory → List ℕ → Read Instr)
    (bytes : List ℕ) (i : Instr) (rest : List ℕ) → rm_extension p w made bytes ≡ Some (i, rest)
    → GroupRead p w made bytes i rest
group_read p w made bytes i rest e =
    let b = bind_some (rm_and_opcode_extension p w bytes) (λ x. made x.0.1 x.0.0 x.1) (i, rest) e in
    let d = bind_some (modrm_with_opcode_extension p bytes)
    (λ x. cond (is_listed p w x.0.0) (Some x) None) b.0 b.1 in
    let f = if_some (is_listed p w d.0.0.0) d.0 b.0 d.2 in
    record {
      to = b.0.0.0;
      ext = b.0.0.1;
      after = b.0.1;
      modrm = extension_read p bytes b.0.0.0 b.0.0.1 b.0.1
          (d.1 ∙ ap (λ (x : (RegisterOrMemory × ℕ) × List ℕ). Some x) f.1);
      is_listed_place = subst (λ (x : (RegisterOrMemory × ℕ) × List ℕ).
          is_listed p w x.0.0 ≡ true) f.1 f.0;
      made_is = b.2;
    }

-- ---- what the table reads

pub chosen : (p : Prefixes) (op : ℕ) (r : Row) → row OneByte op ≡ r
    → by_prefix kinds.Legacy (or_66 p.operand_size mandatories.Nothing) r ≡ r
    → row_of (opcode_at p OneByte op) ≡ r
unfolding mask
chosen p op r e f =
    let m = or_66 p.operand_size mandatories.Nothing in
    ap (λ b. cond b (by_prefix kinds.Legacy m (row OneByte op)) rows.Undefined)
    (one_byte_there p.operand_size)
    ∙ ap (by_prefix kinds.Legacy m) e ∙ f

-- what is read by a row with ModRM of which ModRM chooses the cell
pub any_row : (p : Prefixes) (table : Map) (op : ℕ) (r : Row) (c : Cell) (m : ℕ) (bs : List ℕ)
    (to : RegisterOrMemory) (after : List ℕ) (v : ℕ) (rest : List ℕ)
    → row_of (opcode_at p table op) ≡ r → has_modrm r ≡ true → by_modrm m r ≡ rows.Always c
    → c.form ≡ forms.Any → place p m bs ≡ Some (to, after)
    → is_allowed (opcode_at p table op) c.ending (Some (modrm_of p m to)) ≡ true
    → number (immediate_bytes (opcode_at p table op) c.immediate) after ≡ Some (v, rest)
    → with_row (opcode_at p table op) (row_of (opcode_at p table op)) (m ∷ bs)
    ≡ Some (
      effects_of (opcode_at p table op) c (Some (modrm_of p m to))
          (immediate_bytes (opcode_at p table op) c.immediate) v,
      rest,
    )
any_row p table op r c m bs to after v rest e h g f pl a n =
    let s = opcode_at p table op in
    let k = immediate_bytes s c.immediate in
    let x = modrm_of p m to in
    ap (λ r. with_row s r (m ∷ bs)) e
    ∙ ap (λ t. cond t (with_modrm s (cell_of (by_modrm m r)) m bs)
    (without_modrm s (cell_of r) (m ∷ bs))) h
    ∙ ap (λ t. with_modrm s (cell_of t) m bs) g
    ∙ ap (λ t. operands t p m bs >>= λ y. with_operands s c (Some y.0) y.1) f
    ∙ ap (λ (o : Read RegisterOrMemory). (o >>= λ z. read_modrm (modrm_of p m z.0) z.1) >>= λ y.
    with_operands s c (Some y.0) y.1) pl
    ∙ ap (λ b. cond b (number k after >>= λ v. Some (effects_of s c (Some x) k v.0, v.1)) None) a
    ∙ ap (λ (o : Read ℕ). o >>= λ v. Some (effects_of s c (Some x) k v.0, v.1)) n

-- ---- CALL /2 and JMP /4

five_row : row OneByte 0xFF ≡ rows.Group groups.Five
unfolding row
five_row = refl

five_stays : (p : Prefixes) → row_of (opcode_at p OneByte 0xFF) ≡ rows.Group groups.Five
unfolding by_prefix
five_stays p = chosen p 0xFF (rows.Group groups.Five) five_row refl

call_cell : (f : Bool) → at (slice_index_or GROUPS (group_number groups.Five) []) (cond f 1 0) 2
    ≡ rows.Always (the_cell words.ML)
call_cell true = refl
call_cell false = refl

jump_cell : (f : Bool) → at (slice_index_or GROUPS (group_number groups.Five) []) (cond f 1 0) 4
    ≡ rows.Always (the_cell words.MK)
jump_cell true = refl
jump_cell false = refl

call_by : (m : ℕ) → m / 8 % 8 ≡ 2 → by_modrm m (rows.Group groups.Five)
    ≡ rows.Always (the_cell words.ML)
unfolding by_modrm
call_by m e = ap (at (slice_index_or GROUPS (group_number groups.Five) []) (cond (eqb
    (m / 64) 3) 1 0)) e
    ∙ call_cell (eqb (m / 64) 3)

jump_by : (m : ℕ) → m / 8 % 8 ≡ 4 → by_modrm m (rows.Group groups.Five)
    ≡ rows.Always (the_cell words.MK)
unfolding by_modrm
jump_by m e = ap (at (slice_index_or GROUPS (group_number groups.Five) []) (cond (eqb
    (m / 64) 3) 1 0)) e
    ∙ jump_cell (eqb (m / 64) 3)

-- a cell of the group that has no immediate, for an instruction that writes nothing
five_reads : (p : Prefixes) (c : Cell) (i : Instr) (bytes : List ℕ) (to : RegisterOrMemory)
    (ext : ℕ) (rest : List ℕ) → written i ≡ []
    → (m : ExtensionRead p bytes to ext rest)
    → by_modrm m.first (rows.Group groups.Five) ≡ rows.Always c → c.form ≡ forms.Any
    → immediate_bytes (opcode_at p OneByte 0xFF) c.immediate ≡ 0 → is_relative c.ending ≡ false
    → RowAgrees p OneByte 0xFF bytes i rest
five_reads p c i bytes to ext rest w m g f k r =
    let s = opcode_at p OneByte 0xFF in
    let x = modrm_of p m.first to in
    subst (λ t. RowAgrees p OneByte 0xFF t i rest) (sym m.whole) (record {
      effects = effects_of s c (Some x) (immediate_bytes s c.immediate) 0;
      is_read = any_row p OneByte 0xFF (rows.Group groups.Five) c m.first m.others to rest 0 rest
          (five_stays p) refl g f m.place_is
          (allowed_with p.operand_size (is_relative c.ending) true r)
          (ap (λ t. number t rest) k);
      all = subst (λ t. AreIn t (effects_of s c (Some x) (immediate_bytes s c.immediate) 0).general)
          (sym w) tt;
    })

abbrev reads : Instr → List ℕ → Read Instr
reads i rest = Some (i, rest)

pub indirect : PlainRowAgrees 0xFF
unfolding plain_row
indirect p bytes i rest s e =
    let g = group_read p W64 group_5 bytes i rest e in
    go g (eqb g.ext 2) refl (eqb g.ext 4) refl g.made_is
  where
    go : (g : GroupRead p W64 group_5 bytes i rest) → (two : Bool) → eqb g.ext 2 ≡ two
        → (four : Bool) → eqb g.ext 4 ≡ four
        → cond two (reads (instrs.Call (Indirect g.to)) g.after)
        (cond four (reads (instrs.Jump (Indirect g.to)) g.after) None) ≡ Some (i, rest)
        → RowAgrees p OneByte 0xFF bytes i rest
    go g true t four u h =
        let q = pair (instrs.Call (Indirect g.to)) i g.after rest h in
        subst (λ z. RowAgrees p OneByte 0xFF bytes z rest) q.0
        (subst (λ z. RowAgrees p OneByte 0xFF bytes (instrs.Call (Indirect g.to)) z) q.1
        (five_reads p (the_cell words.ML) (instrs.Call (Indirect g.to)) bytes g.to g.ext g.after
        refl g.modrm (call_by g.modrm.first (g.modrm.ext_is ∙ eqb-true g.ext 2 t)) refl refl
        refl))
    go g false t true u h =
        let q = pair (instrs.Jump (Indirect g.to)) i g.after rest h in
        subst (λ z. RowAgrees p OneByte 0xFF bytes z rest) q.0
        (subst (λ z. RowAgrees p OneByte 0xFF bytes (instrs.Jump (Indirect g.to)) z) q.1
        (five_reads p (the_cell words.MK) (instrs.Jump (Indirect g.to)) bytes g.to g.ext g.after
        refl g.modrm (jump_by g.modrm.first (g.modrm.ext_is ∙ eqb-true g.ext 4 u)) refl refl
        refl))
    go g false t false u h = absurd cc
