-- The law for more opcodes of one byte: single ones, relative jumps and calls, r, r/m.
use Rattle.std.proofs.Common.{◌≡◌, ◌<◌, ℕ, ◌+◌, ◌*◌, ◌/◌, ◌%◌, ◌^◌, Bool, true, false, not, cond, eqb, List, [], ◌∷◌, Option, Some, None, refl, sym, ap, subst, ◌∙◌, arith}
use Rattle.std.specs.Prelude.{◌&&◌}
use Rattle.seh_num.specs.declared.width.Width.{Width}
use Rattle.seh_num.specs.declared.width.Width.TheVariants.{W8, W32, W64}
use Rattle.seh_num.specs.Widths.{bytes_of}
use Rattle.x64_instr.specs.declared.prefixes.Prefixes.{Prefixes}
use Rattle.x64_instr.specs.declared.register.Reg.{Reg}
use Rattle.x64_instr.specs.declared.operand.RegisterOrMemory.{RegisterOrMemory}
use Rattle.x64_instr.specs.declared.operand.RegisterOrMemory.TheVariants as places
use Rattle.x64_instr.specs.declared.instruction.Condition.{Condition}
use Rattle.x64_instr.specs.declared.instruction.Extension.TheVariants.{Sign}
use Rattle.x64_instr.specs.declared.instruction.Instr.{Instr}
use Rattle.x64_instr.specs.declared.instruction.Instr.TheVariants as instrs
use Rattle.x64_instr.specs.declared.instruction.Target.TheVariants.{Relative}
use Rattle.x64_instr.specs.Registers as registers
use Rattle.x64_instr.specs.Reading.{◌>>=◌, number, signed, extended, bit}
use Rattle.x64_instr.specs.Operands.{width_of, register_of_reg_field, is_listed, rm_and_register}
use Rattle.x64_instr.specs.Spelling.{plain_row, r_rm, load, given, condition, jump_if}
use Rattle.x64_instr.specs.Spelling as spelling
use Rattle.x64_instr.proofs.Readers.{pair, bind_some}
use Rattle.x64_instr.proofs.RegisterNumbers.{number_register}
use Rattle.x64_maps.specs.declared.cell.Cell.{Cell}
use Rattle.x64_maps.specs.declared.cell.Row.TheVariants as rows
use Rattle.x64_maps.specs.declared.words.TheConstants as words
use Rattle.x64_lengths.specs.declared.spelled.Map.{Map}
use Rattle.x64_lengths.specs.declared.spelled.Map.TheVariants.{OneByte}
use Rattle.x64_lengths.specs.Maps.{row, row_of, has_form}
use Rattle.x64_lengths.specs.Places.{reg_field}
use Rattle.x64_lengths.specs.Effects.{effects_of, is_no_operation, part, place_part}
use Rattle.x64_lengths.specs.Measures.{immediate_bytes, is_relative}
use Rattle.x64_instr.specs.Written.{written}
use Rattle.x64_lengths.specs.Agreement.{AreIn, opcode_at, RowAgrees, PlainRowAgrees, OneByteRowAgrees}
use Rattle.x64_lengths.proofs.Rows.{eight, or_right, in_fixed, in_modrm, always, no_modrm}
use Rattle.x64_lengths.proofs.PlainRows.{the_cell, allowed, no_bytes}
use Rattle.x64_lengths.proofs.ModRmRows.{IsPlain, listed, part_of, rm_written, wide_part, modrm_of, modrm_agrees}

-- ---- single opcodes

ret_row : row OneByte 0xC3 ≡ rows.Always (the_cell words.tS)
unfolding row
ret_row = refl

pub ret : PlainRowAgrees 0xC3
unfolding plain_row
ret p bytes j rest s e =
    let c = the_cell words.tS in
    no_bytes p OneByte 0xC3 c instrs.Return bytes
    (no_modrm (opcode_at p OneByte 0xC3) c bytes 0 bytes (always p 0xC3 c ret_row) refl
    (allowed p 0xC3 c.ending refl) refl)
    (in_fixed (opcode_at p OneByte 0xC3) c None 4 refl refl, tt) j rest e

int3_row : row OneByte 0xCC ≡ rows.Always (the_cell words.NONE)
unfolding row
int3_row = refl

pub int3 : PlainRowAgrees 0xCC
unfolding plain_row
int3 p bytes j rest s e =
    let c = the_cell words.NONE in
    no_bytes p OneByte 0xCC c instrs.Breakpoint bytes
    (no_modrm (opcode_at p OneByte 0xCC) c bytes 0 bytes (always p 0xCC c int3_row) refl
    (allowed p 0xCC c.ending refl) refl) tt j rest e

cdq_row : row OneByte 0x99 ≡ rows.Always (the_cell words.Wd)
unfolding row
cdq_row = refl

pub cdq : PlainRowAgrees 0x99
unfolding plain_row
cdq p bytes j rest s e =
    let c = the_cell words.Wd in
    no_bytes p OneByte 0x99 c (instrs.ExtendRax (width_of p)) bytes
    (no_modrm (opcode_at p OneByte 0x99) c bytes 0 bytes (always p 0x99 c cdq_row) refl
    (allowed p 0x99 c.ending refl) refl)
    (in_fixed (opcode_at p OneByte 0x99) c None 2 refl refl, tt) j rest e

-- ---- relative jumps and calls

-- a signed displacement is a number of the same bytes
pub record SignedRead (from : Width) (f : ℕ → Instr) (bytes : List ℕ) (i : Instr) (rest : List ℕ)
    : Type 0 where
  pub value : ℕ
  pub displacement : ℕ
  pub number_is : number (bytes_of from) bytes ≡ Some (value, rest)
  pub instr_is : f displacement ≡ i

pub signed_read : (from : Width) (f : ℕ → Instr) (bytes : List ℕ) (i : Instr) (rest : List ℕ)
    → (signed from W64 bytes >>= λ d. Some (f d.0, d.1)) ≡ Some (i, rest)
    → SignedRead from f bytes i rest
signed_read from f bytes i rest e =
    let b = bind_some (signed from W64 bytes) (λ d. Some (f d.0, d.1)) (i, rest) e in
    let q = pair (f b.0.0) i b.0.1 rest b.2 in
    let n = bind_some (number (bytes_of from) bytes) (λ v. Some (extended from W64 v.0, v.1)) b.0
    b.1 in
    let r = pair (extended from W64 n.0.0) b.0.0 n.0.1 b.0.1 n.2 in
    record {
      value = n.0.0;
      displacement = b.0.0;
      number_is = n.1 ∙ ap (λ (t : List ℕ). Some (n.0.0, t)) (r.1 ∙ q.1);
      instr_is = q.0;
    }

pub allowed_without_66 : (size relative : Bool) → size ≡ false → (not
    (size && relative) && true) ≡ true
allowed_without_66 size relative e = ap (λ t. not (t && relative) && true) e

pub half_is_four : (wide size : Bool) → size ≡ false
    → ◌≡◌ {A = ℕ} (cond wide 4 (cond size 2 4)) 4
half_is_four true size e = refl
half_is_four false size e = ap (λ t. cond t 2 4) e

-- a jump or a call by a signed displacement
pub relative : (p : Prefixes) (table : Map) (op : ℕ) (c : Cell) (from : Width) (f : ℕ → Instr)
    → row_of (opcode_at p table op) ≡ rows.Always c → has_form c.form ≡ false
    → immediate_bytes (opcode_at p table op) c.immediate ≡ bytes_of from
    → p.operand_size ≡ false → ((d : ℕ) → written (f d) ≡ []) → (bytes : List ℕ) (i : Instr)
    (rest : List ℕ) → (signed from W64 bytes >>= λ d. Some (f d.0, d.1)) ≡ Some (i, rest)
    → RowAgrees p table op bytes i rest
relative p table op c from f e form k size w bytes i rest h =
    let s = opcode_at p table op in
    let r = signed_read from f bytes i rest h in
    let n = immediate_bytes s c.immediate in
    record {
      effects = effects_of s c None n r.value;
      is_read = no_modrm s c bytes r.value rest e form
          (allowed_without_66 p.operand_size (is_relative c.ending) size)
          (ap (λ t. number t bytes) k ∙ r.number_is);
      all = subst (λ t. AreIn t (effects_of s c None n r.value).general)
          (sym (w r.displacement) ∙ ap written r.instr_is) tt;
    }

call_row : row OneByte 0xE8 ≡ rows.Always (the_cell words.zc)
unfolding row
call_row = refl

pub call : PlainRowAgrees 0xE8
unfolding plain_row
call p bytes i rest s e =
    relative p OneByte 0xE8 (the_cell words.zc) W32 (λ d. instrs.Call (Relative d))
    (always p 0xE8 (the_cell words.zc) call_row) refl
    (half_is_four (eqb (bit 3 p.rex) 1) p.operand_size s) s (λ d. refl) bytes i rest e

jump_row : row OneByte 0xE9 ≡ rows.Always (the_cell words.zk)
unfolding row
jump_row = refl

pub jump : PlainRowAgrees 0xE9
unfolding plain_row
jump p bytes i rest s e =
    relative p OneByte 0xE9 (the_cell words.zk) W32 (λ d. instrs.Jump (Relative d))
    (always p 0xE9 (the_cell words.zk) jump_row) refl
    (half_is_four (eqb (bit 3 p.rex) 1) p.operand_size s) s (λ d. refl) bytes i rest e

short_row : row OneByte 0xEB ≡ rows.Always (the_cell words.bk)
unfolding row
short_row = refl

pub short : PlainRowAgrees 0xEB
unfolding plain_row
short p bytes i rest s e =
    relative p OneByte 0xEB (the_cell words.bk) W8 (λ d. instrs.Jump (Relative d)) (always p 0xEB
    (the_cell words.bk) short_row) refl
    refl s (λ d. refl) bytes i rest e

-- Jcc
jcc_low : (k : ℕ) → k < 8 → row OneByte (0x70 + k) ≡ rows.Always (the_cell words.bj)
unfolding row
jcc_low = eight (λ k. row OneByte (0x70 + k) ≡ rows.Always (the_cell words.bj))
    refl refl refl refl refl refl refl refl

jcc_high : (k : ℕ) → k < 8 → row OneByte (0x78 + k) ≡ rows.Always (the_cell words.bj)
unfolding row
jcc_high = eight (λ k. row OneByte (0x78 + k) ≡ rows.Always (the_cell words.bj))
    refl refl refl refl refl refl refl refl

pub jump_if_agrees : (p : Prefixes) (table : Map) (op : ℕ) (c : Cell) (from : Width)
    → row_of (opcode_at p table op) ≡ rows.Always c → has_form c.form ≡ false
    → immediate_bytes (opcode_at p table op) c.immediate ≡ bytes_of from
    → p.operand_size ≡ false → (bytes : List ℕ) (i : Instr) (rest : List ℕ)
    → jump_if from op bytes ≡ Some (i, rest) → RowAgrees p table op bytes i rest
jump_if_agrees p table op c from e form k s bytes i rest h = go (condition (op % 16)) h
  where
    go : (o : Option Condition) → (given o bytes >>= λ o. signed from W64 o.1 >>= λ d. Some
        (instrs.JumpIf o.0 d.0, d.1)) ≡ Some (i, rest) → RowAgrees p table op bytes i rest
    go None h = absurd cc
    go (Some o) h = relative p table op c from (λ d. instrs.JumpIf o d) e form k s
        (λ d. refl) bytes i rest h

jcc_is_low : (k : ℕ) → k < 8 → (p : Prefixes) (bytes : List ℕ)
    → plain_row p (0x70 + k) bytes ≡ jump_if W8 (0x70 + k) bytes
unfolding plain_row
jcc_is_low = eight (λ k. (p : Prefixes) (bytes : List ℕ)
    → plain_row p (0x70 + k) bytes ≡ jump_if W8 (0x70 + k) bytes)
    (λ p bytes. refl) (λ p bytes. refl) (λ p bytes. refl) (λ p bytes. refl)
    (λ p bytes. refl) (λ p bytes. refl) (λ p bytes. refl) (λ p bytes. refl)

jcc_is_high : (k : ℕ) → k < 8 → (p : Prefixes) (bytes : List ℕ)
    → plain_row p (0x78 + k) bytes ≡ jump_if W8 (0x78 + k) bytes
unfolding plain_row
jcc_is_high = eight (λ k. (p : Prefixes) (bytes : List ℕ)
    → plain_row p (0x78 + k) bytes ≡ jump_if W8 (0x78 + k) bytes)
    (λ p bytes. refl) (λ p bytes. refl) (λ p bytes. refl) (λ p bytes. refl)
    (λ p bytes. refl) (λ p bytes. refl) (λ p bytes. refl) (λ p bytes. refl)

pub jump_if_low : (k : ℕ) → k < 8 → PlainRowAgrees (0x70 + k)
jump_if_low k lt p bytes i rest s e =
    jump_if_agrees p OneByte (0x70 + k) (the_cell words.bj) W8
    (always p (0x70 + k) (the_cell words.bj) (jcc_low k lt)) refl refl s bytes i rest (sym
    (jcc_is_low k lt p bytes) ∙ e)

pub jump_if_high : (k : ℕ) → k < 8 → PlainRowAgrees (0x78 + k)
jump_if_high k lt p bytes i rest s e =
    jump_if_agrees p OneByte (0x78 + k) (the_cell words.bj) W8
    (always p (0x78 + k) (the_cell words.bj) (jcc_high k lt)) refl refl s bytes i rest (sym
    (jcc_is_high k lt p bytes) ∙ e)

-- ---- r, r/m

-- the register of ModRM's reg field is among those written where the cell says so
reg_number : (p : Prefixes) (m : ℕ) (reg : Reg) → register_of_reg_field p m ≡ reg
    → registers.number reg ≡ reg_field p m
reg_number p m reg e = ap registers.number (sym e)
    ∙ number_register (8 * (p.rex / 2 ^ 2 % 2) + m / 8 % 8) (omega arith)

part_has : (p : Prefixes) (w : Width) (m : ℕ) (reg : Reg) → register_of_reg_field p m ≡ reg
    → is_listed p w (places.Register reg) ≡ true
    → bit (registers.number reg) (part p.has_rex (part_of w) (registers.number reg)) ≡ 1
    → bit (registers.number reg) (part p.has_rex (part_of w) (reg_field p m)) ≡ 1
part_has p w m reg e l h =
    ap (λ n. bit (registers.number reg) (part p.has_rex (part_of w) n)) (sym (reg_number p m reg e))
    ∙ h

pub reg_written : (p : Prefixes) (table : Map) (op : ℕ) (c : Cell) (w : Width) (m : ℕ)
    (at : RegisterOrMemory)
    (reg : Reg) → is_no_operation (opcode_at p table op) ≡ false → c.reg ≡ part_of w
    → register_of_reg_field p m ≡ reg → is_listed p w (places.Register reg) ≡ true
    → AreIn (registers.number reg ∷ [])
    (effects_of (opcode_at p table op) c (Some (modrm_of p m at)) 0 0).general
reg_written p table op c w m at reg n e r l =
    let k = registers.number reg in (
      in_modrm (opcode_at p table op) c (Some (modrm_of p m at)) k n
          (or_right k (place_part p.has_rex c.rm at) (part p.has_rex c.reg (reg_field p m))
          (ap (λ t. bit k (part p.has_rex t (reg_field p m))) e
          ∙ part_has p w m reg r l (rm_written p w reg l))),
      tt,
    )

pub r_rm_agrees_by : (p : Prefixes) (table : Map) (op : ℕ) (c : Cell) (v w : Width)
    (made : Reg → RegisterOrMemory → Instr) → row_of (opcode_at p table op) ≡ rows.Always c
    → IsPlain c
    → ((m : ℕ) (at : RegisterOrMemory) (reg : Reg) → register_of_reg_field p m ≡ reg
    → is_listed p v (places.Register reg) ≡ true
    → AreIn (written (made reg at))
    (effects_of (opcode_at p table op) c (Some (modrm_of p m at)) 0 0).general)
    → (bytes : List ℕ) (i : Instr) (rest : List ℕ) → r_rm p v w made bytes ≡ Some (i, rest)
    → RowAgrees p table op bytes i rest
r_rm_agrees_by p table op c v w made e plain all bytes i rest h =
    let b = bind_some (rm_and_register p w v bytes)
    (λ x. Some (made x.0.1 x.0.0, x.1)) (i, rest) h in
    let q = pair (made b.0.0.1 b.0.0.0) i b.0.1 rest b.2 in
    let l = listed p w v bytes b.0.0.0 b.0.0.1 b.0.1 b.1 in
    subst (λ t. RowAgrees p table op bytes t rest) q.0
    (subst (λ t. RowAgrees p table op bytes (made b.0.0.1 b.0.0.0) t) q.1
    (modrm_agrees p table op c b.0.0.0 b.0.0.1 (made b.0.0.1 b.0.0.0) bytes b.0.1 e plain l.modrm
    (all l.modrm.first b.0.0.0 b.0.0.1 l.modrm.reg_is l.reg_is_listed)))

load_row_8 : row OneByte 0x8A ≡ rows.Always (the_cell words.Mg)
unfolding row
load_row_8 = refl

load_row : row OneByte 0x8B ≡ rows.Always (the_cell words.MG)
unfolding row
load_row = refl

pub load_byte : OneByteRowAgrees 0x8A
unfolding spelling.row
load_byte p bytes i rest e =
    r_rm_agrees_by p OneByte 0x8A (the_cell words.Mg) W8 W8 (load W8) (always p 0x8A
    (the_cell words.Mg) load_row_8)
    (record { form_is = refl; no_immediate = refl; goes_on = refl })
    (λ m at reg r l. reg_written p OneByte 0x8A (the_cell words.Mg) W8 m at reg refl refl r l)
    bytes i rest e

pub load_all : OneByteRowAgrees 0x8B
unfolding spelling.row
load_all p bytes i rest e =
    r_rm_agrees_by p OneByte 0x8B (the_cell words.MG) (width_of p) (width_of p) (load
    (width_of p)) (always p 0x8B (the_cell words.MG) load_row)
    (record { form_is = refl; no_immediate = refl; goes_on = refl })
    (λ m at reg r l. reg_written p OneByte 0x8B (the_cell words.MG) (width_of p) m at reg refl
    (sym (wide_part (eqb (bit 3 p.rex) 1) p.operand_size)) r l) bytes i rest e

-- MOVSXD
abbrev signed_to : Reg → RegisterOrMemory → Instr
signed_to to from = instrs.Extend Sign W64 to W32 from

sign_row : row OneByte 0x63 ≡ rows.Always (the_cell words.MG)
unfolding row
sign_row = refl

pub sign_extend_agrees : PlainRowAgrees 0x63
unfolding plain_row
sign_extend_agrees p bytes i rest s e = go (eqb (bit 3 p.rex) 1) e
  where
    go : (wide : Bool) → cond wide (r_rm p W64 W32 signed_to bytes) None ≡ Some (i, rest)
        → RowAgrees p OneByte 0x63 bytes i rest
    go true h = r_rm_agrees_by p OneByte 0x63 (the_cell words.MG) W64 W32 signed_to
        (always p 0x63 (the_cell words.MG) sign_row)
        (record { form_is = refl; no_immediate = refl; goes_on = refl })
        (λ m at reg r l. reg_written p OneByte 0x63 (the_cell words.MG) W64 m at reg refl refl r l)
        bytes i rest h
    go false h = absurd cc
