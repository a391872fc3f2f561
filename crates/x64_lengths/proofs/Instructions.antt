-- Instructions are read by readers: each takes a front of the bytes, whatever follows.
use Rattle.std.proofs.Common.{◌≡◌, ℕ, ◌+◌, ◌-◌, ◌*◌, ◌/◌, ◌%◌, Bool, true, false, cond, eqb, List, [], ◌∷◌, ◌++◌, Option, Some, None, refl, sym, ap, subst, ◌∙◌, arith, length, take, length-append}
use Rattle.std.specs.Prelude.{◌&&◌}
use Rattle.std.proofs.lemmas.List.{take_at, append-nil}
use Rattle.x64_instr.specs.declared.prefixes.Prefixes.{Prefixes}
use Rattle.x64_instr.specs.Reading.{Read, ◌>>=◌, byte, number, bit}
use Rattle.x64_instr.proofs.Readers.{Takes, IsReader, pair, byte-IsReader, done-IsReader, fail-IsReader, bind-IsReader, map-IsReader, if-IsReader, number-IsReader}
use Rattle.x64_instr.proofs.Table.{place-IsReader}
use Rattle.x64_maps.specs.declared.cell.Cell.{Cell}
use Rattle.x64_maps.specs.declared.cell.Form.{Form}
use Rattle.x64_maps.specs.declared.cell.Form.TheVariants as forms
use Rattle.x64_maps.specs.declared.cell.Row.{Row}
use Rattle.x64_lengths.specs.declared.places.ModRm.{ModRm}
use Rattle.x64_lengths.specs.declared.effects.Effects.{Effects}
use Rattle.x64_lengths.specs.declared.spelled.Map.{Map}
use Rattle.x64_lengths.specs.declared.spelled.Extended.{Extended}
use Rattle.x64_lengths.specs.declared.spelled.Map.TheVariants.{OneByte, TwoByte, ThreeByte38, ThreeByte3A}
use Rattle.x64_lengths.specs.declared.spelled.Legacy.{Legacy}
use Rattle.x64_lengths.specs.declared.spelled.Spelled.{Spelled}
use Rattle.x64_lengths.specs.Spelled.{is_legacy, with_prefix, no_legacy, legacy_prefixes, made, after_0F, opcode, with_rex, allows_vex, map_of, mandatory_of, after_vex, vex_extended, vex_2, vex_in, rex_of, vex_3, evex_extended, evex, after_first, after_legacy, prefixes_and_opcode}
use Rattle.x64_lengths.specs.Maps.{row_of, by_modrm, has_modrm, cell_of}
use Rattle.x64_lengths.specs.Places.{allows, place_of, reg_field, operands}
use Rattle.x64_lengths.specs.Effects.{effects_of}
use Rattle.x64_lengths.specs.Measures.{immediate_bytes, is_allowed, with_operands, with_modrm, without_modrm, with_row, instruction}

-- ---- operands

place_of-IsReader : (f : Form) (p : Prefixes) (m : ℕ) → IsReader (place_of f p m)
place_of-IsReader forms.AlwaysRegister p m = done-IsReader _
place_of-IsReader forms.Nothing p m = place-IsReader p m
place_of-IsReader forms.Any p m = place-IsReader p m
place_of-IsReader forms.Memory p m = place-IsReader p m
place_of-IsReader forms.Register p m = place-IsReader p m

operands-IsReader : (f : Form) (p : Prefixes) (m : ℕ) → IsReader (operands f p m)
operands-IsReader f p m = if-IsReader (allows f (m / 64)) _ _
    (map-IsReader (place_of f p m) (λ at. record { reg = reg_field p m; place = at })
    (place_of-IsReader f p m)) fail-IsReader

-- ---- the rest of an instruction

with_operands-IsReader : (s : Spelled) (c : Cell) (m : Option ModRm)
    → IsReader (with_operands s c m)
with_operands-IsReader s c m = if-IsReader (is_allowed s c.ending m) _ _
    (map-IsReader (number (immediate_bytes s c.immediate))
    (effects_of s c m (immediate_bytes s c.immediate))
    (number-IsReader (immediate_bytes s c.immediate))) fail-IsReader

with_modrm-IsReader : (s : Spelled) (c : Option Cell) (m : ℕ) → IsReader (with_modrm s c m)
with_modrm-IsReader s None m = fail-IsReader
with_modrm-IsReader s (Some c) m = bind-IsReader (operands c.form s.prefixes m)
    (λ x. with_operands s c (Some x)) (operands-IsReader c.form s.prefixes m)
    (λ x. with_operands-IsReader s c (Some x))

without_modrm-IsReader : (s : Spelled) (c : Option Cell) → IsReader (without_modrm s c)
without_modrm-IsReader s None = fail-IsReader
without_modrm-IsReader s (Some c) = with_operands-IsReader s c None

with_row-IsReader : (s : Spelled) (r : Row) → IsReader (with_row s r)
with_row-IsReader s r = if-IsReader (has_modrm r) _ _
    (bind-IsReader byte (λ m. with_modrm s (cell_of (by_modrm m r)) m) byte-IsReader
    (λ m. with_modrm-IsReader s (cell_of (by_modrm m r)) m)) (without_modrm-IsReader s (cell_of r))

-- ---- prefixes and opcode

after_0F-IsReader : (l : Legacy) (p : Prefixes) (b : ℕ) → IsReader (after_0F l p b)
after_0F-IsReader l p b = if-IsReader (eqb b 0x38) _ _
    (map-IsReader byte (made l p ThreeByte38) byte-IsReader)
    (if-IsReader (eqb b 0x3A) _ _ (map-IsReader byte (made l p ThreeByte3A) byte-IsReader)
    (done-IsReader (made l p TwoByte b)))

opcode-IsReader : (l : Legacy) (p : Prefixes) (b : ℕ) → IsReader (opcode l p b)
opcode-IsReader l p b = if-IsReader (eqb b 0x0F) _ _
    (bind-IsReader byte (after_0F l p) byte-IsReader (after_0F-IsReader l p))
    (done-IsReader (made l p OneByte b))

abbrev rex_prefixes : Legacy → ℕ → Prefixes
rex_prefixes l b = record { operand_size = l.operand_size; has_rex = true; rex = b % 16 }

abbrev no_rex : Legacy → Prefixes
no_rex l = record { operand_size = l.operand_size; has_rex = false; rex = 0 }

with_rex-IsReader : (l : Legacy) (b : ℕ) → IsReader (with_rex l b)
with_rex-IsReader l b = if-IsReader (eqb (b / 16) 4) _ _
    (bind-IsReader byte (opcode l (rex_prefixes l b)) byte-IsReader
    (opcode-IsReader l (rex_prefixes l b))) (opcode-IsReader l (no_rex l) b)

-- ---- VEX and EVEX

abbrev vex_spelled : Legacy → ℕ → Extended → Map → ℕ → ℕ → Spelled
vex_spelled l rex x m b op = record {
  legacy = l;
  prefixes = record { operand_size = false; has_rex = true; rex = rex };
  mandatory = mandatory_of (b % 4);
  extended = x;
  map = m;
  opcode = op;
}

after_vex-IsReader : (l : Legacy) (rex : ℕ) (x : Extended) (m : Map) (b : ℕ)
    → IsReader (after_vex l rex x m b)
after_vex-IsReader l rex x m b = map-IsReader byte (vex_spelled l rex x m b) byte-IsReader

vex_in-IsReader : (l : Legacy) (rex : ℕ) (x : Extended) (m : Option Map) (b : ℕ)
    → IsReader (vex_in l rex x m b)
vex_in-IsReader l rex x None b = fail-IsReader
vex_in-IsReader l rex x (Some m) b = after_vex-IsReader l rex x m b

vex_2-IsReader : (l : Legacy) → IsReader (vex_2 l)
vex_2-IsReader l = bind-IsReader byte
    (λ b. after_vex l (4 * (1 - b / 128)) (vex_extended b) TwoByte b) byte-IsReader
    (λ b. after_vex-IsReader l (4 * (1 - b / 128)) (vex_extended b) TwoByte b)

vex_3-IsReader : (l : Legacy) → IsReader (vex_3 l)
vex_3-IsReader l = bind-IsReader byte
    (λ a bytes. byte bytes >>= λ b. vex_in l (rex_of a b.0) (vex_extended b.0) (map_of (a % 32))
    b.0 b.1) byte-IsReader (λ a. bind-IsReader byte
    (λ b. vex_in l (rex_of a b) (vex_extended b) (map_of (a % 32)) b) byte-IsReader
    (λ b. vex_in-IsReader l (rex_of a b) (vex_extended b) (map_of (a % 32)) b))

abbrev evex_rest : Legacy → ℕ → ℕ → ℕ → List ℕ → Read Spelled
evex_rest l a b c bytes =
    cond (eqb (bit 2 b) 1)
    (vex_in l (rex_of a b) (evex_extended a b c) (map_of (a % 16)) b bytes) None

evex_rest-IsReader : (l : Legacy) (a b c : ℕ) → IsReader (evex_rest l a b c)
evex_rest-IsReader l a b c = if-IsReader (eqb (bit 2 b) 1) _ _
    (vex_in-IsReader l (rex_of a b) (evex_extended a b c) (map_of (a % 16)) b) fail-IsReader

evex-IsReader : (l : Legacy) → IsReader (evex l)
evex-IsReader l = bind-IsReader byte
    (λ a bytes. byte bytes >>= λ b. byte b.1 >>= λ c. evex_rest l a b.0 c.0 c.1) byte-IsReader
    (λ a. bind-IsReader byte (λ b bytes. byte bytes >>= λ c. evex_rest l a b c.0 c.1)
    byte-IsReader (λ b. bind-IsReader byte (evex_rest l a b) byte-IsReader
    (evex_rest-IsReader l a b)))

after_first-IsReader : (l : Legacy) (b : ℕ) → IsReader (after_first l b)
unfolding after_first
after_first-IsReader l b = if-IsReader (eqb b 0xC5 && allows_vex l) _ _ (vex_2-IsReader l)
    (if-IsReader (eqb b 0xC4 && allows_vex l) _ _ (vex_3-IsReader l)
    (if-IsReader (eqb b 0x62 && allows_vex l) _ _ (evex-IsReader l) (with_rex-IsReader l b)))

-- the opcode after legacy prefixes, which come after others
abbrev from : Legacy → List ℕ → Read Spelled
from l bytes = after_legacy (legacy_prefixes l bytes).0 (legacy_prefixes l bytes).1

abbrev stepped : Legacy → ℕ → List ℕ → Bool → Read Spelled
stepped l b bytes is =
    after_legacy (cond is (legacy_prefixes (with_prefix b l) bytes) (l, b ∷ bytes)).0
    (cond is (legacy_prefixes (with_prefix b l) bytes) (l, b ∷ bytes)).1

from-takes : (bytes : List ℕ) (l : Legacy) (x : Spelled) (rest : List ℕ)
    → from l bytes ≡ Some (x, rest) → Takes (from l) bytes x rest
from-takes [] l x rest e = absurd cc
from-takes (b ∷ bytes) l x rest e = go (is_legacy b) refl e
    (λ f. from-takes bytes (with_prefix b l) x rest f)
  where
    go : (is : Bool) → is_legacy b ≡ is → stepped l b bytes is ≡ Some (x, rest)
        → (from (with_prefix b l) bytes ≡ Some (x, rest)
        → Takes (from (with_prefix b l)) bytes x rest)
        → Takes (from l) (b ∷ bytes) x rest
    go true t f again =
        let taken = again f in
        record {
          front = b ∷ taken.front;
          whole = ap (λ (r : List ℕ). b ∷ r) taken.whole;
          alike = λ more. ap (stepped l b (taken.front ++ more)) t ∙ taken.alike more;
        }
    go false t f again =
        let taken = (after_first-IsReader l b).takes bytes x rest f in
        record {
          front = b ∷ taken.front;
          whole = ap (λ (r : List ℕ). b ∷ r) taken.whole;
          alike = λ more. ap (stepped l b (taken.front ++ more)) t ∙ taken.alike more;
        }

prefixes_and_opcode-IsReader : IsReader prefixes_and_opcode
unfolding prefixes_and_opcode
prefixes_and_opcode-IsReader = record {
  takes = λ bytes x rest e. from-takes bytes no_legacy x rest e;
}

instruction-IsReader : IsReader instruction
unfolding instruction
instruction-IsReader = bind-IsReader prefixes_and_opcode (λ s. with_row s (row_of s))
    prefixes_and_opcode-IsReader (λ s. with_row-IsReader s (row_of s))

-- ---- what follows

-- what is read is spelled by the bytes taken, whatever follows
pub found : (bytes : List ℕ) (x : Effects) (rest : List ℕ) → instruction bytes ≡ Some (x, rest)
    → (k : ℕ) × (k + length rest ≡ length bytes) × (instruction (take k bytes) ≡ Some (x, []))
found bytes x rest e =
    let t = instruction-IsReader.takes bytes x rest e in (
      length t.front,
      omega (arith, ap length t.whole, length-append t.front rest),
      subst (λ b. instruction (take (length t.front) b) ≡ Some (x, [])) (sym t.whole)
          (subst (λ b. instruction b ≡ Some (x, [])) (sym (take_at t.front rest (length t.front)
          refl)) (subst (λ b. instruction b ≡ Some (x, [])) (append-nil t.front) (t.alike []))),
    )

pub again : (x : Effects) (a more : List ℕ) → instruction a ≡ Some (x, [])
    → instruction (a ++ more) ≡ Some (x, more)
again x a more e =
    let t = instruction-IsReader.takes a x [] e in
    let same : a ≡ t.front = t.whole ∙ append-nil t.front in
    subst (λ b. instruction (b ++ more) ≡ Some (x, more)) (sym same) (t.alike more)

-- no instruction begins another, and the bytes say what it does
pub one_reading : (x y : Effects) (a more : List ℕ) → instruction a ≡ Some (x, [])
    → instruction (a ++ more) ≡ Some (y, []) → (more ≡ []) × (x ≡ y)
one_reading x y a more e f =
    let p = pair x y more [] (sym (again x a more e) ∙ f) in (p.1, p.0)
