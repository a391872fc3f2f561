-- Epilogues of the forms that and_parts unwinders know, as each of them reads them.
use Rattle.std.proofs.Common.{◌≡◌, ℕ, zero, suc, ◌+◌, ◌-◌, ◌*◌, ◌/◌, ◌%◌, ◌^◌, ◌<◌, Bool, true, false, not, ◌&&◌, ◌||◌, ◌==◌, nat_le, if◌then◌else◌, List, [], ◌∷◌, length, option_map, Option, Some, None, Ok, refl, sym, ap, subst, ◌∙◌, arith}
use Rattle.std.proofs.lemmas.Bool.{and_parts, eqb-true, eq-eqb, ne_eqb}
use Rattle.seh_num.specs.declared.width.Width.TheVariants.{W8, W32, W64}
use Rattle.seh_num.specs.Answers.{◌>>=◌}
use Rattle.flat_memory.specs.Memory.{Memory}
use Rattle.pe_image.specs.Field.{field}
use Rattle.x64_instr.specs.declared.register.Reg.TheVariants.{Rsp}
use Rattle.x64_instr.specs.declared.operand.Base.TheVariants as bases
use Rattle.x64_instr.specs.declared.operand.RegisterOrMemory.TheVariants as places
use Rattle.x64_instr.specs.declared.operand.Operand.TheVariants as operands
use Rattle.x64_instr.specs.declared.instruction.Operation.TheVariants as operations
use Rattle.x64_instr.specs.declared.instruction.Target.TheVariants.{Indirect}
use Rattle.x64_instr.specs.declared.instruction.Instr.{Instr}
use Rattle.x64_instr.specs.declared.instruction.Instr.TheVariants as instrs
use Rattle.x64_instr.specs.Operands.{place}
use Rattle.x64_instr.specs.Registers.{register, number}
use Rattle.x64_instr.specs.Reading.{Read, bit, extended}
use Rattle.x64_instr.specs.Spelling.{instr, leading, after_size, after_prefixes, row, plain_row}
use Rattle.x64_instr.proofs.RegisterNumbers.{number_register}
use Rattle.x64_machine.specs.declared.context.Context.{Context}
use Rattle.virtual_unwind.specs.Contexts.{get, set, rsp, with_rsp, rsp_raised}
use Rattle.virtual_unwind.specs.Undone.{word, popped}
use Rattle.virtual_unwind.specs.declared.tail.Role.TheVariants.{Opens, Ends}
use Rattle.virtual_unwind.specs.Tail as profile
use Rattle.virtual_unwind.specs.Tail.{FetchedInstr, item_of, is_plain, role_of, left_by}
use Rattle.abi_unwind.specs.declared.tail.Part.{Part}
use Rattle.abi_unwind.specs.declared.tail.Part.TheVariants.{Raise, FromFrame, Restore}
use Rattle.abi_unwind.specs.declared.tail.End.TheVariants.{Certain}
use Rattle.abi_unwind.specs.Caller.{ran_one}
use Rattle.abi_unwind.specs.Laws.{is_plain_end}
use Rattle.abi_unwind.specs.Tail.{byte, short, long, sized, is_add, is_lea, popping, opening, end_at}

-- what the leading bytes spell, as an item
abbrev pub item : List ℕ → Option FetchedInstr
item b = item_of b (leading b)

-- ---- pops

-- one byte: the eight opcodes from 58 on
pub pop_spelled : (k : ℕ) (rest : List ℕ) → k < 8
    → instr ((88 + k) ∷ rest) ≡ Some (instrs.Pop (register k), rest)
unfolding instr after_size after_prefixes row plain_row
pop_spelled zero rest h = refl
pop_spelled (suc zero) rest h = refl
pop_spelled (suc (suc zero)) rest h = refl
pop_spelled (suc (suc (suc zero))) rest h = refl
pop_spelled (suc (suc (suc (suc zero)))) rest h = refl
pop_spelled (suc (suc (suc (suc (suc zero))))) rest h = refl
pop_spelled (suc (suc (suc (suc (suc (suc zero)))))) rest h = refl
pop_spelled (suc (suc (suc (suc (suc (suc (suc zero))))))) rest h = refl
pop_spelled (suc (suc (suc (suc (suc (suc (suc (suc k)))))))) rest h = absurd (omega arith)

-- the same after a REX prefix
pop_row : (x k : ℕ) (rest : List ℕ) → k < 8
    → after_prefixes (record { operand_size = false; has_rex = true; rex = x }) (88 + k) rest
    ≡ Some (instrs.Pop (register (8 * bit 0 x + k)), rest)
unfolding after_prefixes row plain_row
pop_row x zero rest h = refl
pop_row x (suc zero) rest h = refl
pop_row x (suc (suc zero)) rest h = refl
pop_row x (suc (suc (suc zero))) rest h = refl
pop_row x (suc (suc (suc (suc zero)))) rest h = refl
pop_row x (suc (suc (suc (suc (suc zero))))) rest h = refl
pop_row x (suc (suc (suc (suc (suc (suc zero)))))) rest h = refl
pop_row x (suc (suc (suc (suc (suc (suc (suc zero))))))) rest h = refl
pop_row x (suc (suc (suc (suc (suc (suc (suc (suc k)))))))) rest h = absurd (omega arith)

prefixed : (r a : ℕ) (rest : List ℕ) → r / 16 ≡ 4
    → instr (r ∷ a ∷ rest)
    ≡ after_prefixes (record { operand_size = false; has_rex = true; rex = r % 16 }) a rest
unfolding instr after_size
prefixed r a rest e =
    let no : (r == 0x66) ≡ false = ne_eqb r 0x66 (λ q. absurd (omega arith)) in
    let yes : (r / 16 == 4) ≡ true = eq-eqb (r / 16) 4 e in
    rw (no, yes)

rex_pop_spelled : (r a : ℕ) (rest : List ℕ) → r / 16 ≡ 4 → a / 8 ≡ 11
    → instr (r ∷ a ∷ rest) ≡ Some (instrs.Pop (register (8 * (r % 2) + a % 8)), rest)
rex_pop_spelled r a rest e h =
    let is : a ≡ 88 + a % 8 = omega arith in
    let low : 8 * bit 0 (r % 16) + a % 8 ≡ 8 * (r % 2) + a % 8 = omega arith in
    prefixed r a rest e
    ∙ ap (λ x. after_prefixes
    (record { operand_size = false; has_rex = true; rex = r % 16 }) x rest) is
    ∙ pop_row (r % 16) (a % 8) rest (omega arith)
    ∙ ap (λ x. Some (instrs.Pop (register x), rest)) low

-- ---- an item by its bytes

abbrev pub made : List ℕ → Instr → ℕ → Option FetchedInstr
made b i k = Some (record { instr = i; size = k; plain = is_plain b k i })

abbrev shown : List ℕ → Read Instr → Option FetchedInstr
shown b r = item_of b (option_map (λ x. (x.0, length b - length x.1)) r)

pub item_is : (b rest : List ℕ) (i : Instr) (k : ℕ) → instr b ≡ Some (i, rest)
    → length b - length rest ≡ k → item b ≡ made b i k
item_is b rest i k e n = ap (shown b) e ∙ ap (made b i) n

one_pair : {x y : ℕ × ℕ} → Some x ≡ Some y → x ≡ y
one_pair e = cc

-- the register and the length, by what the first two bytes are
abbrev popped_if : Bool → Bool → List ℕ → Option (ℕ × ℕ)
popped_if t u b =
    if t then Some (byte 0 b % 8, 1)
    else (if u then Some (8 * (byte 0 b % 2) + byte 1 b % 8, 2) else None)

abbrev is_rex_pop : List ℕ → Bool
is_rex_pop b = (byte 0 b / 16 == 4) && (byte 1 b / 8 == 0x0B)

pop_cases : (a : ℕ) (rest : List ℕ) (r k : ℕ) (t u : Bool) → (a / 8 == 11) ≡ t
    → is_rex_pop (a ∷ rest) ≡ u → popped_if t u (a ∷ rest) ≡ Some (r, k)
    → item (a ∷ rest) ≡ made (a ∷ rest) (instrs.Pop (register r)) k
pop_cases a rest r k true u p q e =
    let one : a / 8 ≡ 11 = eqb-true (a / 8) 11 p in
    let is : a ≡ 88 + a % 8 = omega arith in
    let which : a % 8 ≡ r = ap (λ (x : ℕ × ℕ). x.0) (one_pair e) in
    let size : 1 ≡ k = ap (λ (x : ℕ × ℕ). x.1) (one_pair e) in
    let len : length (a ∷ rest) - length rest ≡ 1 = omega arith in
    item_is (a ∷ rest) rest (instrs.Pop (register r)) k
    (ap (λ x. instr (x ∷ rest)) is ∙ pop_spelled (a % 8) rest (omega arith)
    ∙ ap (λ x. Some (instrs.Pop (register x), rest)) which)
    (len ∙ size)
pop_cases a [] r k false true p q e = absurd (no_byte (a / 16 == 4) q)
  where
    no_byte : (x : Bool) → (x && false) ≡ true → ⊥
    no_byte true h = absurd cc
    no_byte false h = absurd cc
pop_cases a (b ∷ rest) r k false true p q e =
    let parts = and_parts (a / 16 == 4) (b / 8 == 11) q in
    let rex : a / 16 ≡ 4 = eqb-true (a / 16) 4 parts.0 in
    let op : b / 8 ≡ 11 = eqb-true (b / 8) 11 parts.1 in
    let which : 8 * (a % 2) + b % 8 ≡ r = ap (λ (x : ℕ × ℕ). x.0) (one_pair e) in
    let size : 2 ≡ k = ap (λ (x : ℕ × ℕ). x.1) (one_pair e) in
    let len : length (a ∷ b ∷ rest) - length rest ≡ 2 = omega arith in
    item_is (a ∷ b ∷ rest) rest (instrs.Pop (register r)) k
    (rex_pop_spelled a b rest rex op ∙ ap (λ x. Some (instrs.Pop (register x), rest)) which)
    (len ∙ size)
pop_cases a rest r k false false p q e = absurd cc

pub pop_item : (b : List ℕ) (r k : ℕ) → popping b ≡ Some (r, k)
    → item b ≡ made b (instrs.Pop (register r)) k
pop_item [] r k e = absurd cc
pop_item (a ∷ rest) r k e =
    pop_cases a rest r k (a / 8 == 11) (is_rex_pop (a ∷ rest)) refl refl e

register_small : (b : List ℕ) (r k : ℕ) → popping b ≡ Some (r, k) → r < 16
register_small b r k e = go (byte 0 b / 8 == 0x0B) (is_rex_pop b) e
  where
    go : (t u : Bool) → popped_if t u b ≡ Some (r, k) → r < 16
    go true u h =
        let which : byte 0 b % 8 ≡ r = ap (λ (x : ℕ × ℕ). x.0) (one_pair h) in omega arith
    go false true h =
        let which : 8 * (byte 0 b % 2) + byte 1 b % 8 ≡ r =
        ap (λ (x : ℕ × ℕ). x.0) (one_pair h) in omega arith
    go false false h = absurd cc

pub pop_does : (m : Memory) (c : Context) (b : List ℕ) (r k : ℕ) → popping b ≡ Some (r, k)
    → left_by m (instrs.Pop (register r)) c ≡ ran_one m c (Restore r)
pop_does m c b r k e =
    ap (λ n. word m (rsp c) >>= λ v. Ok (set (rsp_raised c 8) n v))
    (number_register r (register_small b r k e))

-- ---- what comes first

pub record Opened (f : ℕ) (b : List ℕ) (p : Part) (k : ℕ) : Type 0 where
  pub instr : Instr
  pub is : item b ≡ made b instr k
  pub opens : (plain : Bool) → role_of f plain instr ≡ Opens
  pub does : (m : Memory) (c : Context) → left_by m instr c ≡ ran_one m c p

abbrev added : ℕ → Instr
added n = instrs.Arithmetic operations.Add W64 (places.Register Rsp) (operands.Immediate n)

add_opened : (f : ℕ) (b : List ℕ) (n k : ℕ) → item b ≡ made b (added n) k → Opened f b (Raise n) k
add_opened f b n k e = record {
  instr = added n;
  is = e;
  opens = λ plain. refl;
  does = λ m c. refl;
}

short_add_spelled : (d : ℕ) (rest : List ℕ) → instr (0x48 ∷ 0x83 ∷ 0xC4 ∷ d ∷ rest)
    ≡ Some (added (extended W8 W64 (d + 256 * 0)), rest)
unfolding instr after_size after_prefixes row place
short_add_spelled d rest = refl

long_add_spelled : (a b c d : ℕ) (rest : List ℕ)
    → instr (0x48 ∷ 0x81 ∷ 0xC4 ∷ a ∷ b ∷ c ∷ d ∷ rest)
    ≡ Some (added (extended W32 W64 (field 4 (0x48 ∷ 0x81 ∷ 0xC4 ∷ a ∷ b ∷ c ∷ d ∷ rest) 3)), rest)
unfolding instr after_size after_prefixes row place
long_add_spelled a b c d rest = refl

-- the three bytes of `add rsp`
add_bytes : (op x y z : ℕ) (rest : List ℕ) → is_add op (x ∷ y ∷ z ∷ rest) ≡ true
    → x ∷ y ∷ z ∷ rest ≡ 0x48 ∷ op ∷ 0xC4 ∷ rest
add_bytes op x y z rest e =
    let first = and_parts _ _ e in
    let others = and_parts _ _ first.1 in
    let one : x ≡ 0x48 = eqb-true x 0x48 first.0 in
    let two : y ≡ op = eqb-true y op others.0 in
    let three : z ≡ 0xC4 = eqb-true z 0xC4 others.1 in
    ap (λ v. v ∷ y ∷ z ∷ rest) one ∙ ap (λ v. 0x48 ∷ v ∷ z ∷ rest) two
    ∙ ap (λ v. 0x48 ∷ op ∷ v ∷ rest) three

short_add : (f : ℕ) (b : List ℕ) → is_add 0x83 b ≡ true → nat_le 4 (length b) ≡ true
    → Opened f b (Raise (short b 3)) 4
short_add f [] e n = absurd cc
short_add f (x ∷ []) e n = absurd cc
short_add f (x ∷ y ∷ []) e n = absurd cc
short_add f (x ∷ y ∷ z ∷ []) e n = absurd cc
short_add f (x ∷ y ∷ z ∷ d ∷ rest) e n =
    let plain : d + 256 * 0 ≡ d = omega arith in
    let len : length (x ∷ y ∷ z ∷ d ∷ rest) - length rest ≡ 4 = omega arith in
    add_opened f (x ∷ y ∷ z ∷ d ∷ rest) (extended W8 W64 d) 4
    (item_is (x ∷ y ∷ z ∷ d ∷ rest) rest (added (extended W8 W64 d)) 4
    (ap instr (add_bytes 0x83 x y z (d ∷ rest) e) ∙ short_add_spelled d rest
    ∙ ap (λ v. Some (added (extended W8 W64 v), rest)) plain) len)

long_add : (f : ℕ) (b : List ℕ) → is_add 0x81 b ≡ true → nat_le 7 (length b) ≡ true
    → Opened f b (Raise (long b 3)) 7
long_add f [] e n = absurd cc
long_add f (x ∷ []) e n = absurd cc
long_add f (x ∷ y ∷ []) e n = absurd cc
long_add f (x ∷ y ∷ z ∷ []) e n = absurd cc
long_add f (x ∷ y ∷ z ∷ a ∷ []) e n = absurd cc
long_add f (x ∷ y ∷ z ∷ a ∷ b ∷ []) e n = absurd cc
long_add f (x ∷ y ∷ z ∷ a ∷ b ∷ c ∷ []) e n = absurd cc
long_add f (x ∷ y ∷ z ∷ a ∷ b ∷ c ∷ d ∷ rest) e n =
    let len : length (x ∷ y ∷ z ∷ a ∷ b ∷ c ∷ d ∷ rest) - length rest ≡ 7 = omega arith in
    add_opened f (x ∷ y ∷ z ∷ a ∷ b ∷ c ∷ d ∷ rest)
    (extended W32 W64 (field 4 (a ∷ b ∷ c ∷ d ∷ rest) 0)) 7
    (item_is (x ∷ y ∷ z ∷ a ∷ b ∷ c ∷ d ∷ rest) rest
    (added (extended W32 W64 (field 4 (a ∷ b ∷ c ∷ d ∷ rest) 0))) 7
    (ap instr (add_bytes 0x81 x y z (a ∷ b ∷ c ∷ d ∷ rest) e) ∙ long_add_spelled a b c d rest) len)

abbrev leaded : ℕ → ℕ → Instr
leaded f n =
    instrs.LoadAddress W64 Rsp
    (record { base = bases.Register (register f); index = None; displacement = n })

lea_opened : (f : ℕ) (b : List ℕ) (n k : ℕ) → f < 16 → not (f == 0) ≡ true
    → item b ≡ made b (leaded f n) k → Opened f b (FromFrame f n) k
lea_opened f b n k small some e =
    let number_is : number (register f) ≡ f = number_register f small in
    record {
      instr = leaded f n;
      is = e;
      opens = λ plain. opens (f == 0) (number (register f) == f) some
          (eq-eqb (number (register f)) f number_is);
      does = λ m c. ap (λ r. Ok (with_rsp c ((get c r + n) % 2 ^ 64))) number_is;
    }
  where
    opens : (x y : Bool) → not x ≡ true → y ≡ true
        → profile.opening (if x then false else y) ≡ Opens
    opens true y h k = absurd cc
    opens false y h k = ap profile.opening k

-- REX 48 or 49, ModRM with that register as rm: all but those that a SIB byte follows
short_lea_spelled : (y low d : ℕ) (rest : List ℕ) → y < 2 → low < 8 → not (low == 4) ≡ true
    → instr ((0x48 + y) ∷ 0x8D ∷ (0x60 + low) ∷ d ∷ rest)
    ≡ Some (leaded (8 * y + low) (extended W8 W64 (d + 256 * 0)), rest)
unfolding instr after_size after_prefixes row plain_row place
short_lea_spelled zero zero d rest g h k = refl
short_lea_spelled zero (suc zero) d rest g h k = refl
short_lea_spelled zero (suc (suc zero)) d rest g h k = refl
short_lea_spelled zero (suc (suc (suc zero))) d rest g h k = refl
short_lea_spelled zero (suc (suc (suc (suc zero)))) d rest g h k = absurd cc
short_lea_spelled zero (suc (suc (suc (suc (suc zero))))) d rest g h k = refl
short_lea_spelled zero (suc (suc (suc (suc (suc (suc zero)))))) d rest g h k = refl
short_lea_spelled zero (suc (suc (suc (suc (suc (suc (suc zero))))))) d rest g h k = refl
short_lea_spelled zero (suc (suc (suc (suc (suc (suc (suc (suc n)))))))) d rest g h k =
    absurd (omega arith)
short_lea_spelled (suc zero) zero d rest g h k = refl
short_lea_spelled (suc zero) (suc zero) d rest g h k = refl
short_lea_spelled (suc zero) (suc (suc zero)) d rest g h k = refl
short_lea_spelled (suc zero) (suc (suc (suc zero))) d rest g h k = refl
short_lea_spelled (suc zero) (suc (suc (suc (suc zero)))) d rest g h k = absurd cc
short_lea_spelled (suc zero) (suc (suc (suc (suc (suc zero))))) d rest g h k = refl
short_lea_spelled (suc zero) (suc (suc (suc (suc (suc (suc zero)))))) d rest g h k = refl
short_lea_spelled (suc zero) (suc (suc (suc (suc (suc (suc (suc zero))))))) d rest g h k = refl
short_lea_spelled (suc zero) (suc (suc (suc (suc (suc (suc (suc (suc n)))))))) d rest g h k =
    absurd (omega arith)
short_lea_spelled (suc (suc n)) low d rest g h k =
    absurd (omega arith)

long_lea_spelled : (y low a b c d : ℕ) (rest : List ℕ) → y < 2 → low < 8 → not (low == 4) ≡ true
    → instr ((0x48 + y) ∷ 0x8D ∷ (0xA0 + low) ∷ a ∷ b ∷ c ∷ d ∷ rest)
    ≡ Some (leaded (8 * y + low) (extended W32 W64 (field 4 (a ∷ b ∷ c ∷ d ∷ rest) 0)), rest)
unfolding instr after_size after_prefixes row plain_row place
long_lea_spelled zero zero a b c d rest g h k = refl
long_lea_spelled zero (suc zero) a b c d rest g h k = refl
long_lea_spelled zero (suc (suc zero)) a b c d rest g h k = refl
long_lea_spelled zero (suc (suc (suc zero))) a b c d rest g h k = refl
long_lea_spelled zero (suc (suc (suc (suc zero)))) a b c d rest g h k = absurd cc
long_lea_spelled zero (suc (suc (suc (suc (suc zero))))) a b c d rest g h k = refl
long_lea_spelled zero (suc (suc (suc (suc (suc (suc zero)))))) a b c d rest g h k = refl
long_lea_spelled zero (suc (suc (suc (suc (suc (suc (suc zero))))))) a b c d rest g h k = refl
long_lea_spelled zero (suc (suc (suc (suc (suc (suc (suc (suc n)))))))) a b c d rest g h k =
    absurd (omega arith)
long_lea_spelled (suc zero) zero a b c d rest g h k = refl
long_lea_spelled (suc zero) (suc zero) a b c d rest g h k = refl
long_lea_spelled (suc zero) (suc (suc zero)) a b c d rest g h k = refl
long_lea_spelled (suc zero) (suc (suc (suc zero))) a b c d rest g h k = refl
long_lea_spelled (suc zero) (suc (suc (suc (suc zero)))) a b c d rest g h k = absurd cc
long_lea_spelled (suc zero) (suc (suc (suc (suc (suc zero))))) a b c d rest g h k = refl
long_lea_spelled (suc zero) (suc (suc (suc (suc (suc (suc zero)))))) a b c d rest g h k = refl
long_lea_spelled (suc zero) (suc (suc (suc (suc (suc (suc (suc zero))))))) a b c d rest g h k = refl
long_lea_spelled (suc zero) (suc (suc (suc (suc (suc (suc (suc (suc n)))))))) a b c d rest g h k =
    absurd (omega arith)
long_lea_spelled (suc (suc n)) low a b c d rest g h k =
    absurd (omega arith)

-- what the bytes of `lea rsp` are, where it is read so
pub record LeaBytes (f form x y z : ℕ) : Type 0 where
  pub rex : x ≡ 0x48 + x % 2
  pub op : y ≡ 0x8D
  pub modrm : z ≡ 64 * form + 32 + z % 8
  pub some : not (f == 0) ≡ true
  pub register : 8 * (x % 2) + z % 8 ≡ f

lea_bytes : (f form x y z : ℕ) (rest : List ℕ) → is_lea f form (x ∷ y ∷ z ∷ rest) ≡ true
    → LeaBytes f form x y z
lea_bytes f form x y z rest e =
    let p1 = and_parts _ _ e in
    let p2 = and_parts _ _ p1.1 in
    let p3 = and_parts _ _ p2.1 in
    let p4 = and_parts _ _ p3.1 in
    let p5 = and_parts _ _ p4.1 in
    let rex : x / 2 ≡ 0x24 = eqb-true _ _ p1.0 in
    let top : z / 64 ≡ form = eqb-true _ _ p3.0 in
    let reg : z / 8 % 8 ≡ 4 = eqb-true _ _ p4.0 in
    record {
      rex = omega arith;
      op = eqb-true _ _ p2.0;
      modrm = omega arith;
      some = p5.0;
      register = eqb-true _ _ p5.1;
    }

short_lea : (f : ℕ) (b : List ℕ) → not (f % 8 == 4) ≡ true → is_lea f 1 b ≡ true
    → nat_le 4 (length b) ≡ true → Opened f b (FromFrame f (short b 3)) 4
short_lea f [] s e n = absurd cc
short_lea f (x ∷ []) s e n = absurd cc
short_lea f (x ∷ y ∷ []) s e n = absurd cc
short_lea f (x ∷ y ∷ z ∷ []) s e n = absurd cc
short_lea f (x ∷ y ∷ z ∷ d ∷ rest) s e n =
    let w = lea_bytes f 1 x y z (d ∷ rest) e in
    let plain : d + 256 * 0 ≡ d = omega arith in
    let low : z % 8 ≡ f % 8 = omega (arith, w.register) in
    let len : length (x ∷ y ∷ z ∷ d ∷ rest) - length rest ≡ 4 = omega arith in
    let bytes : x ∷ y ∷ z ∷ d ∷ rest ≡ (0x48 + x % 2) ∷ 0x8D ∷ (0x60 + z % 8) ∷ d ∷ rest =
    ap (λ v. v ∷ y ∷ z ∷ d ∷ rest) w.rex ∙ ap (λ v. (0x48 + x % 2) ∷ v ∷ z ∷ d ∷ rest) w.op
    ∙ ap (λ v. (0x48 + x % 2) ∷ 0x8D ∷ v ∷ d ∷ rest) w.modrm in
    lea_opened f (x ∷ y ∷ z ∷ d ∷ rest) (extended W8 W64 d) 4 (omega (arith, w.register)) w.some
    (item_is (x ∷ y ∷ z ∷ d ∷ rest) rest (leaded f (extended W8 W64 d)) 4
    (ap instr bytes
    ∙ short_lea_spelled (x % 2) (z % 8) d rest (omega arith) (omega arith)
    (ap (λ v. not (v == 4)) low ∙ s)
    ∙ ap (λ v. Some (leaded v (extended W8 W64 (d + 256 * 0)), rest)) w.register
    ∙ ap (λ v. Some (leaded f (extended W8 W64 v), rest)) plain) len)

long_lea : (f : ℕ) (b : List ℕ) → not (f % 8 == 4) ≡ true → is_lea f 2 b ≡ true
    → nat_le 7 (length b) ≡ true → Opened f b (FromFrame f (long b 3)) 7
long_lea f [] s e n = absurd cc
long_lea f (x ∷ []) s e n = absurd cc
long_lea f (x ∷ y ∷ []) s e n = absurd cc
long_lea f (x ∷ y ∷ z ∷ []) s e n = absurd cc
long_lea f (x ∷ y ∷ z ∷ a ∷ []) s e n = absurd cc
long_lea f (x ∷ y ∷ z ∷ a ∷ b ∷ []) s e n = absurd cc
long_lea f (x ∷ y ∷ z ∷ a ∷ b ∷ c ∷ []) s e n = absurd cc
long_lea f (x ∷ y ∷ z ∷ a ∷ b ∷ c ∷ d ∷ rest) s e n =
    let w = lea_bytes f 2 x y z (a ∷ b ∷ c ∷ d ∷ rest) e in
    let by = extended W32 W64 (field 4 (a ∷ b ∷ c ∷ d ∷ rest) 0) in
    let low : z % 8 ≡ f % 8 = omega (arith, w.register) in
    let len : length (x ∷ y ∷ z ∷ a ∷ b ∷ c ∷ d ∷ rest) - length rest ≡ 7 = omega arith in
    let bytes : x ∷ y ∷ z ∷ a ∷ b ∷ c ∷ d ∷ rest
    ≡ (0x48 + x % 2) ∷ 0x8D ∷ (0xA0 + z % 8) ∷ a ∷ b ∷ c ∷ d ∷ rest =
    ap (λ v. v ∷ y ∷ z ∷ a ∷ b ∷ c ∷ d ∷ rest) w.rex
    ∙ ap (λ v. (0x48 + x % 2) ∷ v ∷ z ∷ a ∷ b ∷ c ∷ d ∷ rest) w.op
    ∙ ap (λ v. (0x48 + x % 2) ∷ 0x8D ∷ v ∷ a ∷ b ∷ c ∷ d ∷ rest) w.modrm in
    lea_opened f (x ∷ y ∷ z ∷ a ∷ b ∷ c ∷ d ∷ rest) by 7 (omega (arith, w.register)) w.some
    (item_is (x ∷ y ∷ z ∷ a ∷ b ∷ c ∷ d ∷ rest) rest (leaded f by) 7
    (ap instr bytes
    ∙ long_lea_spelled (x % 2) (z % 8) a b c d rest (omega arith) (omega arith)
    (ap (λ v. not (v == 4)) low ∙ s)
    ∙ ap (λ v. Some (leaded v by, rest)) w.register) len)

-- an opening of either form
one_part : {x y : Part × ℕ} → Some x ≡ Some y → x ≡ y
one_part e = cc

abbrev part_if : Bool → Part → ℕ → Option (Part × ℕ)
part_if t x n = if t then Some (x, n) else None

sized_is : (n : ℕ) (b : List ℕ) (x y : Part) (k : ℕ) → sized n b x ≡ Some (y, k)
    → (nat_le n (length b) ≡ true) × ((x ≡ y) × (n ≡ k))
sized_is n b x y k e = go (nat_le n (length b)) e
  where
    go : (t : Bool) → part_if t x n ≡ Some (y, k) → (t ≡ true) × ((x ≡ y) × (n ≡ k))
    go true h =
        (refl, (ap (λ (q : Part × ℕ). q.0) (one_part h), ap (λ (q : Part × ℕ). q.1) (one_part h)))
    go false h = absurd cc

moved : (f : ℕ) (b : List ℕ) (p q : Part) (n k : ℕ) → p ≡ q → n ≡ k → Opened f b p n
    → Opened f b q k
moved f b p q n k e g o =
    subst (λ (x : Part). Opened f b x k) e (subst (λ (x : ℕ). Opened f b p x) g o)

opening_cases : (f : ℕ) (b : List ℕ) (q : Part) (k : ℕ) (t1 t2 t3 t4 : Bool)
    → is_add 0x83 b ≡ t1 → is_add 0x81 b ≡ t2 → is_lea f 1 b ≡ t3 → is_lea f 2 b ≡ t4
    → not (f % 8 == 4) ≡ true
    → (if t1 then sized 4 b (Raise (short b 3)) else (if t2 then sized 7 b (Raise (long b 3))
    else (if t3 then sized 4 b (FromFrame f (short b 3))
    else (if t4 then sized 7 b (FromFrame f (long b 3)) else None)))) ≡ Some (q, k)
    → Opened f b q k
opening_cases f b q k true t2 t3 t4 e1 e2 e3 e4 s h =
    let w = sized_is 4 b (Raise (short b 3)) q k h in
    moved f b (Raise (short b 3)) q 4 k w.1.0 w.1.1 (short_add f b e1 w.0)
opening_cases f b q k false true t3 t4 e1 e2 e3 e4 s h =
    let w = sized_is 7 b (Raise (long b 3)) q k h in
    moved f b (Raise (long b 3)) q 7 k w.1.0 w.1.1 (long_add f b e2 w.0)
opening_cases f b q k false false true t4 e1 e2 e3 e4 s h =
    let w = sized_is 4 b (FromFrame f (short b 3)) q k h in
    moved f b (FromFrame f (short b 3)) q 4 k w.1.0 w.1.1 (short_lea f b s e3 w.0)
opening_cases f b q k false false false true e1 e2 e3 e4 s h =
    let w = sized_is 7 b (FromFrame f (long b 3)) q k h in
    moved f b (FromFrame f (long b 3)) q 7 k w.1.0 w.1.1 (long_lea f b s e4 w.0)
opening_cases f b q k false false false false e1 e2 e3 e4 s h = absurd cc

pub opened_alike : (f : ℕ) (b : List ℕ) (q : Part) (k : ℕ) → not (f % 8 == 4) ≡ true
    → opening f b ≡ Some (q, k) → Opened f b q k
opened_alike f b q k s e =
    opening_cases f b q k (is_add 0x83 b) (is_add 0x81 b) (is_lea f 1 b) (is_lea f 2 b)
    refl refl refl refl s e
