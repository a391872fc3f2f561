-- What the table spells can be encoded, and is short.
use Rattle.std.proofs.Common.{◌≡◌, ℕ, ◌+◌, ◌-◌, ◌/◌, ◌%◌, ◌^◌, ◌<◌, ◌≤◌, Bool, true, false, cond, eqb, ltb, leb, List, [], Option, Some, refl, sym, ap, subst, ◌∙◌, arith, inl, inr}
use Rattle.std.specs.Prelude.{not, ◌&&◌, ◌||◌, ◌⊎◌}
use Rattle.std.proofs.lemmas.Bool.{eqb-true, and_parts, lt-ltb, ltb-true, true≢false}
use Rattle.x64_laws.specs.Words.{Width, W8, W16, W32, W64, bytes_of, limit, half, Reg, RegisterOrMemory, Prefixes, Instr, Read, ◌>>=◌, byte, bit, width_of, sized, sized_narrow, immediate_of, register_of_low_bits, rm_and_register, rm_and_opcode_extension, source, given, operation, direction, condition, group_1, group_11, test_immediate, group_3, group_2_immediate, group_2_cl, group_5, move_immediate, sign_extend, extend, load, multiply_by, address_to, load_address, jump_if, set_if, jump, call, no_operation, arithmetic_form, arithmetic_row, plain_row, row, extend_row, two_byte_row, after_prefixes, after_size, instr, is_place, is_wide, is_immediate, SpelledIsEncodable, SpelledIsShort}
use Rattle.x64_instr.specs.declared.operand.RegisterOrMemory.TheVariants as places
use Rattle.x64_instr.specs.declared.operand.Operand.TheVariants as operands
use Rattle.x64_instr.specs.declared.instruction.Operation.{Operation}
use Rattle.x64_instr.specs.declared.instruction.Unary.TheVariants.{Not, Negate}
use Rattle.x64_instr.specs.declared.instruction.Extension.{Extension}
use Rattle.x64_instr.specs.declared.instruction.Extension.TheVariants.{Sign, Zero}
use Rattle.x64_instr.specs.declared.instruction.Division.TheVariants.{Unsigned, Signed}
use Rattle.x64_instr.specs.declared.instruction.Count.TheVariants as counts
use Rattle.x64_instr.specs.declared.instruction.Target.TheVariants.{Relative, Indirect}
use Rattle.x64_instr.specs.declared.instruction.Instr.TheVariants as instrs
use Rattle.x64_instr.specs.Reading.{signed}
use Rattle.x64_instr.specs.Reading as reading
use Rattle.x64_laws.proofs.Lemmas.{limits}
use Rattle.x64_laws.proofs.Numbers.{half_at_most}
use Rattle.x64_laws.proofs.Giving.{Gives, at_most, byte-Gives, fail-Gives, bind-Gives, map-Gives, if-Gives, given-Gives, number-Gives, limit_is, both_true, signed-Gives}
use Rattle.x64_laws.proofs.SpelledOperands.{Anything, IsDisplacement, IsPlace, IsCode, byte_displacement, long_displacement, FirstIsPlace, rm_and_register-Gives, rm_and_opcode_extension-Gives, rm_r-Gives, r_rm-Gives, rm_extension-Gives, done_within}

-- ---- immediates

abbrev Immediate : Width → ℕ → Type 0
Immediate w v = is_immediate w v ≡ true

immediate-Gives : (w : Width) → Gives (Immediate w) 4 (signed (immediate_of w) w)
immediate-Gives W8 = at_most (Immediate W8) 1 4 (signed W8 W8) (omega arith)
    (signed-Gives W8 W8 W8 (omega arith) (omega arith))
immediate-Gives W16 = at_most (Immediate W16) 2 4 (signed W16 W16) (omega arith)
    (signed-Gives W16 W16 W16 (omega arith) (omega arith))
immediate-Gives W32 = signed-Gives W32 W32 W32 (omega arith) (omega arith)
immediate-Gives W64 = signed-Gives W32 W32 W64 (omega arith) (omega arith)

short_immediate-Gives : (w : Width) → Gives (Immediate w) 4 (signed W8 w)
short_immediate-Gives W8 = at_most (Immediate W8) 1 4 (signed W8 W8) (omega arith)
    (signed-Gives W8 W8 W8 (omega arith) (omega arith))
short_immediate-Gives W16 = at_most (Immediate W16) 1 4 (signed W8 W16) (omega arith)
    (signed-Gives W8 W16 W16 (omega arith) (omega arith))
short_immediate-Gives W32 = at_most (Immediate W32) 1 4 (signed W8 W32) (omega arith)
    (signed-Gives W8 W32 W32 (omega arith) (omega arith))
short_immediate-Gives W64 = at_most (Immediate W64) 1 4 (signed W8 W64) (omega arith)
    (signed-Gives W8 W32 W64 (omega arith) (omega arith))

immediate_narrow : (w : Width) → bytes_of (immediate_of w) ≤ bytes_of w
immediate_narrow W8 = omega arith
immediate_narrow W16 = omega arith
immediate_narrow W32 = omega arith
immediate_narrow W64 = omega arith

one_of : (a b c : Bool) → (a || (b && c)) ≡ true → (a ≡ true) ⊎ (c ≡ true)
one_of true b c e = inl refl
one_of false true c e = inr e
one_of false false c e = absurd (true≢false (sym e))

immediate_below : (w : Width) (v : ℕ) → Immediate w v → ltb v (limit w) ≡ true
immediate_below w v e = elim (one_of (ltb v (half (immediate_of w)))
    (leb (limit w - half (immediate_of w)) v) (ltb v (limit w)) e) [
      | inl l ↦
          let lt = ltb-true v (half (immediate_of w)) l in
          let le = half_at_most (immediate_of w) w (immediate_narrow w) in
          let two = limits w in
          lt-ltb v (limit w) (omega arith)
      | inr l ↦ l
    ]

-- ---- groups and rows, after the opcode

given_then : {A : Type 0} (o : Option A) (n : ℕ) (next : A → List ℕ → Read Instr)
    → ((x : A) → Gives IsCode n (next x)) → Gives IsCode n
    (λ bytes. given o bytes >>= λ p. next p.0 p.1)
given_then o n next h = at_most IsCode (0 + n) n (λ bytes. given o bytes >>= λ p. next p.0 p.1)
    (omega arith) (bind-Gives Anything IsCode 0 n (given o) next (given-Gives o) (λ x _. h x))

group_1-Gives : (from w : Width) (n : ℕ) (to : RegisterOrMemory)
    → Gives (Immediate w) 4 (signed from w) → IsPlace to → Gives IsCode 4 (group_1 from w n to)
group_1-Gives from w n to read is =
    given_then (operation n) 4 (λ o bytes. signed from w bytes
    >>= λ v. Some (instrs.Arithmetic o w to (operands.Immediate v.0), v.1))
    (λ o. map-Gives (Immediate w) IsCode 4 (signed from w)
    (λ v. instrs.Arithmetic o w to (operands.Immediate v)) read
    (λ v h. both_true (is_place to) (is_immediate w v) is h))

moved : (w : Width) (to : RegisterOrMemory) (v : ℕ) → IsPlace to → Immediate w v
    → IsCode (instrs.Move w to (operands.Immediate v))
moved w (places.Register r) v is h = immediate_below w v h
moved w (places.Memory m) v is h = both_true (is_place (places.Memory m)) (is_immediate w v) is h

group_11-Gives : (w : Width) (n : ℕ) (to : RegisterOrMemory) → IsPlace to
    → Gives IsCode 4 (group_11 w n to)
group_11-Gives w n to is =
    if-Gives IsCode 4 (eqb n 0) _ _
    (λ _. map-Gives (Immediate w) IsCode 4 (signed (immediate_of w) w)
    (λ v. instrs.Move w to (operands.Immediate v)) (immediate-Gives w) (λ v h. moved w to v is h))
    (λ _. fail-Gives IsCode 4)

test_immediate-Gives : (w : Width) (at : RegisterOrMemory) → IsPlace at
    → Gives IsCode 4 (test_immediate w at)
test_immediate-Gives w at is = map-Gives (Immediate w) IsCode 4 (signed (immediate_of w) w)
    (λ v. instrs.Test w at (operands.Immediate v)) (immediate-Gives w)
    (λ v h. both_true (is_place at) (is_immediate w v) is h)

group_3-Gives : (t : Bool) (w : Width) (n : ℕ) (at : RegisterOrMemory)
    → (t ≡ true → is_wide w ≡ true) → IsPlace at → Gives IsCode 4 (group_3 t w n at)
group_3-Gives t w n at wide is =
    if-Gives IsCode 4 (eqb n 0) _ _ (λ _. test_immediate-Gives w at is)
    (λ _. if-Gives IsCode 4 (eqb n 2) _ _ (λ _. done_within 4 (instrs.Unary Not w at) is)
    (λ _. if-Gives IsCode 4 (eqb n 3) _ _ (λ _. done_within 4 (instrs.Unary Negate w at) is)
    (λ _. if-Gives IsCode 4 (eqb n 6 && t) _ _
    (λ e. done_within 4 (instrs.Divide Unsigned w at)
    (both_true (is_wide w) (is_place at) (wide (and_parts (eqb n 6) t e).1) is))
    (λ _. if-Gives IsCode 4 (eqb n 7 && t) _ _
    (λ e. done_within 4 (instrs.Divide Signed w at)
    (both_true (is_wide w) (is_place at) (wide (and_parts (eqb n 7) t e).1) is))
    (λ _. fail-Gives IsCode 4)))))

group_2_immediate-Gives : (w : Width) (n : ℕ) (to : RegisterOrMemory) → is_wide w ≡ true
    → IsPlace to → Gives IsCode 4 (group_2_immediate w n to)
group_2_immediate-Gives w n to wide is =
    given_then (direction n) 4 (λ d bytes. byte bytes
    >>= λ c. Some (instrs.Shift d w to (counts.Immediate c.0), c.1))
    (λ d. at_most IsCode 1 4 _ (omega arith)
    (map-Gives (λ c. c < 256) IsCode 1 byte (λ c. instrs.Shift d w to (counts.Immediate c))
    byte-Gives
    (λ c lt. both_true (is_wide w) (is_place to && ltb c 256) wide
    (both_true (is_place to) (ltb c 256) is (lt-ltb c 256 lt)))))

group_2_cl-Gives : (w : Width) (n : ℕ) (to : RegisterOrMemory) → is_wide w ≡ true → IsPlace to
    → Gives IsCode 4 (group_2_cl w n to)
group_2_cl-Gives w n to wide is =
    given_then (direction n) 4 (λ d bytes. Some (instrs.Shift d w to counts.Cl, bytes))
    (λ d. done_within 4 (instrs.Shift d w to counts.Cl)
    (both_true (is_wide w) (is_place to && true) wide (both_true (is_place to) true is refl)))

group_5-Gives : (n : ℕ) (at : RegisterOrMemory) → IsPlace at → Gives IsCode 4 (group_5 n at)
group_5-Gives n at is =
    if-Gives IsCode 4 (eqb n 2) _ _ (λ _. done_within 4 (instrs.Call (Indirect at)) is)
    (λ _. if-Gives IsCode 4 (eqb n 4) _ _ (λ _. done_within 4 (instrs.Jump (Indirect at)) is)
    (λ _. fail-Gives IsCode 4))

few_bytes : (w : Width) → bytes_of w ≤ 8
few_bytes W8 = omega arith
few_bytes W16 = omega arith
few_bytes W32 = omega arith
few_bytes W64 = omega arith

move_immediate-Gives : (p : Prefixes) (op : ℕ) → Gives IsCode 10 (move_immediate p op)
move_immediate-Gives p op =
    let w = width_of p in
    at_most IsCode (bytes_of w) 10 (move_immediate p op) (let f = few_bytes w in omega arith)
    (map-Gives (λ v. v < 256 ^ bytes_of w) IsCode (bytes_of w) (reading.number (bytes_of w))
    (λ v. instrs.Move w (places.Register (register_of_low_bits p op)) (operands.Immediate v))
    (number-Gives (bytes_of w))
    (λ v h. lt-ltb v (limit w) (subst (λ (l : ℕ). v < l) (limit_is w) h)))

sign_extend-Gives : (p : Prefixes) → Gives IsCode 10 (sign_extend p)
sign_extend-Gives p =
    if-Gives IsCode 10 (eqb (bit 3 p.rex) 1) _ _
    (λ _. r_rm-Gives p W64 W32 (λ to from. instrs.Extend Sign W64 to W32 from) (λ r at h. h))
    (λ _. fail-Gives IsCode 10)

widened_by : (e : Extension) (w : Width) (b : Bool) (at : RegisterOrMemory) (r : Reg)
    → is_wide w ≡ true → IsPlace at → IsCode (instrs.Extend e w r (cond b W8 W16) at)
widened_by e w true at r wide is = both_true (is_wide w) (is_place at) wide is
widened_by e w false at r wide is = both_true (is_wide w) (is_place at) wide is

extend-Gives : (e : Extension) (p : Prefixes) (op : ℕ) → is_wide (width_of p) ≡ true
    → Gives IsCode 10 (extend e p op)
extend-Gives e p op wide =
    r_rm-Gives p (width_of p) (sized_narrow op)
    (λ to from. instrs.Extend e (width_of p) to (sized_narrow op) from)
    (λ r at h. widened_by e (width_of p) (eqb (op % 2) 0) at r wide h)

multiply_by-Gives : (p : Prefixes) (from : Width) → is_wide (width_of p) ≡ true
    → Gives (Immediate (width_of p)) 4 (signed from (width_of p))
    → Gives IsCode 10 (multiply_by p from)
multiply_by-Gives p from wide read =
    let w = width_of p in
    bind-Gives FirstIsPlace IsCode 6 4 (rm_and_register p w w)
    (λ x bytes. signed from w bytes >>= λ v. Some (instrs.MultiplyBy w x.1 x.0 v.0, v.1))
    (rm_and_register-Gives p w w)
    (λ x is. map-Gives (Immediate w) IsCode 4 (signed from w) (λ v. instrs.MultiplyBy w x.1 x.0 v)
    read
    (λ v h. both_true (is_wide w) (is_place x.0 && is_immediate w v) wide
    (both_true (is_place x.0) (is_immediate w v) is h)))

address_to-Gives : (w : Width) (to : Reg) (at : RegisterOrMemory) → is_wide w ≡ true → IsPlace at
    → Gives IsCode 4 (address_to w to at)
address_to-Gives w to (places.Memory m) wide is = done_within 4 (instrs.LoadAddress w to m)
    (both_true (is_wide w) (is_place (places.Memory m)) wide is)
address_to-Gives w to (places.Register r) wide is = fail-Gives IsCode 4

load_address-Gives : (p : Prefixes) → is_wide (width_of p) ≡ true → Gives IsCode 10 (load_address p)
load_address-Gives p wide =
    let w = width_of p in
    bind-Gives FirstIsPlace IsCode 6 4 (rm_and_register p w w) (λ x. address_to w x.1 x.0)
    (rm_and_register-Gives p w w) (λ x is. address_to-Gives w x.1 x.0 wide is)

abbrev near : Width → Type 0
near from = Gives IsDisplacement 4 (signed from W64)

jump_if-Gives : (from : Width) (op : ℕ) → near from → Gives IsCode 10 (jump_if from op)
jump_if-Gives from op read =
    at_most IsCode 4 10 _ (omega arith)
    (given_then (condition (op % 16)) 4 (λ c bytes. signed from W64 bytes
    >>= λ d. Some (instrs.JumpIf c d.0, d.1))
    (λ c. map-Gives IsDisplacement IsCode 4 (signed from W64) (λ d. instrs.JumpIf c d) read
    (λ d h. h)))

set_if-Gives : (p : Prefixes) (op : ℕ) → Gives IsCode 10 (set_if p op)
set_if-Gives p op =
    at_most IsCode 6 10 _ (omega arith)
    (given_then (condition (op % 16)) 6 (λ c bytes. rm_and_opcode_extension p W8 bytes
    >>= λ x. Some (instrs.Set c x.0.0, x.1))
    (λ c. map-Gives FirstIsPlace IsCode 6 (rm_and_opcode_extension p W8) (λ x. instrs.Set c x.0)
    (rm_and_opcode_extension-Gives p W8) (λ x is. is)))

jump-Gives : (from : Width) → near from → Gives IsCode 10 (jump from)
jump-Gives from read = at_most IsCode 4 10 (jump from) (omega arith)
    (map-Gives IsDisplacement IsCode 4 (signed from W64) (λ d. instrs.Jump (Relative d)) read
    (λ d h. h))

call-Gives : Gives IsCode 10 call
call-Gives = at_most IsCode 4 10 call (omega arith)
    (map-Gives IsDisplacement IsCode 4 (signed W32 W64) (λ d. instrs.Call (Relative d))
    long_displacement (λ d h. h))

no_operation-Gives : (p : Prefixes) → Gives IsCode 10 (no_operation p)
no_operation-Gives p = if-Gives IsCode 10 (eqb (bit 0 p.rex) 1) _ _ (λ _. fail-Gives IsCode 10)
    (λ _. done_within 10 instrs.NoOperation refl)

-- ---- the table

without_66 : (p : Prefixes) → p.operand_size ≡ false → is_wide (width_of p) ≡ true
without_66 p e =
    let by : (b : Bool) → is_wide (cond b W64 (cond p.operand_size W16 W32)) ≡ true =
    λ b. elim b as (λ c. is_wide (cond c W64 (cond p.operand_size W16 W32)) ≡ true)
    [ true ↦ refl | false ↦ ap (λ (s : Bool). is_wide (cond s W16 W32)) e ] in
    by (eqb (bit 3 p.rex) 1)

from_source : (o : Operation) (w : Width) (to : Reg) (at : RegisterOrMemory) → IsPlace at
    → IsCode (instrs.Arithmetic o w (places.Register to) (source at))
from_source o w to (places.Register r) is = refl
from_source o w to (places.Memory m) is = is

loaded : (w : Width) (to : Reg) (at : RegisterOrMemory) → IsPlace at → IsCode (load w to at)
loaded w to (places.Register r) is = refl
loaded w to (places.Memory m) is = is

arithmetic_form-Gives : (p : Prefixes) (o : Operation) (op : ℕ)
    → Gives IsCode 10 (arithmetic_form p o op)
arithmetic_form-Gives p o op =
    if-Gives IsCode 10 (eqb (op % 8 / 2) 0) _ _
    (λ _. rm_r-Gives p (sized p op) (instrs.Arithmetic o (sized p op)) (λ at r h. h))
    (λ _. if-Gives IsCode 10 (eqb (op % 8 / 2) 1) _ _
    (λ _. r_rm-Gives p (sized p op) (sized p op)
    (λ to from. instrs.Arithmetic o (sized p op) (places.Register to) (source from))
    (λ r at h. from_source o (sized p op) r at h))
    (λ _. fail-Gives IsCode 10))

arithmetic_row-Gives : (p : Prefixes) (op : ℕ) → Gives IsCode 10 (arithmetic_row p op)
arithmetic_row-Gives p op = given_then (operation (op / 8)) 10 (λ o. arithmetic_form p o op)
    (λ o. arithmetic_form-Gives p o op)

plain_row-Gives : (p : Prefixes) (op : ℕ) → is_wide (width_of p) ≡ true
    → Gives IsCode 10 (plain_row p op)
unfolding plain_row
plain_row-Gives p op wide =
    if-Gives IsCode 10 (eqb (op / 8) (0x50 / 8)) _ _
    (λ _. done_within 10 (instrs.Push (register_of_low_bits p op)) refl)
    (λ _. if-Gives IsCode 10 (eqb (op / 8) (0x58 / 8)) _ _
    (λ _. done_within 10 (instrs.Pop (register_of_low_bits p op)) refl)
    (λ _. if-Gives IsCode 10 (eqb op 0x63) _ _ (λ _. sign_extend-Gives p)
    (λ _. if-Gives IsCode 10 (eqb op 0x69) _ _
    (λ _. multiply_by-Gives p (immediate_of (width_of p)) wide (immediate-Gives (width_of p)))
    (λ _. if-Gives IsCode 10 (eqb op 0x6B) _ _
    (λ _. multiply_by-Gives p W8 wide (short_immediate-Gives (width_of p)))
    (λ _. if-Gives IsCode 10 (eqb (op / 16) (0x70 / 16)) _ _
    (λ _. jump_if-Gives W8 op byte_displacement)
    (λ _. if-Gives IsCode 10 (eqb op 0x8D) _ _ (λ _. load_address-Gives p wide)
    (λ _. if-Gives IsCode 10 (eqb op 0x90) _ _ (λ _. no_operation-Gives p)
    (λ _. if-Gives IsCode 10 (eqb op 0x99) _ _
    (λ _. done_within 10 (instrs.ExtendRax (width_of p)) wide)
    (λ _. if-Gives IsCode 10 (eqb op 0xC1) _ _
    (λ _. rm_extension-Gives p (width_of p) (group_2_immediate (width_of p))
    (λ n at h. group_2_immediate-Gives (width_of p) n at wide h))
    (λ _. if-Gives IsCode 10 (eqb op 0xC3) _ _ (λ _. done_within 10 instrs.Return refl)
    (λ _. if-Gives IsCode 10 (eqb op 0xCC) _ _ (λ _. done_within 10 instrs.Breakpoint refl)
    (λ _. if-Gives IsCode 10 (eqb op 0xD3) _ _
    (λ _. rm_extension-Gives p (width_of p) (group_2_cl (width_of p))
    (λ n at h. group_2_cl-Gives (width_of p) n at wide h))
    (λ _. if-Gives IsCode 10 (eqb op 0xE8) _ _ (λ _. call-Gives)
    (λ _. if-Gives IsCode 10 (eqb op 0xE9) _ _ (λ _. jump-Gives W32 long_displacement)
    (λ _. if-Gives IsCode 10 (eqb op 0xEB) _ _ (λ _. jump-Gives W8 byte_displacement)
    (λ _. if-Gives IsCode 10 (eqb op 0xFF) _ _
    (λ _. rm_extension-Gives p W64 group_5 (λ n at h. group_5-Gives n at h))
    (λ _. fail-Gives IsCode 10)))))))))))))))))

-- DIV and IDIV are in the row of F7 alone, without 66
wide_division : (p : Prefixes) (op : ℕ) → (eqb op 0xF7 && not p.operand_size) ≡ true
    → is_wide (sized p op) ≡ true
wide_division p op e =
    let parts = and_parts (eqb op 0xF7) (not p.operand_size) e in
    let plain = without_66 p (not_true p.operand_size parts.1) in
    ap (λ (n : ℕ). is_wide (sized p n)) (eqb-true op 0xF7 parts.0) ∙ plain
  where
    not_true : (b : Bool) → not b ≡ true → b ≡ false
    not_true true e = absurd (true≢false (sym e))
    not_true false e = refl

row-Gives : (p : Prefixes) (op : ℕ) → Gives IsCode 10 (row p op)
unfolding row
row-Gives p op =
    if-Gives IsCode 10 (eqb (op / 64) 0) _ _ (λ _. arithmetic_row-Gives p op)
    (λ _. if-Gives IsCode 10 (eqb (op / 2) (0x80 / 2)) _ _
    (λ _. rm_extension-Gives p (sized p op) (group_1 (immediate_of (sized p op)) (sized p op))
    (λ n at h. group_1-Gives (immediate_of (sized p op)) (sized p op) n at
    (immediate-Gives (sized p op)) h))
    (λ _. if-Gives IsCode 10 (eqb op 0x83) _ _
    (λ _. rm_extension-Gives p (width_of p) (group_1 W8 (width_of p))
    (λ n at h. group_1-Gives W8 (width_of p) n at (short_immediate-Gives (width_of p)) h))
    (λ _. if-Gives IsCode 10 (eqb (op / 2) (0x84 / 2)) _ _
    (λ _. rm_r-Gives p (sized p op) (instrs.Test (sized p op)) (λ at r h. h))
    (λ _. if-Gives IsCode 10 (eqb (op / 2) (0x88 / 2)) _ _
    (λ _. rm_r-Gives p (sized p op) (instrs.Move (sized p op)) (λ at r h. h))
    (λ _. if-Gives IsCode 10 (eqb (op / 2) (0x8A / 2)) _ _
    (λ _. r_rm-Gives p (sized p op) (sized p op) (load (sized p op))
    (λ r at h. loaded (sized p op) r at h))
    (λ _. if-Gives IsCode 10 (eqb (op / 8) (0xB8 / 8)) _ _ (λ _. move_immediate-Gives p op)
    (λ _. if-Gives IsCode 10 (eqb (op / 2) (0xC6 / 2)) _ _
    (λ _. rm_extension-Gives p (sized p op) (group_11 (sized p op))
    (λ n at h. group_11-Gives (sized p op) n at h))
    (λ _. if-Gives IsCode 10 (eqb (op / 2) (0xF6 / 2)) _ _
    (λ _. rm_extension-Gives p (sized p op)
    (group_3 (eqb op 0xF7 && not p.operand_size) (sized p op))
    (λ n at h. group_3-Gives (eqb op 0xF7 && not p.operand_size) (sized p op) n at
    (wide_division p op) h))
    (λ _. if-Gives IsCode 10 p.operand_size _ _ (λ _. fail-Gives IsCode 10)
    (λ e. plain_row-Gives p op (without_66 p e)))))))))))

extend_row-Gives : (p : Prefixes) (op : ℕ) → is_wide (width_of p) ≡ true
    → Gives IsCode 10 (extend_row p op)
extend_row-Gives p op wide =
    if-Gives IsCode 10 (eqb (op / 2) (0xB6 / 2)) _ _ (λ _. extend-Gives Zero p op wide)
    (λ _. if-Gives IsCode 10 (eqb (op / 2) (0xBE / 2)) _ _ (λ _. extend-Gives Sign p op wide)
    (λ _. fail-Gives IsCode 10))

two_byte_row-Gives : (p : Prefixes) (op : ℕ) → Gives IsCode 10 (two_byte_row p op)
unfolding two_byte_row
two_byte_row-Gives p op =
    if-Gives IsCode 10 p.operand_size _ _ (λ _. fail-Gives IsCode 10)
    (λ e. let wide = without_66 p e in
    if-Gives IsCode 10 (eqb op 0x0B) _ _ (λ _. done_within 10 instrs.Undefined refl)
    (λ _. if-Gives IsCode 10 (eqb (op / 16) (0x80 / 16)) _ _
    (λ _. jump_if-Gives W32 op long_displacement)
    (λ _. if-Gives IsCode 10 (eqb (op / 16) (0x90 / 16)) _ _ (λ _. set_if-Gives p op)
    (λ _. if-Gives IsCode 10 (eqb op 0xAF) _ _
    (λ _. r_rm-Gives p (width_of p) (width_of p) (instrs.Multiply (width_of p))
    (λ r at h. both_true (is_wide (width_of p)) (is_place at) wide h))
    (λ _. extend_row-Gives p op wide)))))

after_prefixes-Gives : (p : Prefixes) (b : ℕ) → Gives IsCode 11 (after_prefixes p b)
unfolding after_prefixes
after_prefixes-Gives p b =
    if-Gives IsCode 11 (eqb b 0x0F) _ _
    (λ _. bind-Gives (λ b. b < 256) IsCode 1 10 byte (two_byte_row p) byte-Gives
    (λ c _. two_byte_row-Gives p c))
    (λ _. at_most IsCode 10 11 (row p b) (omega arith) (row-Gives p b))

after_size-Gives : (size : Bool) (b : ℕ) → Gives IsCode 12 (after_size size b)
unfolding after_size
after_size-Gives size b =
    if-Gives IsCode 12 (eqb (b / 16) 4) _ _
    (λ _. bind-Gives (λ b. b < 256) IsCode 1 11 byte
    (after_prefixes (record { operand_size = size; has_rex = true; rex = b % 16 })) byte-Gives
    (λ c _. after_prefixes-Gives (record { operand_size = size; has_rex = true; rex = b % 16 })
    c))
    (λ _. at_most IsCode 11 12 _ (omega arith)
    (after_prefixes-Gives (record { operand_size = size; has_rex = false; rex = 0 }) b))

instr-Gives : Gives IsCode 14 instr
unfolding instr
instr-Gives =
    bind-Gives (λ b. b < 256) IsCode 1 13 byte
    (λ b bytes. cond (eqb b 0x66) (byte bytes >>= λ c. after_size true c.0 c.1)
    (after_size false b bytes)) byte-Gives
    (λ b _. if-Gives IsCode 13 (eqb b 0x66) (λ bytes. byte bytes >>= λ c. after_size true c.0 c.1)
    (after_size false b)
    (λ _. bind-Gives (λ b. b < 256) IsCode 1 12 byte (after_size true) byte-Gives
    (λ c _. after_size-Gives true c))
    (λ _. at_most IsCode 12 13 (after_size false b) (omega arith) (after_size-Gives false b)))

pub spelled_is_encodable : SpelledIsEncodable
spelled_is_encodable i bytes are is = (instr-Gives.gives bytes i [] are is).value

pub spelled_is_short : SpelledIsShort
spelled_is_short i bytes are is = let g = (instr-Gives.gives bytes i [] are is).few in omega arith
