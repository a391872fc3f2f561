-- What instructions on registers leave.
use Rattle.std.proofs.Common.{◌≡◌, ℕ, ◌+◌, ◌-◌, ◌*◌, ◌^◌, ◌<◌, Bool, List, length, get_or, set, ℤ, pos, ◌+ℤ◌, ◌-ℤ◌, ◌*ℤ◌, refl, sym, ap, subst, ◌∙◌, arith, get_or-set_same, get_or-set_other}
use Rattle.std.specs.Prelude.{not, nat_lt, nat_le}
use Rattle.x64_laws.specs.Words.{Width, W8, W16, W32, W64, limit, low, signed, wrapped, is_signed, Reg, ArithmeticRight, number, flags_of, added, subtracted, multiplied, merged, count_of, shifted, shift_flags, IsOf, flags_for, product_flags, IsFloor, AddIsSum, SubIsDifference, ImulIsProduct, ImulByIsProduct, NegIsNegative, MovsxKeepsSigned, MovzxKeepsUnsigned, SarIsFloor, CmpDecides}
use Rattle.x64_laws.proofs.Lemmas.{number_small, number_once, limits, low_below, twice, signed_low, signed_twice, wrapped_below}
use Rattle.x64_machine.specs.declared.cpu.Flags.{Flags}
use Rattle.x64_machine.specs.Effect.{State, register, amount}
use Rattle.x64_laws.specs.Destinations.{HasRegisters, unsigned_in, signed_in, Puts}
use Rattle.x64_laws.proofs.Numbers.{half_positive, limit_positive, half_at_most, signed_wrapped, is_signed_wider}
use Rattle.x64_laws.proofs.Results.{sum_bits, difference_bits, product_bits}
use Rattle.x64_laws.proofs.Floors.{shifted_floor, shifted_below}
use Rattle.x64_laws.proofs.AfterCompare.{difference_decides}

-- ---- a register and the flags

abbrev pub after : State → Width → Reg → ℕ → Flags → State
after s w to v f = record s {
  cpu = record {
    registers = set s.cpu.registers (number to) (merged w (register s.cpu to) v);
    rip = s.cpu.rip;
    flags = f;
  };
}

pub merged_low : (w : Width) (old v : ℕ) → v < limit w → low w (merged w old v) ≡ v
merged_low W8 old v lt = omega arith
merged_low W16 old v lt = omega arith
merged_low W32 old v lt = omega arith
merged_low W64 old v lt = omega arith

pub read_back : (xs : List ℕ) (k v : ℕ) → length xs ≡ 16 → k < 16 → get_or (set xs k v) k 0 ≡ v
read_back xs k v n lt = get_or-set_same xs k v 0 (omega arith)

pub puts : (s : State) (w : Width) (to : Reg) (v : ℕ) (P : ℕ → Type 0) (f g : Flags)
    → HasRegisters s → v < limit w → P v → g ≡ f → Puts s w to P f (after s w to v g)
puts s w to v P f g h lt is e =
    let xs = s.cpu.registers in
    let old = register s.cpu to in
    let within = number_small to in
    let there : register (after s w to v g).cpu to
    ≡ merged w old v = read_back xs (number to) (merged w old v) h within in
    let kept : unsigned_in w (after s w to v g) to ≡ v = ap (low w) there ∙ merged_low w old v lt in
    record {
      result = subst P (sym kept) is;
      above = there ∙ ap (merged w old) (sym kept);
      others = λ r n. get_or-set_other xs (number to) (number r) (merged w old v) 0
          (λ z. n (number_once r to z));
      flags = e;
      rip = refl;
      memory = refl;
    }

-- ---- results modulo the limit

pub is_of : (w : Width) (z : ℤ) (n : ℕ) → n ≡ wrapped w z → IsOf w z n
is_of w z n e = record { modulo = e; whole = λ k. ap (signed w) e ∙ signed_wrapped w z k }

below : (w : Width) (z : ℤ) (n : ℕ) → n ≡ wrapped w z → n < limit w
below w z n e = subst (λ (k : ℕ). k < limit w) (sym e) (wrapped_below w z)

-- bits that are z modulo the limit, with their flags
puts_of : (s : State) (w : Width) (to : Reg) (n : ℕ) (z : ℤ) (carry : Bool) → HasRegisters s
    → n ≡ wrapped w z
    → Puts s w to (IsOf w z) (flags_for w z carry)
    (after s w to n (flags_of w n carry (not (is_signed w z))))
puts_of s w to n z carry h e =
    puts s w to n (IsOf w z) (flags_for w z carry) (flags_of w n carry (not (is_signed w z))) h
    (below w z n e) (is_of w z n e)
    (ap (λ (k : ℕ). flags_of w k carry (not (is_signed w z))) e)

pub add_is_sum : AddIsSum
unfolding added
add_is_sum s w to from h =
    let a = unsigned_in w s to in
    let b = unsigned_in w s from in
    puts_of s w to (low w (a + b)) (signed_in w s to +ℤ signed_in w s from)
    (nat_le (limit w) (a + b)) h
    (sum_bits w a b (low_below w (register s.cpu to)) (low_below w (register s.cpu from)))

pub sub_is_difference : SubIsDifference
unfolding subtracted
sub_is_difference s w to from h =
    let a = unsigned_in w s to in
    let b = unsigned_in w s from in
    puts_of s w to (low w (a + (limit w - b))) (signed_in w s to -ℤ signed_in w s from) (nat_lt a b)
    h
    (difference_bits w a b (low_below w (register s.cpu to)) (low_below w (register s.cpu from)))

pub signed_zero : (w : Width) → signed w 0 ≡ pos 0
signed_zero w = signed_low w 0 (half_positive w)

pub neg_is_negative : NegIsNegative
unfolding subtracted
neg_is_negative s w to h =
    let a = unsigned_in w s to in
    let n = low w (0 + (limit w - a)) in
    subst (λ (x : ℤ). Puts s w to (IsOf w (pos 0 -ℤ signed w a))
    (flags_for w (pos 0 -ℤ signed w a) (nat_lt 0 a))
    (after s w to n (flags_of w n (nat_lt 0 a) (not (is_signed w (x -ℤ signed w a))))))
    (sym (signed_zero w))
    (puts_of s w to n (pos 0 -ℤ signed w a) (nat_lt 0 a) h
    (difference_bits w 0 a (limit_positive w) (low_below w (register s.cpu to))
    ∙ ap (λ (x : ℤ). wrapped w (x -ℤ signed w a)) (signed_zero w)))

-- ---- products

product : (s : State) (w : Width) (to : Reg) (a b : ℕ) (z : ℤ) → HasRegisters s → a < limit w
    → b < limit w → signed w a *ℤ signed w b ≡ z
    → Puts s w to (IsOf w z) (product_flags w z s.cpu.flags)
    (after s w to (low w (a * b)) (product_flags w (signed w a *ℤ signed w b) s.cpu.flags))
product s w to a b z h la lb is =
    let e : low w (a * b) ≡ wrapped w z = product_bits w a b la lb ∙ ap (wrapped w) is in
    puts s w to (low w (a * b)) (IsOf w z) (product_flags w z s.cpu.flags)
    (product_flags w (signed w a *ℤ signed w b) s.cpu.flags) h
    (low_below w (a * b)) (is_of w z (low w (a * b)) e)
    (ap (λ (x : ℤ). product_flags w x s.cpu.flags) is)

pub imul_is_product : ImulIsProduct
unfolding multiplied
imul_is_product s w to from h =
    product s w to (unsigned_in w s to) (unsigned_in w s from)
    (signed_in w s to *ℤ signed_in w s from) h
    (low_below w (register s.cpu to)) (low_below w (register s.cpu from)) refl

pub imul_by_is_product : ImulByIsProduct
unfolding multiplied
imul_by_is_product s w to from v h =
    product s w to (unsigned_in w s from) (low w v) (signed_in w s from *ℤ signed w v) h
    (low_below w (register s.cpu from)) (low_below w v)
    (ap (λ (x : ℤ). signed_in w s from *ℤ x) (signed_twice w v))

-- ---- extensions

pub movsx_keeps_signed : MovsxKeepsSigned
movsx_keeps_signed s w narrow to from le h =
    let z = signed_in narrow s from in
    puts s w to (wrapped w z) (λ n. signed w n ≡ z) s.cpu.flags s.cpu.flags h (wrapped_below w z)
    (signed_wrapped w z (is_signed_wider narrow w (unsigned_in narrow s from) le)) refl

pub movzx_keeps_unsigned : MovzxKeepsUnsigned
movzx_keeps_unsigned s w narrow to from le h =
    let v = unsigned_in narrow s from in
    let at_most = half_at_most narrow w le in
    let two = limits narrow in
    let more = limits w in
    let small = low_below narrow v in
    puts s w to (low narrow v) (λ n. n ≡ v) s.cpu.flags s.cpu.flags h (omega arith)
    (twice narrow (register s.cpu from)) refl

-- ---- a shift

pub sar_is_floor : SarIsFloor
sar_is_floor s w to by h few =
    let a = unsigned_in w s to in
    let c = count_of w (amount s.cpu by) in
    let lt = low_below w (register s.cpu to) in
    puts s w to (shifted ArithmeticRight w a c)
    (λ n. IsFloor (signed_in w s to) (2 ^ c) (signed w n))
    (shift_flags ArithmeticRight w a c s.cpu.flags) (shift_flags ArithmeticRight w a c s.cpu.flags)
    h
    (shifted_below w a c lt) (shifted_floor w a c lt few) refl

-- ---- a comparison

pub cmp_decides : CmpDecides
cmp_decides s w first second = record {
  each = λ c. difference_decides w (unsigned_in w s first) (unsigned_in w s second) c
      (low_below w (register s.cpu first)) (low_below w (register s.cpu second));
  registers = refl;
  rip = refl;
  memory = refl;
}
