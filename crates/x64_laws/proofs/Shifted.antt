-- What SHL, SHR and SAR leave.
use Rattle.std.proofs.Common.{◌≡◌, ℕ, suc, ◌+◌, ◌-◌, ◌*◌, ◌/◌, ◌%◌, ◌^◌, ◌<◌, Bool, true, false, cond, ltb, leb, ℤ, pos, ◌-ℤ◌, ◌*ℤ◌, refl, sym, ap, ◌∙◌, arith, inl, inr}
use Rattle.std.specs.Prelude.{not, int_lt, nat_eq}
use Rattle.std.specs.Int.{bit_at}
use Rattle.std.proofs.lemmas.Bool.{cases_lt, lt-ltb, le-ltb, le-leb, lt-leb, ne_eqb, eq-eqb}
use Rattle.std.proofs.Math.IntN.{neg_ℤ}
use Rattle.std.proofs.Math.Nat.{mul_assoc, div-le_self, mul-div-mul_right}
use Rattle.x64_instr.specs.declared.instruction.Direction.{Direction}
use Rattle.x64_instr.specs.declared.instruction.Direction.TheVariants.{Left, Right}
use Rattle.x64_laws.specs.Words.{Width, bytes_of, limit, half, low, signed, wrapped, is_signed, Reg, ArithmeticRight, differ, count_of, shifted, shift_flags, IsFloor}
use Rattle.x64_laws.specs.Shifting.{ShiftFlags, IsShiftedProduct, ShlIsProduct, ShrIsQuotient, SarSetsFlags}
use Rattle.x64_machine.specs.declared.cpu.Flags.{Flags}
use Rattle.x64_machine.specs.Shifts.{last_out, overflow_of}
use Rattle.x64_machine.specs.Effect.{State, register, amount}
use Rattle.x64_laws.specs.Destinations.{HasRegisters, unsigned_in}
use Rattle.x64_laws.proofs.Lemmas.{limits, low_is, low_below, signed_low, signed_high}
use Rattle.x64_machine.proofs.Numbers.{low_over}
use Rattle.x64_laws.proofs.Numbers.{wrapped_from}
use Rattle.x64_laws.proofs.Results.{bits}
use Rattle.x64_laws.proofs.Floors.{limit_is, power_sum, power_positive, floor_pos, shifted_below}
use Rattle.x64_laws.proofs.SignedQuotients.{difference_product}
use Rattle.x64_laws.proofs.Bitwise.{sign_below}
use Rattle.x64_laws.proofs.Effects.{after, puts, is_of}

-- ---- the flags

abbrev moved : Direction → Width → ℕ → ℕ → Flags → Flags
moved d w a c f = record {
  carry = last_out d w a c;
  zero = nat_eq (shifted d w a c) 0;
  sign = leb (half w) (shifted d w a c);
  overflow = cond (nat_eq c 1) (overflow_of d w a) f.overflow;
}

some_flags : (d : Direction) (w : Width) (a c : ℕ) (f : Flags) → 0 < c
    → shift_flags d w a c f ≡ moved d w a c f
some_flags d w a c f lt =
    ap (λ (b : Bool). cond b f (moved d w a c f)) (ne_eqb c 0 (λ e. absurd (omega arith)))

no_flags : (d : Direction) (w : Width) (a c : ℕ) (f : Flags) → c ≡ 0 → shift_flags d w a c f ≡ f
no_flags d w a c f e = ap (λ (b : Bool). cond b f (moved d w a c f)) (eq-eqb c 0 e)

flags_are : (d : Direction) (w : Width) (a c out m : ℕ) (o : Bool) (f : Flags)
    → shifted d w a c < limit w → m ≡ shifted d w a c
    → (0 < c → c < 8 * bytes_of w → last_out d w a c ≡ nat_eq out 1)
    → (c ≡ 1 → overflow_of d w a ≡ o)
    → ShiftFlags w c out o m f (shift_flags d w a c f)
flags_are d w a c out m o f lt is last over = record {
  unmoved = λ e. no_flags d w a c f e;
  carry = λ p q. ap (λ (g : Flags). g.carry) (some_flags d w a c f p) ∙ last p q;
  zero = λ p. ap (λ (g : Flags). g.zero) (some_flags d w a c f p)
      ∙ ap (λ (n : ℕ). nat_eq n 0) (sym is);
  sign = λ p. ap (λ (g : Flags). g.sign) (some_flags d w a c f p)
      ∙ sign_below w (shifted d w a c) lt ∙ ap (λ (n : ℕ). int_lt (signed w n) (pos 0)) (sym is);
  overflow_of_one = λ e. ap (λ (g : Flags). g.overflow) (some_flags d w a c f (omega arith))
      ∙ ap (λ (b : Bool). cond b (overflow_of d w a) f.overflow) (eq-eqb c 1 e) ∙ over e;
  overflow_of_more = λ p. ap (λ (g : Flags). g.overflow) (some_flags d w a c f (omega arith))
      ∙ ap (λ (b : Bool). cond b (overflow_of d w a) f.overflow)
      (ne_eqb c 1 (λ e. absurd (omega arith)));
}

-- the register after a shift has its number
there : (s : State) (w : Width) (to : Reg) (n : ℕ) (f : Flags) → HasRegisters s → n < limit w
    → unsigned_in w (after s w to n f) to ≡ n
there s w to n f h lt = (puts s w to n (λ m. m ≡ n) f f h lt refl refl).result

-- ---- SHL

-- the low bits of a number times p are those of the signed number times p
scaled_bits : (w : Width) (a p : ℕ) → a < limit w
    → low w (a * p) ≡ wrapped w (signed w a *ℤ pos p)
scaled_bits w a p lt =
    let x = bits w a lt in
    let m : limit w * x.times * p ≡ limit w * (x.times * p) = mul_assoc (limit w) x.times p in
    sym (wrapped_from w (signed w a *ℤ pos p) (a * p) (x.times * p)
    (ap (λ (z : ℤ). z *ℤ pos p) x.is ∙ difference_product (pos a) (pos (limit w * x.times)) (pos p)
    ∙ ap (λ (k : ℕ). pos (a * p) -ℤ pos k) m))

-- above the limit are the bits from its distance to the count on
out_of_top : (w : Width) (a c : ℕ) → c < 8 * bytes_of w
    → a * 2 ^ c / limit w ≡ a / 2 ^ (8 * bytes_of w - c)
out_of_top w a c lt =
    let k = 8 * bytes_of w - c in
    let sum : k + c ≡ 8 * bytes_of w = omega arith in
    let e : limit w ≡ 2 ^ k * 2 ^ c = limit_is w ∙ ap (λ (n : ℕ). 2 ^ n) (sym sum)
    ∙ power_sum k c in
    ap (λ (n : ℕ). a * 2 ^ c / n) e ∙ mul-div-mul_right a (2 ^ k) (power_positive c)

differ_false : (b : Bool) → differ b false ≡ b
differ_false true = refl
differ_false false = refl

differ_true : (b : Bool) → differ b true ≡ not b
differ_true true = refl
differ_true false = refl

not_within : (h m : ℕ) → leb h m ≡ not (ltb m h)
not_within h m = elim (cases_lt m h) [
  | inl lt ↦ lt-leb h m lt ∙ sym (ap not (lt-ltb m h lt))
  | inr ge ↦ le-leb h m ge ∙ sym (ap not (le-ltb m h ge))
]

-- the top bit of 2 a less the limit is not set where the rest to the limit is half of it or more
rest_within : (h r : ℕ) → r < 2 * h → not (leb h r) ≡ not (ltb (2 * h - 1 - r) h)
rest_within h r lt = elim (cases_lt r h) [
  | inl l ↦ ap not (lt-leb h r l ∙ sym (le-ltb (2 * h - 1 - r) h (omega arith)))
  | inr g ↦ ap not (le-leb h r g ∙ sym (lt-ltb (2 * h - 1 - r) h (omega arith)))
]

double_overflows : (w : Width) (a : ℕ) → a < limit w
    → overflow_of Left w a ≡ not (is_signed w (signed w a *ℤ pos 2))
double_overflows w a lt =
    let two = limits w in
    let H = half w in
    let L = limit w in
    elim (cases_lt a H) [
      | inl l ↦
          ap (differ (leb H (low w (a * 2)))) (lt-leb H a l)
          ∙ differ_false (leb H (low w (a * 2)))
          ∙ ap (leb H) (low_is w (a * 2) (omega arith))
          ∙ not_within H (a * 2)
          ∙ sym (ap (λ (z : ℤ). not (is_signed w (z *ℤ pos 2))) (signed_low w a l))
      | inr g ↦
          let r : ℕ = a * 2 - L in
          let k : suc (L - 1 - a) * 2 ≡ suc (2 * H - 1 - r) = omega arith in
          ap (differ (leb H (low w (a * 2)))) (le-leb H a g)
          ∙ differ_true (leb H (low w (a * 2)))
          ∙ ap (λ (n : ℕ). not (leb H n)) (low_over w (a * 2) (omega arith) (omega arith))
          ∙ rest_within H r (omega arith)
          ∙ sym (ap (λ (z : ℤ). not (is_signed w (z *ℤ pos 2))) (signed_high w a g lt)
          ∙ ap (λ (n : ℕ). not (is_signed w (neg_ℤ (pos n)))) k)
    ]

pub shl_is_product : ShlIsProduct
shl_is_product s w to by h =
    let a = unsigned_in w s to in
    let c = count_of w (amount s.cpu by) in
    let lt = low_below w (register s.cpu to) in
    let n = shifted Left w a c in
    let f = shift_flags Left w a c s.cpu.flags in
    let below = low_below w (a * 2 ^ c) in (
      puts s w to n (IsShiftedProduct w a c) f f h below
          (record {
            of_unsigned = λ k. low_is w (a * 2 ^ c) k;
            of_signed = is_of w (signed w a *ℤ pos (2 ^ c)) n (scaled_bits w a (2 ^ c) lt);
          }) refl,
      flags_are Left w a c (bit_at a (8 * bytes_of w - c)) (unsigned_in w (after s w to n f) to)
          (not (is_signed w (signed w a *ℤ pos 2))) s.cpu.flags below (there s w to n f h below)
          (λ p q. ap (λ (k : ℕ). nat_eq (k % 2) 1) (out_of_top w a c q))
          (λ e. double_overflows w a lt),
    )

-- ---- SHR and SAR

pub shr_is_quotient : ShrIsQuotient
shr_is_quotient s w to by h =
    let a = unsigned_in w s to in
    let c = count_of w (amount s.cpu by) in
    let lt = low_below w (register s.cpu to) in
    let n = shifted Right w a c in
    let f = shift_flags Right w a c s.cpu.flags in
    let less = div-le_self a (2 ^ c) in
    let below : n < limit w = omega arith in (
      puts s w to n (λ m. IsFloor (pos a) (2 ^ c) (pos m)) f f h below
          (floor_pos a (2 ^ c) (power_positive c)) refl,
      flags_are Right w a c (bit_at a (c - 1)) (unsigned_in w (after s w to n f) to)
          (int_lt (signed w a) (pos 0)) s.cpu.flags below (there s w to n f h below)
          (λ p q. refl) (λ e. sign_below w a lt),
    )

pub sar_sets_flags : SarSetsFlags
sar_sets_flags s w to by h =
    let a = unsigned_in w s to in
    let c = count_of w (amount s.cpu by) in
    let n = shifted ArithmeticRight w a c in
    let f = shift_flags ArithmeticRight w a c s.cpu.flags in
    let below = shifted_below w a c (low_below w (register s.cpu to)) in (
      puts s w to n (λ m. Unit {0}) f f h below tt refl,
      flags_are ArithmeticRight w a c (bit_at a (c - 1)) (unsigned_in w (after s w to n f) to)
          false s.cpu.flags below (there s w to n f h below) (λ p q. refl) (λ e. refl),
    )
