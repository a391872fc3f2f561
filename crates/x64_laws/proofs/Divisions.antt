-- What DIV, IDIV, CDQ and CQO leave.
use Rattle.std.proofs.Common.{◌≡◌, ◌≢◌, ℕ, zero, suc, ◌+◌, ◌-◌, ◌*◌, ◌/◌, ◌%◌, ◌<◌, ◌≤◌, Bool, true, false, cond, ltb, ℤ, pos, negsuc, ◌+ℤ◌, ◌-ℤ◌, ◌*ℤ◌, Ok, Err, refl, sym, ap, subst, ◌∙◌, arith, inl, inr}
use Rattle.std.specs.Prelude.{Result, IsOkAnd, unsigned_abs, nat_eq, int_rem}
use Rattle.std.proofs.lemmas.List.{length-set}
use Rattle.std.proofs.lemmas.Bool.{cases_lt, lt-ltb, le-ltb, ne_eqb, eq-eqb}
use Rattle.std.proofs.lemmas.Int.{ints}
use Rattle.std.proofs.Math.IntN.{neg_ℤ}
use Rattle.std.proofs.Math.Nat.{mul_comm, mod-add-div}
use Rattle.seh_num.specs.declared.division.DivFault.{DivFault}
use Rattle.seh_num.specs.declared.division.DivFault.TheVariants as faults
use Rattle.seh_num.specs.Division.{IsSignedDivision, IsUnsignedDivision, divided_signed, divided_unsigned}
use Rattle.seh_num.proofs.Quotients.{divided}
use Rattle.x64_laws.specs.Words.{Width, W8, W16, W32, W64, limit, half, low, signed, wrapped, is_signed, merged, number}
use Rattle.x64_instr.specs.declared.register.Reg.TheVariants.{Rax, Rdx}
use Rattle.x64_instr.specs.declared.instruction.Division.TheVariants.{Unsigned, Signed}
use Rattle.x64_machine.specs.Dividing.{joined, signed_double, wrapped_both}
use Rattle.x64_machine.specs.Effect.{State, register, with_quotient, sign_of_rax}
use Rattle.x64_laws.specs.Destinations.{HasRegisters, unsigned_in}
use Rattle.x64_laws.specs.Dividing.{unsigned_joined, signed_joined, PutsDivision, DivIsDivision, DivOverflows, IdivIsDivision, IdivOverflows, DivisionByZeroFaults, CdqKeepsSigned}
use Rattle.x64_laws.proofs.Lemmas.{limits, low_below, wrapped_below, signed_low, signed_high}
use Rattle.x64_laws.proofs.Numbers.{half_positive, limit_positive, signed_wrapped}
use Rattle.x64_laws.proofs.Floors.{quotient_is}
use Rattle.x64_laws.proofs.Effects.{after, puts, signed_zero}
use Rattle.x64_laws.proofs.SignedQuotients.{once, abs_signed, small_signed}

-- ---- the state

puts_division : (s : State) (w : Width) (q r : ℕ) (Q R : ℕ → Type 0) → HasRegisters s
    → q < limit w → r < limit w → Q q → R r
    → PutsDivision s w Q R (after (after s w Rax q s.cpu.flags) w Rdx r s.cpu.flags)
puts_division s w q r Q R h lq lr isq isr =
    let c = after s w Rax q s.cpu.flags in
    let t = after c w Rdx r s.cpu.flags in
    let k : HasRegisters c
    = length-set s.cpu.registers (number Rax) (merged w (register s.cpu Rax) q) ∙ h in
    let first = puts s w Rax q Q s.cpu.flags s.cpu.flags h lq isq refl in
    let second = puts c w Rdx r R s.cpu.flags s.cpu.flags k lr isr refl in
    let apart : Rax ≢ Rdx = λ e. absurd cc in
    let back : Rdx ≢ Rax = λ e. absurd cc in
    let kept : register t.cpu Rax ≡ register c.cpu Rax = second.others Rax apart in
    record {
      quotient = subst Q (ap (low w) (sym kept)) first.result;
      remainder = second.result;
      above_quotient = kept ∙ first.above
          ∙ ap (λ (n : ℕ). merged w (register s.cpu Rax) (low w n)) (sym kept);
      above_remainder = second.above
          ∙ ap (λ (n : ℕ). merged w n (unsigned_in w t Rdx)) (first.others Rdx back);
      others = λ x n m. second.others x m ∙ first.others x n;
      flags = refl;
      rip = refl;
      memory = refl;
    }

-- ---- DIV

not_zero : (n : ℕ) → 0 < n → nat_eq n 0 ≡ false
not_zero n h = ne_eqb n 0 (λ e. absurd (omega arith))

record Quotient (n d q r : ℕ) : Type 0 where
  some : nat_eq d 0 ≡ false
  quotient : n / d ≡ q
  remainder : n % d ≡ r

quotient_of : (n d q r : ℕ) → IsUnsignedDivision n d q r → Quotient n d q r
quotient_of n d q r is =
    let lt = is.small in
    let sum = is.sum in
    let c = mul_comm q d in
    let e : n / d ≡ q = quotient_is d q r n lt (omega arith) in
    let whole = mod-add-div n d in
    let f : d * (n / d) ≡ d * q = ap (λ (k : ℕ). d * k) e in
    record { some = not_zero d (omega arith); quotient = e; remainder = omega arith }

divided_fits : (w : Width) (n d q r : ℕ) → IsUnsignedDivision n d q r → q < limit w
    → divided_unsigned w n d ≡ Ok (q, r)
divided_fits w n d q r is lt =
    let x = quotient_of n d q r is in
    rw (x.some, x.quotient, x.remainder, lt-ltb q (limit w) lt) refl

divided_overflows : (w : Width) (n d q r : ℕ) → IsUnsignedDivision n d q r → limit w ≤ q
    → divided_unsigned w n d ≡ Err faults.Overflow
divided_overflows w n d q r is le =
    let x = quotient_of n d q r is in
    rw (x.some, x.quotient, le-ltb q (limit w) le) refl

pub div_is_division : DivIsDivision
div_is_division s w by q r h is lt =
    let Q : ℕ → Type 0 = λ n. n ≡ q in
    let R : ℕ → Type 0 = λ n. n ≡ r in
    let small = is.small in
    let below = low_below w (register s.cpu by) in
    subst (λ (x : Result (ℕ × ℕ) DivFault). IsOkAnd (with_quotient s w x) (PutsDivision s w Q R))
    (sym (divided_fits w (unsigned_joined w s) (unsigned_in w s by) q r is lt))
    (puts_division s w q r Q R h lt (omega arith) refl refl)

pub div_overflows : DivOverflows
div_overflows s w by q r is le =
    ap (with_quotient s w)
    (divided_overflows w (unsigned_joined w s) (unsigned_in w s by) q r is le)

-- ---- IDIV

double_low : (w : Width) (h l : ℕ) → h < half w → l < limit w
    → h * limit w + l < limit w * half w
double_low W8 h l a b = omega arith
double_low W16 h l a b = omega arith
double_low W32 h l a b = omega arith
double_low W64 h l a b = omega arith

double_high : (w : Width) (h l : ℕ) → half w ≤ h → limit w * half w ≤ h * limit w + l
double_high W8 h l a = omega arith
double_high W16 h l a = omega arith
double_high W32 h l a = omega arith
double_high W64 h l a = omega arith

left_of_square : (w : Width) (h l : ℕ) → h < limit w
    → l + limit w * limit w ≡ h * limit w + l + suc (limit w - 1 - h) * limit w
left_of_square W8 h l a = omega arith
left_of_square W16 h l a = omega arith
left_of_square W32 h l a = omega arith
left_of_square W64 h l a = omega arith

negative_sum : (x l n m : ℕ) → l + m ≡ n + x → pos n -ℤ pos m ≡ neg_ℤ (pos x) +ℤ pos l
negative_sum zero l n m e = omega (arith, ints)
negative_sum (suc x) l n m e = omega (arith, ints)

-- the signed number of both halves
double_is : (w : Width) (h l : ℕ) → h < limit w → l < limit w
    → signed_double w (joined w h l) ≡ (signed w h *ℤ pos (limit w)) +ℤ pos l
double_is w h l lh ll =
    let L = limit w in
    let n : ℕ = h * L + l in
    elim (cases_lt h (half w)) [
      | inl lt ↦
          ap (λ (b : Bool). cond b (pos n) (pos n -ℤ pos (L * L)))
          (lt-ltb n (L * half w) (double_low w h l lt ll))
          ∙ sym (ap (λ (z : ℤ). (z *ℤ pos L) +ℤ pos l) (signed_low w h lt))
      | inr ge ↦
          ap (λ (b : Bool). cond b (pos n) (pos n -ℤ pos (L * L)))
          (le-ltb n (L * half w) (double_high w h l ge))
          ∙ negative_sum (suc (L - 1 - h) * L) l n (L * L) (left_of_square w h l lh)
          ∙ sym (ap (λ (z : ℤ). (z *ℤ pos L) +ℤ pos l) (signed_high w h ge lh))
    ]

double_in : (w : Width) (s : State)
    → signed_double w (joined w (unsigned_in w s Rdx) (unsigned_in w s Rax)) ≡ signed_joined w s
double_in w s = double_is w (unsigned_in w s Rdx) (unsigned_in w s Rax)
    (low_below w (register s.cpu Rdx)) (low_below w (register s.cpu Rax))

some_abs : (a b q r : ℤ) → IsSignedDivision a b q r → 0 < unsigned_abs b
some_abs a b q r is = let h = is.small in omega arith

signed_fits : (w : Width) (a b q r : ℤ) → IsSignedDivision a b q r → is_signed w q ≡ true
    → divided_signed w a b ≡ Ok (q, r)
signed_fits w a b q r is fits =
    let some = some_abs a b q r is in
    let x = once a b q r some is in
    sym (divided w a b some (ap (is_signed w) x.quotient ∙ fits))
    ∙ ap (λ (z : ℤ). Ok (z, int_rem a b)) x.quotient
    ∙ ap (λ (z : ℤ). Ok (q, z)) x.remainder

signed_overflows : (w : Width) (a b q r : ℤ) → IsSignedDivision a b q r → is_signed w q ≡ false
    → divided_signed w a b ≡ Err faults.Overflow
signed_overflows w a b q r is not =
    let some = some_abs a b q r is in
    let x = once a b q r some is in
    rw (not_zero (unsigned_abs b) some, ap (is_signed w) x.quotient ∙ not) refl

pub idiv_is_division : IdivIsDivision
idiv_is_division s w by q r h is fits =
    let v = unsigned_in w s by in
    let Q : ℕ → Type 0 = λ n. signed w n ≡ q in
    let R : ℕ → Type 0 = λ n. signed w n ≡ r in
    let small = is.small in
    let least = abs_signed w v (low_below w (register s.cpu by)) in
    let e = ap (λ (z : ℤ). wrapped_both w (divided_signed w z (signed w v))) (double_in w s)
    ∙ ap (wrapped_both w) (signed_fits w (signed_joined w s) (signed w v) q r is fits) in
    subst (λ (x : Result (ℕ × ℕ) DivFault). IsOkAnd (with_quotient s w x) (PutsDivision s w Q R))
    (sym e)
    (puts_division s w (wrapped w q) (wrapped w r) Q R h (wrapped_below w q) (wrapped_below w r)
    (signed_wrapped w q fits)
    (signed_wrapped w r (small_signed w r (omega arith))))

pub idiv_overflows : IdivOverflows
idiv_overflows s w by q r is not =
    let v = unsigned_in w s by in
    ap (λ (z : ℤ). with_quotient s w (wrapped_both w (divided_signed w z (signed w v))))
    (double_in w s)
    ∙ ap (λ (x : Result (ℤ × ℤ) DivFault). with_quotient s w (wrapped_both w x))
    (signed_overflows w (signed_joined w s) (signed w v) q r is not)

-- ---- by 0, and CDQ

signed_of_zero : (w : Width) (v : ℕ) → v ≡ 0 → nat_eq (unsigned_abs (signed w v)) 0 ≡ true
signed_of_zero w v e = ap (λ (n : ℕ). nat_eq (unsigned_abs (signed w n)) 0) e
    ∙ ap (λ (z : ℤ). nat_eq (unsigned_abs z) 0) (signed_zero w)

pub division_by_zero_faults : DivisionByZeroFaults
division_by_zero_faults s Unsigned w by e = rw (eq-eqb (unsigned_in w s by) 0 e) refl
division_by_zero_faults s Signed w by e = rw (signed_of_zero w (unsigned_in w s by) e) refl

minus_one : (w : Width) → signed w (limit w - 1) ≡ negsuc 0
minus_one w =
    let two = limits w in
    let some = half_positive w in
    let z : limit w - 1 - (limit w - 1) ≡ 0 = omega arith in
    signed_high w (limit w - 1) (omega arith) (omega arith) ∙ ap negsuc z

minus_limit : (l a : ℕ) → a < l → (negsuc 0 *ℤ pos l) +ℤ pos a ≡ negsuc (l - 1 - a)
minus_limit zero a lt = absurd (omega arith)
minus_limit (suc l) a lt = omega (arith, ints)

-- copies of the top bit above a number keep what it represents
extension_is : (w : Width) (a : ℕ) → a < limit w
    → (signed w (cond (ltb a (half w)) 0 (limit w - 1)) *ℤ pos (limit w)) +ℤ pos a ≡ signed w a
extension_is w a lt =
    let joins : Bool → ℤ = λ b. (signed w (cond b 0 (limit w - 1)) *ℤ pos (limit w)) +ℤ pos a in
    elim (cases_lt a (half w)) [
      | inl l ↦ ap joins (lt-ltb a (half w) l)
          ∙ ap (λ (z : ℤ). (z *ℤ pos (limit w)) +ℤ pos a) (signed_zero w)
          ∙ plain (limit w) a ∙ sym (signed_low w a l)
      | inr g ↦ ap joins (le-ltb a (half w) g)
          ∙ ap (λ (z : ℤ). (z *ℤ pos (limit w)) +ℤ pos a) (minus_one w)
          ∙ minus_limit (limit w) a lt ∙ sym (signed_high w a g lt)
    ]
  where
    plain : (l a : ℕ) → (pos 0 *ℤ pos l) +ℤ pos a ≡ pos a
    plain l a = let z : 0 * l + a ≡ a = omega arith in ap pos z

extension_below : (w : Width) (b : Bool) → cond b 0 (limit w - 1) < limit w
extension_below w true = limit_positive w
extension_below w false = let some = limit_positive w in omega arith

pub cdq_keeps_signed : CdqKeepsSigned
cdq_keeps_signed s w h =
    let a = unsigned_in w s Rax in
    puts s w Rdx (sign_of_rax w s.cpu)
    (λ n. (signed w n *ℤ pos (limit w)) +ℤ pos a ≡ signed w a) s.cpu.flags s.cpu.flags h
    (extension_below w (ltb a (half w))) (extension_is w a (low_below w (register s.cpu Rax))) refl
