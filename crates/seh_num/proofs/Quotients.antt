-- What division towards zero and remainders modulo a limit are.
use Rattle.std.proofs.Common.{◌≡◌, ℕ, zero, suc, ◌+◌, ◌-◌, ◌*◌, ◌/◌, ◌%◌, ◌^◌, ◌<◌, ◌≤◌, arith, sym, ap, ◌∙◌, ℤ, pos, negsuc, ◌+ℤ◌, ◌*ℤ◌, ◌≤ℤ◌, FitsSigned, w64, refl, true, false, nat_eq, Ok, subst, to_z, of_z}
use Rattle.std.specs.Int.{w128}
use Rattle.std.specs.Prelude.{int_div, int_rem, unsigned_abs}
use Rattle.std.proofs.Math.IntN.{neg_ℤ}
use Rattle.std.proofs.Math.Nat.{suc-mul, mul_comm, mod-add-div, div-add-mod, mod-lt}
use Rattle.std.proofs.lemmas.Bool.{ne_eqb}
use Rattle.std.proofs.lemmas.Int.{ints, quot-rem, rem_below, to_z-of_z}
use Rattle.seh_num.specs.declared.width.Width.{Width}
use Rattle.seh_num.specs.declared.width.Width.TheVariants.{W8, W16, W32, W64}
use Rattle.seh_num.specs.Widths.{limit, wrapped, IsCongruent}
use Rattle.seh_num.specs.Division.{IsSignedDivision, HasSignOf, is_signed, divided_signed}

below_zero : (n : ℕ) → neg_ℤ (pos n) ≤ℤ pos 0
below_zero zero = omega (arith, ints)
below_zero (suc n) = omega (arith, ints)

rem_sign : (a b : ℤ) → HasSignOf a (int_rem a b)
rem_sign (pos n) b = omega (arith, ints)
rem_sign (negsuc n) b = below_zero (suc n % unsigned_abs b)

pub signed_division : (a b : ℤ) → 0 < unsigned_abs b
    → IsSignedDivision a b (int_div a b) (int_rem a b)
signed_division a b h = record {
  sum = sym (quot-rem a b);
  small = rem_below a b h;
  sign = rem_sign a b;
}

-- the remainder of a number of 64 bits is one
small_fits : (r : ℤ) → unsigned_abs r < 2 ^ 63 → FitsSigned w64 r
small_fits (pos n) h = record { sfits = h }
small_fits (negsuc n) h = record { sfits = omega arith }

abs_at_most : (b : ℤ) → FitsSigned w64 b → unsigned_abs b ≤ 2 ^ 63
abs_at_most (pos n) h = let f = h.sfits in omega arith
abs_at_most (negsuc n) h = let f = h.sfits in omega arith

pub rem_fits : (a b : ℤ) → FitsSigned w64 b → 0 < unsigned_abs b → FitsSigned w64 (int_rem a b)
rem_fits a b h n = let s = rem_below a b n in let m = abs_at_most b h in
    small_fits (int_rem a b) (omega arith)

-- ---- modulo a limit

below_by : (n a b : ℕ) → n + 1 + a ≡ b → negsuc n ≡ pos a +ℤ neg_ℤ (pos b)
below_by n a zero e = absurd (omega arith)
below_by n a (suc b) e = omega (arith, ints)

of_limit : (L x r n : ℕ) → r < L → L * x + r ≡ n → n + 1 + (L - 1 - r) ≡ suc x * L
of_limit L x r n lt e =
    let p : suc x * L ≡ x * L + L = suc-mul x L in
    let q : x * L ≡ L * x = mul_comm x L in
    omega arith

congruent_pos : (L n : ℕ) → pos n ≡ pos (n % L) +ℤ (pos (n / L) *ℤ pos L)
congruent_pos L n = ap pos (let q : n / L * L ≡ L * (n / L) = mul_comm (n / L) L in
    let e = mod-add-div n L in omega arith)

congruent_negsuc : (L n : ℕ) → 0 < L → negsuc n ≡ pos (L - 1 - n % L) +ℤ (negsuc (n / L) *ℤ pos L)
congruent_negsuc L n lt = below_by n (L - 1 - n % L) (suc (n / L) * L)
    (of_limit L (n / L) (n % L) n (mod-lt n lt) (div-add-mod n L))

limit_positive : (w : Width) → 0 < limit w
limit_positive W8 = omega arith
limit_positive W16 = omega arith
limit_positive W32 = omega arith
limit_positive W64 = omega arith

pub congruent : (w : Width) (z : ℤ) → IsCongruent w z (wrapped w z)
congruent w (pos n) = (pos (n / limit w), congruent_pos (limit w) n)
congruent w (negsuc n) = (negsuc (n / limit w), congruent_negsuc (limit w) n (limit_positive w))

-- ---- the code's division, whose operands and results go through their bits

wider : (z : ℤ) → FitsSigned w64 z → FitsSigned w128 z
wider (pos n) h = let f = h.sfits in record { sfits = omega arith }
wider (negsuc n) h = let f = h.sfits in record { sfits = omega arith }

-- a signed number of a width is one of 64 bits
signed_fits : (w : Width) (z : ℤ) → is_signed w z ≡ true → FitsSigned w64 z
signed_fits W8 (pos n) h = record { sfits = grind arith }
signed_fits W16 (pos n) h = record { sfits = grind arith }
signed_fits W32 (pos n) h = record { sfits = grind arith }
signed_fits W64 (pos n) h = record { sfits = grind arith }
signed_fits W8 (negsuc n) h = record { sfits = grind arith }
signed_fits W16 (negsuc n) h = record { sfits = grind arith }
signed_fits W32 (negsuc n) h = record { sfits = grind arith }
signed_fits W64 (negsuc n) h = record { sfits = grind arith }

nonzero : (b : ℤ) → (of_z w128 b ≡ 0 → ⊥) → FitsSigned w128 b → 0 < unsigned_abs b
nonzero (pos zero) n f = absurd (n refl)
nonzero (pos (suc k)) n f = omega arith
nonzero (negsuc k) n f = omega arith

not_zero : (n : ℕ) → 0 < n → nat_eq n 0 ≡ false
not_zero zero h = absurd (omega arith)
not_zero (suc n) h = ne_eqb (suc n) 0 (λ e. absurd (omega arith))

pub divided : (w : Width) (a b : ℤ) → 0 < unsigned_abs b → is_signed w (int_div a b) ≡ true
    → Ok (int_div a b, int_rem a b) ≡ divided_signed w a b
divided w a b n s = rw (not_zero (unsigned_abs b) n, s) refl

-- through 128 bits and 64
pub through : (z : ℤ) → FitsSigned w128 z → FitsSigned w64 z
    → to_z w64 (of_z w64 (to_z w128 (of_z w128 z))) ≡ z
through z f g = ap (λ x. to_z w64 (of_z w64 x)) (to_z-of_z w128 z f) ∙ to_z-of_z w64 z g

module _ (w : Width) (a b d q : ℤ) (fa : FitsSigned w128 a) (fb : FitsSigned w64 b)
    (d_is : d ≡ to_z w64 (of_z w64 b)) (n : of_z w128 d ≡ 0 → ⊥)
    (q_is : q ≡ int_div (to_z w128 (of_z w128 a)) (to_z w128 (of_z w128 d)))
    (fits : FitsSigned w128 (int_div (to_z w128 (of_z w128 a)) (to_z w128 (of_z w128 d))))
    (s : true ≡ is_signed w (to_z w128 (of_z w128 q))) where
  divisor : d ≡ b
  divisor = d_is ∙ to_z-of_z w64 b fb

  whole_a : to_z w128 (of_z w128 a) ≡ a
  whole_a = to_z-of_z w128 a fa

  whole_d : to_z w128 (of_z w128 d) ≡ b
  whole_d = ap (λ x. to_z w128 (of_z w128 x)) divisor ∙ to_z-of_z w128 b (wider b fb)

  quotient : q ≡ int_div a b
  quotient = q_is ∙ ap (λ x. int_div x (to_z w128 (of_z w128 d))) whole_a ∙ ap (int_div a) whole_d

  quotient_fits : FitsSigned w128 (int_div a b)
  quotient_fits = subst (λ z. FitsSigned w128 z)
      (ap (λ x. int_div x (to_z w128 (of_z w128 d))) whole_a ∙ ap (int_div a) whole_d) fits

  some : 0 < unsigned_abs b
  some = nonzero b (λ e. n (ap (of_z w128) divisor ∙ e)) (wider b fb)

  is_small : is_signed w (int_div a b) ≡ true
  is_small = sym (s ∙ ap (λ z. is_signed w (to_z w128 (of_z w128 z))) quotient
      ∙ ap (is_signed w) (to_z-of_z w128 (int_div a b) quotient_fits))

  remainder : int_rem (to_z w128 (of_z w128 a)) (to_z w128 (of_z w128 d)) ≡ int_rem a b
  remainder = ap (λ x. int_rem x (to_z w128 (of_z w128 d))) whole_a ∙ ap (int_rem a) whole_d

  first : to_z w64 (of_z w64 (to_z w128 (of_z w128 q))) ≡ int_div a b
  first = ap (λ z. to_z w64 (of_z w64 (to_z w128 (of_z w128 z)))) quotient
      ∙ through (int_div a b) quotient_fits (signed_fits w (int_div a b) is_small)

  second : to_z w64 (of_z w64 (to_z w128 (of_z w128
      (int_rem (to_z w128 (of_z w128 a)) (to_z w128 (of_z w128 d)))))) ≡ int_rem a b
  second = ap (λ z. to_z w64 (of_z w64 (to_z w128 (of_z w128 z)))) remainder
      ∙ through (int_rem a b) (wider (int_rem a b) (rem_fits a b fb some)) (rem_fits a b fb some)

  pub code_answer : (r : ℤ) → r ≡ int_rem (to_z w128 (of_z w128 a)) (to_z w128 (of_z w128 d))
      → Ok (
        to_z w64 (of_z w64 (to_z w128 (of_z w128 q))),
        to_z w64 (of_z w64 (to_z w128 (of_z w128 r))),
      ) ≡ divided_signed w a b
  code_answer r r_is = (λ i. Ok (
    first i,
    (ap (λ z. to_z w64 (of_z w64 (to_z w128 (of_z w128 z))))
        r_is ∙ second) i,
  )) ∙ divided w a b some is_small

  pub code_quotient : (r : ℤ) → r ≡ int_rem (to_z w128 (of_z w128 a)) (to_z w128 (of_z w128 d))
      → IsSignedDivision a b (to_z w64 (of_z w64 (to_z w128 (of_z w128 q))))
      (to_z w64 (of_z w64 (to_z w128 (of_z w128 r))))
  code_quotient r r_is =
      let e = ap (λ z. to_z w64 (of_z w64 (to_z w128 (of_z w128 z)))) r_is ∙ second in
      subst (λ (x : ℤ). IsSignedDivision a b x (to_z w64 (of_z w64 (to_z w128 (of_z w128 r)))))
      (sym first) (subst (λ (x : ℤ). IsSignedDivision a b (int_div a b) x) (sym e)
      (signed_division a b some))
