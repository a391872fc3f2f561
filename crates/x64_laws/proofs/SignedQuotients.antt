-- A signed division has one quotient and one remainder.
use Rattle.std.proofs.Common.{◌≡◌, ℕ, zero, suc, ◌<◌, ◌≤◌, true, ℤ, pos, negsuc, ◌+ℤ◌, ◌-ℤ◌, ◌*ℤ◌, ◌<ℤ◌, refl, sym, ap, subst, ◌∙◌, arith, inl, inr}
use Rattle.std.specs.Prelude.{unsigned_abs, int_div, int_rem}
use Rattle.std.proofs.lemmas.Bool.{cases_lt, lt-ltb}
use Rattle.std.proofs.lemmas.Int.{ints, unsigned_abs-mul}
use Rattle.std.proofs.Math.IntN.{suc_ℤ, pred_ℤ, suc_ℤ-*ℤ, pred_ℤ-*ℤ, zero-*ℤ}
use Rattle.std.proofs.Math.Nat.{mul-le-mul_right}
use Rattle.seh_num.specs.Division.{IsSignedDivision, HasSignOf}
use Rattle.seh_num.proofs.Quotients.{signed_division}
use Rattle.x64_laws.specs.Words.{Width, limit, half, signed, is_signed}
use Rattle.x64_laws.proofs.Lemmas.{limits, signed_low, signed_high}

-- ---- products of differences

less_one : (z : ℤ) → pred_ℤ z ≡ z -ℤ pos 1
less_one (pos zero) = refl
less_one (pos (suc n)) = omega (arith, ints)
less_one (negsuc n) = omega (arith, ints)

one_more : (z : ℤ) → suc_ℤ z ≡ z +ℤ pos 1
one_more (pos n) = omega (arith, ints)
one_more (negsuc zero) = refl
one_more (negsuc (suc n)) = omega (arith, ints)

less_product : (m k : ℤ) → (m -ℤ pos 1) *ℤ k ≡ (m *ℤ k) -ℤ k
less_product m k = ap (λ (z : ℤ). z *ℤ k) (sym (less_one m)) ∙ pred_ℤ-*ℤ m k

more_product : (m k : ℤ) → (m +ℤ pos 1) *ℤ k ≡ (m *ℤ k) +ℤ k
more_product m k = ap (λ (z : ℤ). z *ℤ k) (sym (one_more m)) ∙ suc_ℤ-*ℤ m k

less_natural : (x k : ℤ) (n : ℕ) → (x -ℤ pos n) *ℤ k ≡ (x *ℤ k) -ℤ (pos n *ℤ k)
less_natural x k zero =
    let e : x -ℤ pos 0 ≡ x = omega (arith, ints) in
    let z : pos 0 *ℤ k ≡ pos 0 = zero-*ℤ k in
    let p = x *ℤ k in
    let m = pos 0 *ℤ k in
    let f : p ≡ p -ℤ m = omega (arith, ints) in
    ap (λ (y : ℤ). y *ℤ k) e ∙ f
less_natural x k (suc n) =
    let e : x -ℤ pos (suc n) ≡ (x -ℤ pos n) -ℤ pos 1 = omega (arith, ints) in
    let g : pos (suc n) ≡ pos n +ℤ pos 1 = omega (arith, ints) in
    let a = ap (λ (y : ℤ). y *ℤ k) e ∙ less_product (x -ℤ pos n) k in
    let b = less_natural x k n in
    let c = ap (λ (y : ℤ). y *ℤ k) g ∙ more_product (pos n) k in
    omega (arith, ints)

pub difference_product : (x y k : ℤ) → (x -ℤ y) *ℤ k ≡ (x *ℤ k) -ℤ (y *ℤ k)
difference_product x (pos n) k = less_natural x k n
difference_product x (negsuc n) k =
    let e : (x -ℤ negsuc n) -ℤ pos (suc n) ≡ x = omega (arith, ints) in
    let g : negsuc n ≡ pos 0 -ℤ pos (suc n) = omega (arith, ints) in
    let a = less_natural (x -ℤ negsuc n) k (suc n) in
    let b = ap (λ (z : ℤ). z *ℤ k) e in
    let c = ap (λ (z : ℤ). z *ℤ k) g ∙ less_natural (pos 0) k (suc n) in
    let d = less_natural x k 0 in
    let f = ap (λ (z : ℤ). z *ℤ k) (let u : x -ℤ pos 0 ≡ x = omega (arith, ints) in u) in
    omega (arith, ints)

-- ---- sizes

abs_below : (z : ℤ) (m : ℕ) → z <ℤ pos m → (pos 0 -ℤ pos m) <ℤ z → unsigned_abs z < m
abs_below (pos n) m h k = omega (arith, ints)
abs_below (negsuc n) m h k = omega (arith, ints)

under : (z : ℤ) (m : ℕ) → unsigned_abs z < m → z <ℤ pos m
under (pos n) m h = omega (arith, ints)
under (negsuc n) m h = omega (arith, ints)

over : (z : ℤ) (m : ℕ) → unsigned_abs z < m → (pos 0 -ℤ pos m) <ℤ z
over (pos n) m h = omega (arith, ints)
over (negsuc n) m h = omega (arith, ints)

-- two remainders are nearer to each other than the divisor to 0
near : (a r s : ℤ) (m : ℕ) → HasSignOf a r → HasSignOf a s → unsigned_abs r < m → unsigned_abs s < m
    → unsigned_abs (s -ℤ r) < m
near (pos n) r s m hr hs lr ls =
    let ur = under r m lr in
    let us = under s m ls in
    abs_below (s -ℤ r) m (omega (arith, ints)) (omega (arith, ints))
near (negsuc n) r s m hr hs lr ls =
    let ur = over r m lr in
    let us = over s m ls in
    abs_below (s -ℤ r) m (omega (arith, ints)) (omega (arith, ints))

zero_abs : (z : ℤ) → unsigned_abs z ≡ 0 → z ≡ pos 0
zero_abs (pos n) e = ap pos e
zero_abs (negsuc n) e = absurd (omega arith)

-- a product that is nearer to 0 than a factor is that of 0
few_times : (z b : ℤ) → unsigned_abs (z *ℤ b) < unsigned_abs b → z ≡ pos 0
few_times z b h =
    let e = unsigned_abs-mul z b in
    elim (cases_lt (unsigned_abs z) 1) [
      | inl lt ↦ zero_abs z (omega arith)
      | inr ge ↦
          let le = mul-le-mul_right (unsigned_abs b) ge in
          absurd (omega arith)
    ]

-- the quotient and the remainder of the definition
pub record IsOnly (a b q r : ℤ) : Type 0 where
  pub quotient : int_div a b ≡ q
  pub remainder : int_rem a b ≡ r

pub once : (a b q r : ℤ) → 0 < unsigned_abs b → IsSignedDivision a b q r → IsOnly a b q r
once a b q r some is =
    let other = signed_division a b some in
    let q' = int_div a b in
    let r' = int_rem a b in
    let sum = is.sum in
    let sum' = other.sum in
    let d = difference_product q' q b in
    let left = q' *ℤ b in
    let right = q *ℤ b in
    let e : (q' -ℤ q) *ℤ b ≡ r -ℤ r' = omega (arith, ints) in
    let close = near a r' r (unsigned_abs b) other.sign is.sign other.small is.small in
    let zero = few_times (q' -ℤ q) b
    (subst (λ (z : ℤ). unsigned_abs z < unsigned_abs b) (sym e) close) in
    let same : q' ≡ q = omega (arith, ints) in
    let f = ap (λ (z : ℤ). z *ℤ b) same in
    record { quotient = same; remainder = omega (arith, ints) }

-- ---- within a width

pub abs_signed : (w : Width) (v : ℕ) → v < limit w → unsigned_abs (signed w v) ≤ half w
abs_signed w v lt =
    let two = limits w in
    elim (cases_lt v (half w)) [
      | inl l ↦ subst (λ (z : ℤ). unsigned_abs z ≤ half w) (sym (signed_low w v l)) (omega arith)
      | inr g ↦ subst (λ (z : ℤ). unsigned_abs z ≤ half w) (sym (signed_high w v g lt))
          (omega arith)
    ]

pub small_signed : (w : Width) (z : ℤ) → unsigned_abs z < half w → is_signed w z ≡ true
small_signed w (pos n) h = lt-ltb n (half w) h
small_signed w (negsuc n) h = lt-ltb n (half w) (omega arith)
