-- An arithmetic shift to the right rounds down.
use Rattle.std.proofs.Common.{◌≡◌, ℕ, zero, suc, ◌+◌, ◌-◌, ◌*◌, ◌/◌, ◌%◌, ◌^◌, ◌<◌, ◌≤◌, Bool, true, false, cond, ltb, ℤ, pos, negsuc, ◌+ℤ◌, ◌*ℤ◌, ◌≤ℤ◌, ◌<ℤ◌, refl, sym, ap, ◌∙◌, arith, inl, inr, subst}
use Rattle.std.proofs.Math.IntN.{neg_ℤ, pos-*ℤ-pos, negsuc-*ℤ-pos}
use Rattle.std.proofs.Math.Nat.{mul_comm, mul_assoc, one-mul, mul-add, suc-mul, mod-add-div, mod-lt, div-le_self, pow-succ', mul-add-div, mul-le-mul_left, mul-le-mul_right, div-eq_of_lt}
use Rattle.std.proofs.lemmas.Bool.{cases_lt, lt-ltb, le-ltb}
use Rattle.std.proofs.lemmas.Int.{ints}
use Rattle.x64_laws.specs.Words.{Width, W8, W16, W32, W64, bytes_of, limit, half, low, signed, ArithmeticRight, shifted, IsFloor}
use Rattle.x64_laws.proofs.Lemmas.{limits, low_is, low_below, signed_low, signed_high}

-- a number that isn't below 0
pub floor_pos : (a p : ℕ) → 0 < p → IsFloor (pos a) p (pos (a / p))
floor_pos a p some =
    let e = mod-add-div a p in
    let c : a / p * p ≡ p * (a / p) = mul_comm (a / p) p in
    let lt = mod-lt a some in
    let m : suc (a / p) * p ≡ a / p * p + p = suc-mul (a / p) p in
    let q = a / p in
    let le : pos (q * p) ≤ℤ pos a = omega (arith, ints) in
    let more : pos a <ℤ pos (suc q * p) = omega (arith, ints) in
    let one : pos q +ℤ pos 1 ≡ pos (suc q) = omega (arith, ints) in
    record {
      at_most = subst (λ (z : ℤ). z ≤ℤ pos a) (sym (pos-*ℤ-pos q p)) le;
      next_is_more = subst (λ (z : ℤ). pos a <ℤ z)
          (sym (ap (λ (z : ℤ). z *ℤ pos p) one ∙ pos-*ℤ-pos (suc q) p)) more;
    }

-- one below 0
floor_negsuc : (m p : ℕ) → 0 < p → IsFloor (negsuc m) p (negsuc (m / p))
floor_negsuc m p some =
    let e = mod-add-div m p in
    let c : m / p * p ≡ p * (m / p) = mul_comm (m / p) p in
    let lt = mod-lt m some in
    let s : suc (m / p) * p ≡ m / p * p + p = suc-mul (m / p) p in
    let q = m / p in
    let le : neg_ℤ (pos (suc q * p)) ≤ℤ negsuc m = at_most (suc q * p) m (omega arith) in
    let more : negsuc m <ℤ neg_ℤ (pos (q * p)) = above (q * p) m (omega arith) in
    record {
      at_most = subst (λ (z : ℤ). z ≤ℤ negsuc m) (sym (negsuc-*ℤ-pos q p)) le;
      next_is_more = subst (λ (z : ℤ). negsuc m <ℤ z) (sym (next q p)) more;
    }
  where
    at_most : (k m : ℕ) → m < k → neg_ℤ (pos k) ≤ℤ negsuc m
    at_most zero m lt = absurd (omega arith)
    at_most (suc k) m lt = omega (arith, ints)

    above : (k m : ℕ) → k ≤ m → negsuc m <ℤ neg_ℤ (pos k)
    above zero m le = omega (arith, ints)
    above (suc k) m le = omega (arith, ints)

    next : (q p : ℕ) → (negsuc q +ℤ pos 1) *ℤ pos p ≡ neg_ℤ (pos (q * p))
    next zero p = let z : 0 * p ≡ 0 = omega arith in pos-*ℤ-pos 0 p ∙ ap pos z
        ∙ sym (ap (λ (k : ℕ). neg_ℤ (pos k)) z)
    next (suc q) p = let one : negsuc (suc q) +ℤ pos 1 ≡ negsuc q = omega (arith, ints) in
        ap (λ (z : ℤ). z *ℤ pos p) one ∙ negsuc-*ℤ-pos q p

-- the limit of a width is a power of two, which the power of a smaller count divides
pub limit_is : (w : Width) → limit w ≡ 2 ^ (8 * bytes_of w)
limit_is W8 = refl
limit_is W16 = refl
limit_is W32 = refl
limit_is W64 = refl

pub power_sum : (c k : ℕ) → 2 ^ (c + k) ≡ 2 ^ c * 2 ^ k
power_sum zero k = (let z : 0 + k ≡ k = omega arith in ap (λ (n : ℕ). 2 ^ n) z)
    ∙ sym (one-mul (2 ^ k))
power_sum (suc c) k =
    (let z : suc c + k ≡ suc (c + k) = omega arith in ap (λ (n : ℕ). 2 ^ n) z)
    ∙ pow-succ' 2 (c + k) ∙ ap (λ (n : ℕ). 2 * n) (power_sum c k)
    ∙ sym (mul_assoc 2 (2 ^ c) (2 ^ k)) ∙ ap (λ (n : ℕ). n * 2 ^ k) (sym (pow-succ' 2 c))

pub power_positive : (c : ℕ) → 0 < 2 ^ c
power_positive zero = omega arith
power_positive (suc c) = let p = power_positive c in let e = pow-succ' 2 c in omega arith

record Parts (w : Width) (c : ℕ) : Type 0 where
  others : ℕ
  is : 2 ^ c * (2 * others) ≡ limit w
  some : 0 < 2 ^ c
  more : 0 < others

parts : (w : Width) (c : ℕ) → c < 8 * bytes_of w → Parts w c
parts w c lt =
    let k = 8 * bytes_of w - 1 - c in
    let e : c + suc k ≡ 8 * bytes_of w = omega arith in
    record {
      others = 2 ^ k;
      is =
          ap (λ (n : ℕ). 2 ^ c * n) (sym (pow-succ' 2 k)) ∙ sym (power_sum c (suc k))
          ∙ ap (λ (n : ℕ). 2 ^ n) e ∙ sym (limit_is w);
      some = power_positive c;
      more = power_positive k;
    }

pub quotient_is : (p q r a : ℕ) → r < p → p * q + r ≡ a → a / p ≡ q
quotient_is p q r a lt e =
    let some : 0 < p = omega arith in
    ap (λ (n : ℕ). n / p) (sym e) ∙ mul-add-div some q r ∙ ap (λ (n : ℕ). q + n) (div-eq_of_lt lt)
    ∙ (let z : q + 0 ≡ q = omega arith in z)

-- of the bits of a number below 0: what is m above the top, divided
high_quotient : (p o m a : ℕ) → 0 < p → a + m + 1 ≡ p * (2 * o) → m / p < 2 * o
    → a / p ≡ 2 * o - 1 - m / p
high_quotient p o m a some e lt =
    let d = mod-add-div m p in
    let r = mod-lt m some in
    let n : ℕ = 2 * o - 1 - m / p in
    let whole : n + (1 + m / p) ≡ 2 * o = omega arith in
    let split : p * n + p * (1 + m / p) ≡ p * (2 * o) = sym (mul-add p n (1 + m / p))
    ∙ ap (λ (k : ℕ). p * k) whole in
    let more : p * (1 + m / p) ≡ p * 1 + p * (m / p) = mul-add p 1 (m / p) in
    quotient_is p n (p - 1 - m % p) a (omega arith) (omega arith)

below_half : (p o m : ℕ) → 0 < p → m < p * o → m / p < o
below_half p o m some lt = elim (cases_lt (m / p) o) [
  | inl l ↦ l
  | inr ge ↦ let d = mod-add-div m p in let k = mul-le-mul_left p ge in absurd (omega arith)
]

module _ (w : Width) (a c : ℕ) (high : half w ≤ a) (lt : a < limit w) (few : c < 8 * bytes_of w)
  where
    abbrev p : ℕ
    p = 2 ^ c

    abbrev m : ℕ
    m = limit w - 1 - a

    abbrev x : ℕ
    x = m / p

    abbrev o : ℕ
    o = (parts w c few).others

    whole : p * (2 * o) ≡ limit w
    whole = (parts w c few).is

    some : 0 < p
    some = (parts w c few).some

    twice : p * (2 * o) ≡ 2 * (p * o)
    twice = sym (mul_assoc p 2 o) ∙ ap (λ (n : ℕ). n * o) (mul_comm p 2) ∙ mul_assoc 2 p o

    half_is : p * o ≡ half w
    half_is = let two = limits w in let s = whole in let t = twice in omega arith

    small : x < o
    small = below_half p o m some (let h = half_is in let two = limits w in omega arith)

    at_most_half : o ≤ half w
    at_most_half = let h = half_is in let k = mul-le-mul_right o some in omega arith

    shifted_is : low w (a / p + (limit w - limit w / p)) ≡ limit w - 1 - x
    shifted_is =
        let q : a / p ≡ 2 * o - 1 - x = high_quotient p o m a some (let s = whole in omega arith)
        (let h = small in omega arith) in
        let l : limit w / p ≡ 2 * o = quotient_is p (2 * o) 0 (limit w) some
        (let s = whole in omega arith) in
        let two = limits w in
        let h = at_most_half in
        let k = small in
        let v : a / p + (limit w - limit w / p) ≡ limit w - 1 - x = omega arith in
        ap (low w) v ∙ low_is w (limit w - 1 - x) (omega arith)

    signed_shifted : signed w (low w (a / p + (limit w - limit w / p))) ≡ negsuc x
    signed_shifted =
        let two = limits w in
        let h = at_most_half in
        let k = small in
        let s : limit w - 1 - (limit w - 1 - x) ≡ x = omega arith in
        ap (signed w) shifted_is ∙ signed_high w (limit w - 1 - x) (omega arith) (omega arith)
        ∙ ap negsuc s

    high_floor : IsFloor (signed w a) p (signed w (low w (a / p + (limit w - limit w / p))))
    high_floor =
        subst (λ (z : ℤ). IsFloor z p (signed w (low w (a / p + (limit w - limit w / p)))))
        (sym (signed_high w a high lt))
        (subst (λ (z : ℤ). IsFloor (negsuc m) p z) (sym signed_shifted) (floor_negsuc m p some))

low_floor : (w : Width) (a p : ℕ) → a < half w → 0 < p → IsFloor (signed w a) p (signed w (a / p))
low_floor w a p l some =
    let d = div-le_self a p in
    subst (λ (z : ℤ). IsFloor z p (signed w (a / p))) (sym (signed_low w a l))
    (subst (λ (z : ℤ). IsFloor (pos a) p z) (sym (signed_low w (a / p) (omega arith)))
    (floor_pos a p some))

-- an arithmetic shift gives the floor of the signed quotient
pub shifted_floor : (w : Width) (a c : ℕ) → a < limit w → c < 8 * bytes_of w
    → IsFloor (signed w a) (2 ^ c) (signed w (shifted ArithmeticRight w a c))
shifted_floor w a c lt few = elim (cases_lt a (half w)) [
  | inl l ↦ subst (λ (b : Bool). IsFloor (signed w a) (2 ^ c)
      (signed w (cond b (a / 2 ^ c) (low w (a / 2 ^ c + (limit w - limit w / 2 ^ c))))))
      (sym (lt-ltb a (half w) l)) (low_floor w a (2 ^ c) l (power_positive c))
  | inr g ↦ subst (λ (b : Bool). IsFloor (signed w a) (2 ^ c)
      (signed w (cond b (a / 2 ^ c) (low w (a / 2 ^ c + (limit w - limit w / 2 ^ c))))))
      (sym (le-ltb a (half w) g)) (high_floor w a c g lt few)
]

-- which is a number of the width
pub shifted_below : (w : Width) (a c : ℕ) → a < limit w → shifted ArithmeticRight w a c < limit w
shifted_below w a c lt = either (ltb a (half w))
  where
    either : (b : Bool) → cond b (a / 2 ^ c) (low w (a / 2 ^ c + (limit w - limit w / 2 ^ c)))
        < limit w
    either true = let d = div-le_self a (2 ^ c) in omega arith
    either false = low_below w (a / 2 ^ c + (limit w - limit w / 2 ^ c))
