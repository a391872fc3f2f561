-- Sums, differences and products of a width are those of whole numbers modulo its limit.
use Rattle.std.proofs.Common.{◌≡◌, ℕ, suc, ◌+◌, ◌-◌, ◌*◌, ◌<◌, ◌≤◌, ℤ, pos, negsuc, ◌+ℤ◌, ◌-ℤ◌, ◌*ℤ◌, sym, ap, ◌∙◌, arith, inl, inr}
use Rattle.std.proofs.Math.IntN.{neg_ℤ, *ℤ_comm, pos-*ℤ-pos, pos-*ℤ-negsuc, negsuc-*ℤ-negsuc}
use Rattle.std.proofs.Math.Nat.{mul_comm, mul-add, mul-suc}
use Rattle.std.proofs.lemmas.Bool.{cases_lt}
use Rattle.std.proofs.lemmas.Int.{ints}
use Rattle.x64_laws.specs.Words.{Width, limit, half, low, signed, wrapped}
use Rattle.x64_laws.proofs.Lemmas.{signed_low, signed_high}
use Rattle.x64_laws.proofs.Numbers.{low_same, wrapped_from, wrapped_neg}

-- a signed number is its bits less a multiple of the limit
pub record Bits (w : Width) (a : ℕ) : Type 0 where
  pub times : ℕ
  pub few : times ≤ 1
  pub is : signed w a ≡ pos a -ℤ pos (limit w * times)

pub bits : (w : Width) (a : ℕ) → a < limit w → Bits w a
bits w a lt = elim (cases_lt a (half w)) [
  | inl l ↦ record {
    times = 0;
    few = omega arith;
    is = signed_low w a l
        ∙ (let z : pos a ≡ pos a -ℤ pos (limit w * 0) = omega (arith, ints) in z);
  }
  | inr g ↦ record {
    times = 1;
    few = omega arith;
    is = signed_high w a g lt
        ∙ (let z : negsuc (limit w - 1 - a) ≡ pos a -ℤ pos (limit w * 1) = omega (arith, ints) in
        z);
  }
]

sum_of : (a b m n : ℕ) → (pos a -ℤ pos m) +ℤ (pos b -ℤ pos n) ≡ pos (a + b) -ℤ pos (m + n)
sum_of a b m n = omega (arith, ints)

difference_of : (a b m n l : ℕ) → b ≤ l → (pos a -ℤ pos m) -ℤ (pos b -ℤ pos n)
    ≡ pos (a + (l - b) + n) -ℤ pos (l + m)
difference_of a b m n l le = omega (arith, ints)

-- the bits of a sum
pub sum_bits : (w : Width) (a b : ℕ) → a < limit w → b < limit w
    → low w (a + b) ≡ wrapped w (signed w a +ℤ signed w b)
sum_bits w a b la lb =
    let x = bits w a la in
    let y = bits w b lb in
    let m : limit w * x.times + limit w * y.times
    ≡ limit w * (x.times + y.times) = sym (mul-add (limit w) x.times y.times) in
    sym (wrapped_from w (signed w a +ℤ signed w b) (a + b) (x.times + y.times)
    (ap (λ (z : ℤ). z +ℤ signed w b) x.is ∙ ap (λ (z : ℤ). (pos a -ℤ pos (limit w * x.times)) +ℤ z)
    y.is
    ∙ sum_of a b (limit w * x.times) (limit w * y.times) ∙ ap (λ (k : ℕ). pos (a + b) -ℤ pos k) m))

-- the bits of a difference
pub difference_bits : (w : Width) (a b : ℕ) → a < limit w → b < limit w
    → low w (a + (limit w - b)) ≡ wrapped w (signed w a -ℤ signed w b)
difference_bits w a b la lb =
    let x = bits w a la in
    let y = bits w b lb in
    let m : limit w + limit w * x.times ≡ limit w * suc x.times = omega
    (arith, mul-suc (limit w) x.times) in
    let same : low w (a + (limit w - b) + limit w * y.times) ≡ low w (a + (limit w - b)) =
    low_same w (a + (limit w - b) + limit w * y.times) (a + (limit w - b)) 0 y.times
    (omega arith) in
    sym (wrapped_from w (signed w a -ℤ signed w b) (a + (limit w - b) + limit w * y.times)
    (suc x.times)
    (ap (λ (z : ℤ). z -ℤ signed w b) x.is ∙ ap (λ (z : ℤ). (pos a -ℤ pos (limit w * x.times)) -ℤ z)
    y.is
    ∙ difference_of a b (limit w * x.times) (limit w * y.times) (limit w) (omega arith)
    ∙ ap (λ (k : ℕ). pos (a + (limit w - b) + limit w * y.times) -ℤ pos k) m)
    ∙ same)

-- ---- products

-- a product of what is left to the limit
left_product : (l a b : ℕ) → b ≤ l → a * (l - b) + a * b ≡ l * a
left_product l a b le =
    let s : l - b + b ≡ l = omega arith in
    sym (mul-add a (l - b) b) ∙ ap (λ (k : ℕ). a * k) s ∙ mul_comm a l

product_low_high : (w : Width) (a b : ℕ) → a < half w → half w ≤ b → b < limit w
    → low w (a * b) ≡ wrapped w (signed w a *ℤ signed w b)
product_low_high w a b la gb lb =
    let s : suc (limit w - 1 - b) ≡ limit w - b = omega arith in
    sym (ap (λ (z : ℤ). wrapped w (z *ℤ signed w b)) (signed_low w a la)
    ∙ ap (λ (z : ℤ). wrapped w (pos a *ℤ z)) (signed_high w b gb lb)
    ∙ ap (wrapped w) (pos-*ℤ-negsuc a (limit w - 1 - b))
    ∙ ap (λ (k : ℕ). wrapped w (neg_ℤ (pos (a * k)))) s
    ∙ wrapped_neg w (a * (limit w - b)) (a * b) a (left_product (limit w) a b (omega arith)))

product_high_low : (w : Width) (a b : ℕ) → half w ≤ a → a < limit w → b < half w
    → low w (a * b) ≡ wrapped w (signed w a *ℤ signed w b)
product_high_low w a b ga la lb =
    ap (low w) (mul_comm a b) ∙ product_low_high w b a lb ga la
    ∙ ap (wrapped w) (*ℤ_comm (signed w b) (signed w a))

product_low_low : (w : Width) (a b : ℕ) → a < half w → b < half w
    → low w (a * b) ≡ wrapped w (signed w a *ℤ signed w b)
product_low_low w a b la lb =
    sym (ap (λ (z : ℤ). wrapped w (z *ℤ signed w b)) (signed_low w a la)
    ∙ ap (λ (z : ℤ). wrapped w (pos a *ℤ z)) (signed_low w b lb)
    ∙ ap (wrapped w) (pos-*ℤ-pos a b))

-- the product of two that are left: (l - a)(l - b) + l b = a b + l (l - a)
both_left : (l a b : ℕ) → a ≤ l → b ≤ l → (l - a) * (l - b) + l * b ≡ a * b + l * (l - a)
both_left l a b la lb =
    let p = left_product l (l - a) b lb in
    let q = left_product l b a la in
    let r : (l - a) * b ≡ b * (l - a) = mul_comm (l - a) b in
    let t : a * b ≡ b * a = mul_comm a b in
    omega arith

product_high_high : (w : Width) (a b : ℕ) → half w ≤ a → a < limit w → half w ≤ b → b < limit w
    → low w (a * b) ≡ wrapped w (signed w a *ℤ signed w b)
product_high_high w a b ga la gb lb =
    let s : suc (limit w - 1 - a) ≡ limit w - a = omega arith in
    let t : suc (limit w - 1 - b) ≡ limit w - b = omega arith in
    let e = both_left (limit w) a b (omega arith) (omega arith) in
    sym (ap (λ (z : ℤ). wrapped w (z *ℤ signed w b)) (signed_high w a ga la)
    ∙ ap (λ (z : ℤ). wrapped w (negsuc (limit w - 1 - a) *ℤ z)) (signed_high w b gb lb)
    ∙ ap (wrapped w) (negsuc-*ℤ-negsuc (limit w - 1 - a) (limit w - 1 - b))
    ∙ ap (λ (k : ℕ). low w (k * suc (limit w - 1 - b))) s
    ∙ ap (λ (k : ℕ). low w ((limit w - a) * k)) t
    ∙ low_same w ((limit w - a) * (limit w - b)) (a * b) b (limit w - a) e)

-- the bits of a product
pub product_bits : (w : Width) (a b : ℕ) → a < limit w → b < limit w
    → low w (a * b) ≡ wrapped w (signed w a *ℤ signed w b)
product_bits w a b la lb = elim (cases_lt a (half w)) [
  | inl ha ↦ elim (cases_lt b (half w)) [
    | inl hb ↦ product_low_low w a b ha hb
    | inr
        hb ↦ product_low_high w a b ha hb lb
  ]
  | inr ha ↦ elim (cases_lt b (half w)) [
    | inl hb ↦ product_high_low w a b ha la hb
    | inr
        hb ↦ product_high_high w a b ha la hb lb
  ]
]
