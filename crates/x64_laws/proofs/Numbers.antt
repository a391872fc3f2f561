-- Whole numbers modulo the limit of a width.
use Rattle.std.proofs.Common.{◌≡◌, ℕ, zero, suc, ◌+◌, ◌-◌, ◌*◌, ◌<◌, ◌≤◌, true, ℤ, pos, negsuc, ◌-ℤ◌, sym, ap, ◌∙◌, arith, inl, inr}
use Rattle.std.proofs.Math.IntN.{neg_ℤ}
use Rattle.std.proofs.lemmas.Bool.{cases_lt, lt-ltb, ltb-true}
use Rattle.std.proofs.lemmas.Int.{ints}
use Rattle.x64_laws.specs.Words.{Width, W8, W16, W32, W64, bytes_of, limit, half, low, signed, wrapped, is_signed}
use Rattle.x64_laws.proofs.Lemmas.{limits, low_is, low_below, signed_low, signed_high, signed_twice}

-- numbers that differ by multiples of the limit have the same low bits
pub low_same : (w : Width) (x y k m : ℕ) → x + limit w * k ≡ y + limit w * m → low w x ≡ low w y
low_same W8 x y k m e = omega arith
low_same W16 x y k m e = omega arith
low_same W32 x y k m e = omega arith
low_same W64 x y k m e = omega arith

below_pos : (n m : ℕ) → n < m → pos n -ℤ pos m ≡ negsuc (m - n - 1)
below_pos n m lt = omega (arith, ints)

above_pos : (n m : ℕ) → m ≤ n → pos n -ℤ pos m ≡ pos (n - m)
above_pos n m le = omega (arith, ints)

-- the low bits of a number below 0
low_negsuc : (w : Width) (x y k : ℕ) → x + 1 + y ≡ limit w * k → limit w - 1 - low w x ≡ low w y
low_negsuc W8 x y k e = omega arith
low_negsuc W16 x y k e = omega arith
low_negsuc W32 x y k e = omega arith
low_negsuc W64 x y k e = omega arith

-- less a multiple of the limit
pub wrapped_from : (w : Width) (z : ℤ) (n k : ℕ) → z ≡ pos n -ℤ pos (limit w * k)
    → wrapped w z ≡ low w n
wrapped_from w z n k e = elim (cases_lt n (limit w * k)) [
  | inl lt ↦
      let s : (limit w * k - n - 1) + 1 + n ≡ limit w * k = omega arith in
      ap (wrapped w) (e ∙ below_pos n (limit w * k) lt) ∙ low_negsuc w (limit w * k - n - 1) n k s
  | inr ge ↦
      let s : n - limit w * k + limit w * k ≡ n + limit w * 0 = omega arith in
      ap (wrapped w) (e ∙ above_pos n (limit w * k) ge) ∙ low_same w (n - limit w * k) n k 0 s
]

-- the negative of a number
pub wrapped_neg : (w : Width) (x y k : ℕ) → x + y ≡ limit w * k
    → wrapped w (neg_ℤ (pos x)) ≡ low w y
wrapped_neg w zero y k e = let s : 0 + limit w * k ≡ y + limit w * 0 = omega arith in
    low_same w 0 y k 0 s
wrapped_neg w (suc x) y k e = let s : x + 1 + y ≡ limit w * k = omega arith in low_negsuc w x y k s

-- a signed number of the width is what its low bits represent
pub signed_wrapped : (w : Width) (z : ℤ) → is_signed w z ≡ true → signed w (wrapped w z) ≡ z
signed_wrapped w (pos n) e =
    let lt = ltb-true n (half w) e in
    let two = limits w in
    ap (signed w) (low_is w n (omega arith)) ∙ signed_low w n lt
signed_wrapped w (negsuc n) e =
    let lt = ltb-true n (half w) e in
    let two = limits w in
    let kept : low w n ≡ n = low_is w n (omega arith) in
    let same : limit w - 1 - (limit w - 1 - n) ≡ n = omega arith in
    ap (λ (x : ℕ). signed w (limit w - 1 - x)) kept
    ∙ signed_high w (limit w - 1 - n) (omega arith) (omega arith)
    ∙ ap negsuc same

-- a narrower number is one of the width
pub half_at_most : (n w : Width) → bytes_of n ≤ bytes_of w → half n ≤ half w
half_at_most W8 W8 h = omega arith
half_at_most W8 W16 h = omega arith
half_at_most W8 W32 h = omega arith
half_at_most W8 W64 h = omega arith
half_at_most W16 W8 h = absurd (omega arith)
half_at_most W16 W16 h = omega arith
half_at_most W16 W32 h = omega arith
half_at_most W16 W64 h = omega arith
half_at_most W32 W8 h = absurd (omega arith)
half_at_most W32 W16 h = absurd (omega arith)
half_at_most W32 W32 h = omega arith
half_at_most W32 W64 h = omega arith
half_at_most W64 W8 h = absurd (omega arith)
half_at_most W64 W16 h = absurd (omega arith)
half_at_most W64 W32 h = absurd (omega arith)
half_at_most W64 W64 h = omega arith

pub is_signed_wider : (n w : Width) (v : ℕ) → bytes_of n ≤ bytes_of w
    → is_signed w (signed n v) ≡ true
is_signed_wider n w v h =
    let le = half_at_most n w h in
    let two = limits n in
    let below = low_below n v in
    elim (cases_lt (low n v) (half n)) [
      | inl lt ↦ ap (is_signed w) (sym (signed_twice n v) ∙ signed_low n (low n v) lt)
          ∙ lt-ltb (low n v) (half w) (omega arith)
      | inr ge ↦ ap (is_signed w) (sym (signed_twice n v) ∙ signed_high n (low n v) ge below)
          ∙ lt-ltb (limit n - 1 - low n v) (half w) (omega arith)
    ]

pub half_positive : (w : Width) → 0 < half w
half_positive W8 = omega arith
half_positive W16 = omega arith
half_positive W32 = omega arith
half_positive W64 = omega arith

pub limit_positive : (w : Width) → 0 < limit w
limit_positive w = let two = limits w in let some = half_positive w in omega arith

-- the bits of a number of the width are those of the signed number that they represent
pub wrapped_signed : (w : Width) (a : ℕ) → a < limit w → wrapped w (signed w a) ≡ a
wrapped_signed w a lt = elim (cases_lt a (half w)) [
  | inl l ↦ ap (wrapped w) (signed_low w a l) ∙ low_is w a lt
  | inr g ↦
      let s : limit w - 1 - (limit w - 1 - a) ≡ a = omega arith in
      ap (wrapped w) (signed_high w a g lt) ∙ ap (λ (k : ℕ). limit w - 1 - k)
      (low_is w (limit w - 1 - a) (omega arith)) ∙ s
]
