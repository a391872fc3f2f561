-- Numbers of a width and their signs.
use Rattle.std.proofs.Common.{◌≡◌, ℕ, ◌-◌, ◌*◌, ◌<◌, ◌≤◌, Bool, true, false, cond, ltb, ℤ, pos, negsuc, ◌-ℤ◌, refl, ap, ◌∙◌, arith}
use Rattle.std.proofs.lemmas.Bool.{lt-ltb, le-ltb}
use Rattle.std.proofs.lemmas.Int.{ints}
use Rattle.seh_num.specs.declared.width.Width.{Width}
use Rattle.seh_num.specs.declared.width.Width.TheVariants.{W8, W16, W32, W64}
use Rattle.seh_num.specs.Widths.{limit, half, low, signed, wrapped}

-- a limit is twice its half
pub limits : (w : Width) → limit w ≡ 2 * half w
limits W8 = refl
limits W16 = refl
limits W32 = refl
limits W64 = refl

-- a number of the width is its own low bits
pub low_is : (w : Width) (n : ℕ) → n < limit w → low w n ≡ n
low_is W8 n lt = omega arith
low_is W16 n lt = omega arith
low_is W32 n lt = omega arith
low_is W64 n lt = omega arith

-- one above it by less than the limit is that much
pub low_over : (w : Width) (n : ℕ) → limit w ≤ n → n < 2 * limit w → low w n ≡ n - limit w
low_over W8 n le lt = omega arith
low_over W16 n le lt = omega arith
low_over W32 n le lt = omega arith
low_over W64 n le lt = omega arith

-- low bits are below the limit
pub low_below : (w : Width) (n : ℕ) → low w n < limit w
low_below W8 n = omega arith
low_below W16 n = omega arith
low_below W32 n = omega arith
low_below W64 n = omega arith

-- below half a number represents itself
pub signed_low : (w : Width) (a : ℕ) → a < half w → signed w a ≡ pos a
signed_low w a lt =
    let two = limits w in
    let e : low w a ≡ a = low_is w a (omega arith) in
    let t : ltb a (half w) ≡ true = lt-ltb a (half w) lt in
    ap (λ (x : ℕ). cond (ltb x (half w)) (pos x) (pos x -ℤ pos (limit w))) e
    ∙ ap (λ (b : Bool). cond b (pos a) (pos a -ℤ pos (limit w))) t

-- from half up it represents itself less the limit
pub signed_high : (w : Width) (a : ℕ) → half w ≤ a → a < limit w
    → signed w a ≡ negsuc (limit w - 1 - a)
signed_high w a le lt =
    let e : low w a ≡ a = low_is w a lt in
    let t : ltb a (half w) ≡ false = le-ltb a (half w) le in
    let z : pos a -ℤ pos (limit w) ≡ negsuc (limit w - 1 - a) = omega (arith, ints) in
    ap (λ (x : ℕ). cond (ltb x (half w)) (pos x) (pos x -ℤ pos (limit w))) e
    ∙ ap (λ (b : Bool). cond b (pos a) (pos a -ℤ pos (limit w))) t ∙ z

-- a whole number modulo the limit is below the limit
pub wrapped_below : (w : Width) (z : ℤ) → wrapped w z < limit w
wrapped_below w (pos n) = low_below w n
wrapped_below W8 (negsuc n) = omega arith
wrapped_below W16 (negsuc n) = omega arith
wrapped_below W32 (negsuc n) = omega arith
wrapped_below W64 (negsuc n) = omega arith

-- low bits are their own low bits
pub twice : (w : Width) (x : ℕ) → low w (low w x) ≡ low w x
twice w x = low_is w (low w x) (low_below w x)

-- and represent what the number represents
pub signed_twice : (w : Width) (a : ℕ) → signed w (low w a) ≡ signed w a
signed_twice w a = ap (λ (x : ℕ). cond (ltb x (half w)) (pos x) (pos x -ℤ pos (limit w)))
    (twice w a)
