-- Signed numbers of 64 bits in 128.
use Rattle.std.proofs.Common.{◌≡◌, ◌∙◌, ap, arith, ◌^◌, ℤ, pos, negsuc, ◌+ℤ◌, ◌-ℤ◌, ◌*ℤ◌, FitsSigned, w64, to_z, of_z, lit<}
use Rattle.std.specs.Int.{w128}
use Rattle.std.proofs.lemmas.Int.{ints, to_z-of_z, fits_signed_mul}
use Rattle.std.specs.Int.Signed.{nat_abs-le}

wider : (z : ℤ) → FitsSigned w64 z → FitsSigned w128 z
wider (pos n) h = let f = h.sfits in record { sfits = omega arith }
wider (negsuc n) h = let f = h.sfits in record { sfits = omega arith }

through : (a z : ℤ) → FitsSigned w64 a → z ≡ to_z w64 (of_z w64 a) → to_z w128 (of_z w128 z) ≡ a
through a z f e = ap (λ x. to_z w128 (of_z w128 x)) (e ∙ to_z-of_z w64 a f)
    ∙ to_z-of_z w128 a (wider a f)

pub sum_through : (a b x y : ℤ) → FitsSigned w64 a → FitsSigned w64 b → x ≡ to_z w64 (of_z w64 a)
    → y ≡ to_z w64 (of_z w64 b) → to_z w128 (of_z w128
    (to_z w128 (of_z w128 x) +ℤ to_z w128 (of_z w128 y))) ≡ a +ℤ b
sum_through a b x y f g e h = ap (λ p. to_z w128 (of_z w128 (p +ℤ to_z w128 (of_z w128 y))))
    (through a x f e) ∙ ap (λ p. to_z w128 (of_z w128 (a +ℤ p))) (through b y g h) ∙ sum a b f g
  where
    sum : (a b : ℤ) → FitsSigned w64 a → FitsSigned w64 b → to_z w128 (of_z w128 (a +ℤ b)) ≡ a +ℤ b
    sum a b f g = let p = f.sfits in let q = g.sfits in omega (arith, ints)

pub difference_through : (a b x y : ℤ) → FitsSigned w64 a → FitsSigned w64 b
    → x ≡ to_z w64 (of_z w64 a) → y ≡ to_z w64 (of_z w64 b)
    → to_z w128 (of_z w128 (to_z w128 (of_z w128 x) -ℤ to_z w128 (of_z w128 y))) ≡ a -ℤ b
difference_through a b x y f g e h = ap (λ p. to_z w128 (of_z w128 (p -ℤ to_z w128 (of_z w128 y))))
    (through a x f e) ∙ ap (λ p. to_z w128 (of_z w128 (a -ℤ p))) (through b y g h)
    ∙ difference a b f g
  where
    difference : (a b : ℤ) → FitsSigned w64 a → FitsSigned w64 b
        → to_z w128 (of_z w128 (a -ℤ b)) ≡ a -ℤ b
    difference a b f g = let p = f.sfits in let q = g.sfits in omega (arith, ints)

pub product_through : (a b x y : ℤ) → FitsSigned w64 a → FitsSigned w64 b
    → x ≡ to_z w64 (of_z w64 a) → y ≡ to_z w64 (of_z w64 b)
    → to_z w128 (of_z w128 (to_z w128 (of_z w128 x) *ℤ to_z w128 (of_z w128 y))) ≡ a *ℤ b
product_through a b x y f g e h = ap (λ p. to_z w128 (of_z w128 (p *ℤ to_z w128 (of_z w128 y))))
    (through a x f e) ∙ ap (λ p. to_z w128 (of_z w128 (a *ℤ p))) (through b y g h)
    ∙ to_z-of_z w128 (a *ℤ b) (fits_signed_mul w128 a b (2 ^ 63) (2 ^ 63) (nat_abs-le a f.sfits)
    (nat_abs-le b g.sfits) (lit< tt))
