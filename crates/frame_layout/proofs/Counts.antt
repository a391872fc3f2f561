-- What holds of few pushes, by their count.
use Rattle.std.proofs.Common.{ℕ, zero, suc, ◌≤◌, Bool, true, false, List, [], ◌∷◌, ◌++◌, arith}
use Rattle.std.specs.List.{AllByRecursion}

-- of each count of pushes, with RBP and without
pub by_pushes : (P : ℕ → Bool → Type 0) → P 0 true → P 1 true → P 2 true → P 3 true
    → P 0 false → P 1 false → P 2 false → P 3 false
    → (k : ℕ) (framed : Bool) → k ≤ 3 → P k framed
by_pushes P a b c d e f g h zero true le = a
by_pushes P a b c d e f g h (suc zero) true le = b
by_pushes P a b c d e f g h (suc (suc zero)) true le = c
by_pushes P a b c d e f g h (suc (suc (suc zero))) true le = d
by_pushes P a b c d e f g h zero false le = e
by_pushes P a b c d e f g h (suc zero) false le = f
by_pushes P a b c d e f g h (suc (suc zero)) false le = g
by_pushes P a b c d e f g h (suc (suc (suc zero))) false le = h
by_pushes P a b c d e f g h (suc (suc (suc (suc k)))) framed le = absurd (omega arith)

-- ---- what holds of each element of two lists

pub all_both : {X : Type 0} (P : X → Type 0) (xs ys : List X) → AllByRecursion P xs
    → AllByRecursion P ys → AllByRecursion P (xs ++ ys)
all_both P [] ys a b = b
all_both P (x ∷ xs) ys a b = (a.0, all_both P xs ys a.1 b)
