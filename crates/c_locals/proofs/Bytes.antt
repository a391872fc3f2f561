-- Bytes of numbers and of lists, one after another.
use Rattle.std.proofs.Common.{◌≡◌, ℕ, zero, suc, ◌-◌, ◌/◌, ◌%◌, ◌≢◌, List, [], ◌∷◌, ◌++◌, refl, ap, ◌∙◌, append_assoc, arith}
use Rattle.c_locals.specs.Words.{bytes_of_number}

-- one byte more of a number
pub number_step : (old : List ℕ) (n v : ℕ) → n ≢ 0
    → (old ++ v % 256 ∷ []) ++ bytes_of_number (n - 1) (v / 256) ≡ old ++ bytes_of_number n v
number_step old zero v h = absurd (h refl)
number_step old (suc n) v h =
    let e : suc n - 1 ≡ n = omega arith in
    append_assoc old (v % 256 ∷ []) (bytes_of_number (suc n - 1) (v / 256))
    ∙ ap (λ k. old ++ v % 256 ∷ bytes_of_number k (v / 256)) e
