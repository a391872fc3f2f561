-- So many times a sum that begins with one.
use Rattle.std.proofs.Common.{◌≡◌, ℕ, zero, suc, ◌+◌, ◌*◌, ◌≤◌, arith}
use Rattle.std.proofs.Math.Nat.{mul-add, mul-one}

pub times_1 : (k a : ℕ) → k * (1 + a) ≡ k + k * a
times_1 k a = let e = mul-add k 1 a in let f = mul-one k in omega arith

pub times_2 : (k a b : ℕ) → k * (1 + (a + b)) ≡ k + (k * a + k * b)
times_2 k a b = let e = times_1 k (a + b) in let f = mul-add k a b in omega arith

pub times_3 : (k a b c : ℕ) → k * (1 + (a + (b + c))) ≡ k + (k * a + (k * b + k * c))
times_3 k a b c = let e = times_2 k a (b + c) in let f = mul-add k b c in omega arith

pub times_4 : (k a b c d : ℕ) → k * (1 + (a + (b + (c + d))))
    ≡ k + (k * a + (k * b + (k * c + k * d)))
times_4 k a b c d = let e = times_3 k a b (c + d) in let f = mul-add k c d in omega arith

-- once is no more than as many times as something that is at least one
pub once : (k n : ℕ) → 1 ≤ n → k ≤ k * n
once k zero h = omega arith
once k (suc n) h = let e = times_1 k n in omega arith
