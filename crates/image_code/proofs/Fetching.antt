-- One byte more of what is fetched.
use Rattle.std.proofs.Common.{◌≡◌, ℕ, zero, suc, ◌-◌, ◌<◌, Bool, true, false, cond, [], ◌∷◌, Some, None, refl, arith}
use Rattle.flat_memory.specs.Memory.{Memory, next, executable}
use Rattle.image_code.specs.Code.{executable_byte}

pub executable_more : (m : Memory) (n at b : ℕ) → 0 < n → executable_byte m at ≡ Some b
    → executable m n at ≡ b ∷ executable m (n - 1) (next at)
unfolding executable
executable_more m zero at b lt e = absurd (omega arith)
executable_more m (suc n) at b lt e = go (m.protection at).execute e
  where
    go : (t : Bool) → cond t (Some (m.byte at)) None ≡ Some b
        → cond t (m.byte at ∷ executable m n (next at)) [] ≡ b ∷ executable m (suc n - 1) (next at)
    go true e =
        let same : m.byte at ≡ b = cc in
        let less : suc n - 1 ≡ n = omega arith in
        rw (same, less) refl
    go false e = absurd cc

pub executable_none : (m : Memory) (n at : ℕ) → executable_byte m at ≡ None
    → executable m n at ≡ []
unfolding executable
executable_none m zero at e = refl
executable_none m (suc n) at e = go (m.protection at).execute e
  where
    go : (t : Bool) → cond t (Some (m.byte at)) None ≡ None
        → cond t (m.byte at ∷ executable m n (next at)) [] ≡ []
    go true e = absurd cc
    go false e = refl

pub executable_zero : (m : Memory) (n at : ℕ) → n ≡ 0 → executable m n at ≡ []
unfolding executable
executable_zero m zero at e = refl
executable_zero m (suc n) at e = absurd (omega arith)
