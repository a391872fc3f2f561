-- Instructions at places of a body, inside their regions.
use Rattle.std.proofs.Common.{◌≡◌, ℕ, ◌+◌, List, [], ◌∷◌, ◌++◌, length, ap, subst, arith}
use Rattle.lowering_follows.specs.Words.{Instruction, Region, LinearProgram, BodyName, HasAt}

module _ (linear : LinearProgram) (body : BodyName) (regions : List Region) where
  pub has_at : (pc pc' : ℕ) (is : List Instruction) → pc ≡ pc' → HasAt linear body regions pc is
      → HasAt linear body regions pc' is
  has_at pc pc' is e h = subst (λ k. HasAt linear body regions k is) e h

  pub has_front : (pc : ℕ) (xs ys : List Instruction) → HasAt linear body regions pc (xs ++ ys)
      → HasAt linear body regions pc xs
  has_front pc [] ys h = tt
  has_front pc (x ∷ xs) ys h = (h.0, h.1, has_front (pc + 1) xs ys h.2)

  pub has_back : (pc : ℕ) (xs ys : List Instruction) → HasAt linear body regions pc (xs ++ ys)
      → HasAt linear body regions (pc + length xs) ys
  has_back pc [] ys h = has_at pc (pc + 0) ys (omega arith) h
  has_back pc (x ∷ xs) ys h = has_at (pc + 1 + length xs) (pc + length (x ∷ xs)) ys (omega arith)
      (has_back (pc + 1) xs ys h.2)

  -- after code of a known length
  pub has_after : (pc n : ℕ) (xs ys : List Instruction) → length xs ≡ n
      → HasAt linear body regions pc (xs ++ ys) → HasAt linear body regions (pc + n) ys
  has_after pc n xs ys e h = has_at (pc + length xs) (pc + n) ys (ap (λ k. pc + k) e)
      (has_back pc xs ys h)
