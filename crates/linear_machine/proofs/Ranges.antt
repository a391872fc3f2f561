-- What holds of each place of a range.
use Rattle.std.proofs.Common.{◌≡◌, ◌⊎◌, inl, inr, ℕ, ◌+◌, ◌<◌, ◌≤◌, subst, arith}
use Rattle.std.proofs.lemmas.Bool.{cases_lt}

module _ (F : ℕ → Type 0) where
  abbrev pub Range : (lo hi : ℕ) → Type 0
  Range lo hi = (pc : ℕ) → lo ≤ pc → pc < hi → F pc

  pub part_of : (lo hi lo' hi' : ℕ) → lo ≤ lo' → hi' ≤ hi → Range lo hi → Range lo' hi'
  part_of lo hi lo' hi' a b p pc l h = p pc (omega arith) (omega arith)

  pub both_parts : (lo mid hi : ℕ) → Range lo mid → Range mid hi → Range lo hi
  both_parts lo mid hi p q pc l h = go (cases_lt pc mid)
    where
      go : (pc < mid) ⊎ (mid ≤ pc) → F pc
      go (inl a) = p pc l a
      go (inr a) = q pc a h

  pub no_part : (lo hi : ℕ) → hi ≤ lo → Range lo hi
  no_part lo hi le pc l h = absurd (omega arith)

  pub one_part : (pc : ℕ) → F pc → Range pc (pc + 1)
  one_part pc f q l h = let same : pc ≡ q = omega arith in subst F same f
