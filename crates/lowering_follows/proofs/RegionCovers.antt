-- The regions that are open at each instruction of a part of a body are the part's own, and those
-- around it.
use Rattle.std.proofs.Common.{◌≡◌, ℕ, ◌<◌, ◌≤◌, List, [], ◌∷◌, ◌++◌, sym, ap, ◌∙◌, append-nil, append_assoc}
use Rattle.std.specs.Prelude.{Some}
use Rattle.lowering_follows.specs.Words.{Region, LinearProgram, LinearBody, BodyName, body_of, regions_at, regions_of}
use Rattle.lowering_follows.proofs.Regions.{held, held_append}

module _ (linear : LinearProgram) where
  -- an instruction of this range is inside those of these regions that hold it, and inside others
  abbrev pub Cover : BodyName → List Region → ℕ → ℕ → List Region → Type 0
  Cover b rs lo hi regions = (q : ℕ) → lo ≤ q → q < hi
      → regions_at linear b q ≡ held q regions ++ rs

  -- from what covers a whole to what covers a part
  pub part : (b : BodyName) (rs regions sub : List Region) (q : ℕ) → held q regions ≡ held q sub
      → regions_at linear b q ≡ held q regions ++ rs → regions_at linear b q ≡ held q sub ++ rs
  part b rs regions sub q e c = c ∙ ap (λ x. x ++ rs) e

  pub bare : (b : BodyName) (rs regions : List Region) (q : ℕ) → held q regions ≡ []
      → regions_at linear b q ≡ held q regions ++ rs → regions_at linear b q ≡ rs
  bare b rs regions q e c = c ∙ ap (λ x. x ++ rs) e

  -- inside the region of a `__try`, which is after those of its body
  pub inside_own : (b : BodyName) (rs : List Region) (own : Region) (body rest : List Region)
      (q : ℕ)
      → held q rest ≡ own ∷ [] → regions_at linear b q ≡ held q (body ++ rest) ++ rs
      → regions_at linear b q ≡ held q body ++ (own ∷ rs)
  inside_own b rs own body rest q e c =
      c ∙ ap (λ x. x ++ rs) (held_append body rest q ∙ ap (λ x. held q body ++ x) e)
      ∙ append_assoc (held q body) (own ∷ []) rs

  -- a whole body is inside its own regions alone
  pub whole_cover : (b : BodyName) (lb : LinearBody) → body_of linear b ≡ Some lb → (lo hi : ℕ)
      → Cover b [] lo hi lb.regions
  whole_cover b lb there lo hi q l h = ap (λ o. held q (regions_of o)) there
      ∙ sym (append-nil (held q lb.regions))
