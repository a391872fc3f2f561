-- Regions that are ranges of instructions which aren't cold, and bodies with cold parts.
use Rattle.std.specs.Prelude.{◌≡◌, ℕ, ◌<◌, ◌≤◌, true, false, [], length}
use Rattle.std.specs.List.{AllByRecursion}
use Rattle.linear_code.specs.declared.program.Region.{Region}
use Rattle.linear_code.specs.Program.{LinearBody, LinearFunction, LinearFunclet, LinearProgram}
use Rattle.template_code.specs.ColdParts.{is_cold}
use Rattle.image_link.specs.Routines.{all_spare}

-- of a body: not empty, and within it; nothing from its begin to its end is in a cold part
pub record IsRange (b : LinearBody) (r : Region) : Type 0 where
  pub some : r.begin < r.end
  pub inside : r.end ≤ length b.code
  pub hot : (label : ℕ) → r.begin ≤ label → label ≤ r.end → is_cold b.cold label ≡ false

-- one of nothing but what leaf functions have, which call nothing, has no cold parts
pub record HasRanges (b : LinearBody) : Type 0 where
  pub regions : AllByRecursion (IsRange b) b.regions
  pub spare : (n : ℕ) → all_spare n b.code ≡ true → b.cold ≡ []

pub record HasRegions (p : LinearProgram) : Type 0 where
  pub functions : AllByRecursion (λ (f : LinearFunction). HasRanges f.body) p.functions
  pub funclets : AllByRecursion (λ (f : LinearFunclet). HasRanges f.body) p.funclets
