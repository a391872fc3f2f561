-- Where the names of imports end, and what is kept of the ends that were found.
use Rattle.std.specs.Prelude.{◌≡◌, ℕ, ◌-◌, ◌≤◌, ◌==◌, List, position, Some}
use Rattle.std.specs.Ordering.{nat_cmp}
use Rattle.std.specs.BTreeMap.{BTreeMap, get}
use Rattle.pe_image.specs.Image.{Section, section_at, stored_in}

-- what a section stores from an address on has its first 0 at another
pub record EndsAt (ss : List Section) (from end : ℕ) : Type 0 where
  pub above : from ≤ end
  pub first : position (λ b. b == 0) (stored_in from (section_at from ss)) ≡ Some (end - from)

-- each end, with an address from which on it is the first 0
abbrev pub AreEnds : List Section → BTreeMap ℕ ℕ → Type 0
AreEnds ss ends = (end from : ℕ) → get nat_cmp ends end ≡ Some from → EndsAt ss from end
