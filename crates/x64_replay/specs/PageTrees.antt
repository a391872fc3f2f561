-- Pages in an ordered map from their numbers.
--
-- The main definition: `pages_of`.
use Rattle.std.specs.Prelude.{ℕ, Option}
use Rattle.std.specs.Ordering.{nat_cmp}
use Rattle.std.specs.BTreeMap.{BTreeMap, get}
use Rattle.x64_memory.specs.declared.page.Page.{Page}

-- the page of a number in an ordered map; the memory of a `MapSpace` is that of its pages
abbrev pub pages_of : BTreeMap ℕ Page → ℕ → Option Page
pages_of m k = get nat_cmp m k
