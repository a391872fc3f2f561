-- Pages that are kept stretch by stretch.
use Rattle.std.specs.Prelude.{◌≡◌, ℕ, ◌+◌, ◌-◌, ◌≤◌, ◌&&◌, nat_le, nat_lt, Bool, if◌then◌else◌, List, [], ◌∷◌, Option, Some, None, slice_get}
use Rattle.std.specs.Coded.{×_prop, Unit-prop, le_prop, Coded-set, coded_ℕ}
use Rattle.x64_memory.specs.declared.page.Page.{Page}
use Rattle.x64_memory.specs.declared.stretch.Stretch.{Stretch}

-- a stretch has the page of a number
abbrev pub has_number : Stretch → ℕ → Bool
has_number s k = nat_le s.first k && nat_lt k s.end

-- where the page of a number is kept
abbrev pub index_of : List Stretch → ℕ → Option ℕ
index_of [] k = None
index_of (s ∷ ss) k = if has_number s k then Some (s.index + (k - s.first)) else index_of ss k

abbrev pub page_at : List Page → Option ℕ → Option Page
page_at pages None = None
page_at pages (Some i) = slice_get pages i

-- the page of a number
abbrev pub page_numbered : List Stretch → List Page → ℕ → Option Page
page_numbered stretches pages k = page_at pages (index_of stretches k)

-- a stretch begins with no lower page than one, and is kept from an index on
pub record IsNextStretch (low from : ℕ) (s : Stretch) : Type 0 where
  pub order : low ≤ s.first
  pub grows : s.first ≤ s.end
  pub kept : s.index ≡ from

-- stretches ascend from a page on, and are kept one after another from an index on
abbrev pub AreOrdered : ℕ → ℕ → List Stretch → Type 0
AreOrdered low from [] = Unit {0}
AreOrdered low from (s ∷ ss) = IsNextStretch low from s × AreOrdered s.end
    (from + (s.end - s.first)) ss

pub AreOrdered-prop : (low from : ℕ) (ss : List Stretch) → IsProp (AreOrdered low from ss)
AreOrdered-prop low from [] = Unit-prop
AreOrdered-prop low from (s ∷ ss) =
    let next : IsProp (IsNextStretch low from s) = hlevel (le_prop, Coded-set coded_ℕ) in
    ×_prop next (AreOrdered-prop s.end (from + (s.end - s.first)) ss)

-- the index after the last page of stretches that are kept from an index on
abbrev pub count_from : ℕ → List Stretch → ℕ
count_from from [] = from
count_from from (s ∷ ss) = count_from (from + (s.end - s.first)) ss

-- the page after the last of stretches that ascend from a page on
abbrev pub end_from : ℕ → List Stretch → ℕ
end_from low [] = low
end_from low (s ∷ ss) = end_from s.end ss
