-- Funclets as they are gathered and listed.
use Rattle.std.specs.Prelude.{ℕ, ◌+◌, ◌≤◌, Bool, List, [], ◌∷◌, map, Option, Some, None}
use Rattle.seh_num.specs.declared.event.Event.{Event}
use Rattle.host_model.specs.declared.funclet.Funclet.{Funclet}

abbrev pub listed : Option Event → List Event
listed None = []
listed (Some e) = e ∷ []

abbrev pub funclet_of : ℕ × Bool → Funclet
funclet_of e = record { address = e.0; is_finally = e.1 }

-- the funclets of a map from addresses to kinds
abbrev pub funclets_of : List (ℕ × Bool) → List Funclet
funclets_of es = map funclet_of es

-- each address is above the one before, and none below a bound
abbrev pub AreAscending : ℕ → List Funclet → Type 0
AreAscending low [] = Unit {0}
AreAscending low (x ∷ xs) = (low ≤ x.address) × AreAscending (x.address + 1) xs
