-- Where routines are placed.
--
-- The main definition: `parts_at`.
use Rattle.std.specs.Prelude.{ℕ, ◌+◌, List, [], ◌∷◌}
use Rattle.x64_emit.specs.declared.body.CodeRange.{CodeRange}
use Rattle.x64_emit.specs.Bodies.{part_ranges}
use Rattle.image_link.specs.Routines.{RoutineView}
use Rattle.image_link.specs.Text.{entry_size, routine_size, cold_size, own_addresses}

-- where its body and its cold parts begin, where its instructions do, where it ends without its
-- cold parts, and where these stand
pub record PlaceView : Type 0 where
  pub body : ℕ
  pub cold : ℕ
  pub labels : List ℕ
  pub end : ℕ
  pub parts : List CodeRange
  pub cold_end : ℕ

-- the cold parts of a routine, from an address on
abbrev pub parts_at : ℕ → RoutineView → List CodeRange
parts_at cold r = part_ranges r.layout cold r.body.cold r.body.code

-- that of a routine which begins at an address, with its cold parts at another
abbrev pub place_at : (at cold : ℕ) → RoutineView → PlaceView
place_at at cold r = record {
  body = at + entry_size r;
  cold = cold;
  labels = (own_addresses at cold r).labels;
  end = (own_addresses at cold r).end;
  parts = parts_at cold r;
  cold_end = cold + cold_size r;
}

-- those of routines one after another
abbrev pub places_from : (at cold : ℕ) → List RoutineView → List PlaceView
places_from at cold [] = []
places_from at cold (r ∷ rs) =
    place_at at cold r ∷ places_from (at + routine_size r) (cold + cold_size r) rs

-- the cold parts of each
abbrev pub parts_from : ℕ → List RoutineView → List (List CodeRange)
parts_from cold [] = []
parts_from cold (r ∷ rs) = parts_at cold r ∷ parts_from (cold + cold_size r) rs

abbrev pub parts_of : PlaceView → List CodeRange
parts_of p = p.parts
