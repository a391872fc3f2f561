-- Places of variables, one after another.
use Rattle.std.specs.Prelude.{◌≡◌, Bool, List, [], ◌∷◌, ◌++◌}
use Rattle.c_resolved.specs.declared.variable.Variable.{Variable}
use Rattle.c_resolved.specs.Layout.{places_from, end_of_all}
use Rattle.c_stacked.specs.declared.layout.Placing.{Placing}

-- after these places and up to this end, the next variables are placed
pub record PlacesAll (vs : List Variable) (marks : List Bool) (before after : Placing) : Type 0
  where
    pub places : after.places.items ≡ before.places.items ++ places_from vs marks before.end
    pub end : after.end ≡ end_of_all vs marks before.end

abbrev pub PlacesOne : Variable → Bool → Placing → Placing → Type 0
PlacesOne v mark = PlacesAll (v ∷ []) (mark ∷ [])

pub record IsPlacing (vs : List Variable) (marks : List Bool) (p : Placing) : Type 0 where
  pub places : p.places.items ≡ places_from vs marks 0
  pub end : p.end ≡ end_of_all vs marks 0
