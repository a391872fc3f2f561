-- No body that waits has just taken over for an exception.
use Rattle.std.specs.Prelude.{List, [], ◌∷◌}
use Rattle.match_turns.specs.Words.{LinearProgram, Item, Waits, Searches, Unwinds, AreWaiting, NoneLanded}

pub none_landed_below : (program : LinearProgram) (items : List Item) → AreWaiting program items
    → NoneLanded items
none_landed_below program [] h = tt
none_landed_below program (Waits f ∷ below) h = (h.0.landed, none_landed_below program below h.2)
none_landed_below program (Searches exception resumption asked ∷ below) h = none_landed_below
    program below
    h.2
none_landed_below program (Unwinds rest target ∷ below) h = none_landed_below program below h.2
