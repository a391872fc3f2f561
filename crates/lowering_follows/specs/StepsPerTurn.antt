-- How many steps of a checked program one turn of its linear code may represent.
use Rattle.std.specs.Prelude.{ℕ, ◌+◌, ◌*◌, max, List, [], ◌∷◌}
use Rattle.c_checked.specs.Program.{Program, Function, surplus}
use Rattle.lowering_follows.specs.Weights.{statements_weight}

-- how many steps the body of a function may begin without a turn, and its activation counts above
-- 1, at most
abbrev pub weight_of : List Function → ℕ
weight_of [] = 0
weight_of (f ∷ fs) = max (surplus f + statements_weight f.body) (weight_of fs)

abbrev pub steps_per_turn_of : Program → ℕ
steps_per_turn_of p = 2 * weight_of p.functions + 4
