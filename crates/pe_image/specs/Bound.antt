-- What the slots of imports are bound to.
--
-- The main definition: `bound_name`.
use Rattle.std.specs.Prelude.{ℕ, ◌==◌, List, reverse, find, option_map, Option}
use Rattle.pe_image.specs.Imports.{Import}

-- the name that a slot is bound to, which is that of the last import that has the slot
abbrev pub bound_name : ℕ → List Import → Option (List ℕ)
bound_name slot imports = option_map (λ i. i.name) (find (λ i. i.slot == slot) (reverse imports))
