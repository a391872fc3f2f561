use Rattle.std.proofs.Common.{◌≡◌, ℕ, ◌<◌, get_or}
use Rattle.pe_image.specs.NameRows.{no_row}
use Rattle.pe_image.proofs.name_table.NameRows.first_name.Given as goal

abbrev pub invariant-loop-index : goal.invariant-loop-index
invariant-loop-index l = (j : ℕ) → j < l.index → (get_or l.self j no_row).number ≡ l.number → ⊥
