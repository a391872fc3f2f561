use Rattle.std.proofs.Common.{◌≤◌, length}
use Rattle.pe_image.proofs.FirstRows.{FirstsFrom}
use Rattle.pe_image.proofs.name_table.NameRows.first_rows.Given as goal

abbrev pub invariant-loop-index : goal.invariant-loop-index
invariant-loop-index l = (l.index ≤ length l.self) × FirstsFrom l.self l.index l.first_rows

abbrev pub decreases-loop-index : goal.decreases-loop-index
decreases-loop-index l = l.index
