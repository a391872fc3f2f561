use Rattle.std.proofs.Common.{◌≡◌, ◌-◌, List}
use Rattle.seh_num.specs.Answers.{onto}
use Rattle.pe_image.specs.NameRows.{NameRow, rows_from}
use Rattle.pe_image.proofs.name_table.NameRows.read.Given as goal

abbrev pub invariant-loop-index : goal.invariant-loop-index
invariant-loop-index l =
    (front : List NameRow)
    × (onto front (rows_from l.stored (l.count - l.index) l.index l.last)
    ≡ rows_from l.stored l.count 0 0)
