use Rattle.std.proofs.Common.{◌≡◌}
use Rattle.pe_image.specs.Reading.{headers_from, all_placed, sections_of}
use Rattle.pe_image.proofs.Sections.{with_front, sections_from, placed_from}
use Rattle.pe_image.proofs.table.sections.Given as goal

abbrev pub invariant-loop-index : goal.invariant-loop-index
invariant-loop-index l =
    with_front l.sections.items (sections_from l.bytes l.limit l.index l.end
    (placed_from l.layout l.bytes l.count l.at l.index))
    ≡ sections_of l.bytes l.limit (all_placed l.layout (headers_from l.bytes l.count l.at))
