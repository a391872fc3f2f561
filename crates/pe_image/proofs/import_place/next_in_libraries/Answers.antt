use Rattle.std.proofs.Common.{sym, ◌∙◌, arith}
use Rattle.pe_image.proofs.ImportsRead.{libraries_over}
use Rattle.pe_image.proofs.import_place.next_in_libraries.Goals as goal

pub returns-clause-none : goal.returns-clause-none
returns-clause-none c =
    let l = c.loop-library in
    sym l.invariant.so_far
    ∙ libraries_over c.args.sections.now c.args.directory l.library (omega arith)
