use Rattle.std.proofs.Common.{sym, ap, ◌∙◌, arith}
use Rattle.pe_image.specs.Image.{stored_in}
use Rattle.pe_image.proofs.Stored.{none_above, begun_before}
use Rattle.pe_image.proofs.section.stored_from.Goals as goal

pub returns-then-begun-eq0 : goal.returns-then-begun-eq0
returns-then-begun-eq0 c =
    sym (ap (stored_in c.args.rva) (none_above c.args.rva c.args.sections.now
    (λ k d lt. c.count_begun-begun.ensures.later k d (omega arith) lt)))

pub returns : goal.returns
returns c = c.raw_from.ensures ∙ begun_before c.args.rva c.count_begun-begun.result
    c.args.sections.now c.index-sections-begun.result c.requires c.count_begun-begun.ensures.within
    c.if-begun-eq0.false c.index-sections-begun.is c.count_begun-begun.ensures.begun
    c.count_begun-begun.ensures.later
