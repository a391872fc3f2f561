use Rattle.std.proofs.Common.{◌∙◌, sym, ap, None}
use Rattle.host_model.specs.Loading.{or_else}
use Rattle.image_code.proofs.Sections.{begun_last, none_begun}
use Rattle.image_code.proofs.code_view.section_at.Goals as goal

pub returns-then-begun-eq0 : goal.returns-then-begun-eq0
returns-then-begun-eq0 c = sym (none_begun c.args.rva c.count_begun-begun.result
    c.args.sections.now c.if-begun-eq0.true c.count_begun-begun.ensures.later)

pub returns-then-is_within : goal.returns-then-is_within
returns-then-is_within c =
    let s = c.index-sections-begun.result in
    sym (begun_last c.args.rva c.count_begun-begun.result c.args.sections.now s c.requires
    c.count_begun-begun.ensures.within c.if-begun-eq0.false c.index-sections-begun.is
    c.count_begun-begun.ensures.begun c.count_begun-begun.ensures.later
    ∙ ap (or_else None s) (sym c.is_within.ensures ∙ c.if-is_within.true))

pub returns-else-is_within : goal.returns-else-is_within
returns-else-is_within c =
    let s = c.index-sections-begun.result in
    sym (begun_last c.args.rva c.count_begun-begun.result c.args.sections.now s c.requires
    c.count_begun-begun.ensures.within c.if-begun-eq0.false c.index-sections-begun.is
    c.count_begun-begun.ensures.begun c.count_begun-begun.ensures.later
    ∙ ap (or_else None s) (sym c.is_within.ensures ∙ c.if-is_within.false))
