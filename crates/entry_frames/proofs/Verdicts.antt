-- The verdict on an image by those on its entries.
use Rattle.std.proofs.Common.{◌≡◌, List, Result, Ok, sym, ap, subst, ◌∙◌}
use Rattle.eh_tables.specs.Tables.{Entry, tables, or_none}
use Rattle.unwind_check.specs.EntryVerdicts.{first_no}
use Rattle.unwind_check.specs.Verdicts.{IsVerdict}
use Rattle.unwind_check.proofs.JoinedVerdicts.{first_no_is_the_verdict}
use Rattle.unwind_check.proofs.UniqueVerdicts.{verdicts_are_unique}
use Rattle.image_code.specs.Verdicts.{checked_code}
use Rattle.entry_frames.specs.Laws.{FirstNoIsTheImageVerdict}

pub first_no_is_the_image_verdict : FirstNoIsTheImageVerdict
first_no_is_the_image_verdict image probe vs v each whole =
    let c = checked_code image probe in
    let same : each.entries ≡ whole.entries = ap or_none (sym each.read ∙ whole.read) in
    let first = first_no_is_the_verdict c each.entries vs each.are in
    verdicts_are_unique c whole.entries v (first_no 0 vs) whole.is
    (subst (λ (es : List Entry). IsVerdict c es (first_no 0 vs)) same first)
