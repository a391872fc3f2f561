use Rattle.std.proofs.Common.{Result, Ok, sym, ap, subst, ◌∙◌}
use Rattle.std.proofs.lemmas.Result.{err_from_is_err_and}
use Rattle.pe_image.specs.declared.refusal.ImageErr.{ImageErr}
use Rattle.pe_image.specs.Answer.{Refuses}
use Rattle.pe_image.specs.Image.{Image}
use Rattle.pe_image.proofs.Whole.{all_refused, in_file}
use Rattle.pe_image.proofs.view.ImageView.read.Goals as goal

pub returns-in_err-view-clause-refusal : goal.returns-in_err-view-clause-refusal
returns-in_err-view-clause-refusal c =
    let p = err_from_is_err_and c.from_residual.result c.from_residual.ensures.1 in
    all_refused c.args.bytes.now c.from_residual.result
    (rw (p.1, p.2) (subst (λ (given : Result Image ImageErr). Refuses c.in_err-view.field-0.0 given)
    (in_file c.args.bytes.now) c.in_err-view.ensures.refusal))

pub returns-clause-image : goal.returns-clause-image
returns-clause-image c =
    sym (in_file c.args.bytes.now) ∙ c.in_ok-view.ensures.image
    ∙ ap Ok (sym c.in_ok-with_first_rows.ensures)
