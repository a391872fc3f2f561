use Rattle.std.proofs.Common.{◌≡◌, Result, Ok, sym, subst}
use Rattle.std.specs.Prelude.{IfOk, IfErr}
use Rattle.std.proofs.lemmas.Result.{err_from_is_err_and}
use Rattle.pe_image.specs.declared.refusal.ImageErr.{ImageErr}
use Rattle.pe_image.specs.Answer.{Refuses}
use Rattle.pe_image.specs.Image.{Image}
use Rattle.pe_image.proofs.Whole.{outline_by_headers, outline_is}
use Rattle.pe_image.proofs.view.ImageView.read_outline.Goals as goal

pub returns-in_err-check_headers-clause-refusal : goal.returns-in_err-check_headers-clause-refusal
returns-in_err-check_headers-clause-refusal c =
    let p = err_from_is_err_and c.from_residual.result c.from_residual.ensures.1 in
    rw (p.1, p.2) (outline_by_headers c.args.layout c.args.bytes.now
    c.in_err-check_headers.field-0.0 (sym c.in_err-check_headers.ensures.answer))

pub returns-clause-image : goal.returns-clause-image
returns-clause-image c =
    subst (λ (given : Result Image ImageErr). IfOk c.importing.result (λ view. given ≡ Ok view))
    (outline_is c.args.layout c.args.bytes.now (sym c.in_ok-check_headers.ensures.answer))
    c.importing.ensures.image

pub returns-clause-refusal : goal.returns-clause-refusal
returns-clause-refusal c =
    subst (λ (given : Result Image ImageErr). IfErr c.importing.result (λ e. Refuses e given))
    (outline_is c.args.layout c.args.bytes.now (sym c.in_ok-check_headers.ensures.answer))
    c.importing.ensures.refusal
