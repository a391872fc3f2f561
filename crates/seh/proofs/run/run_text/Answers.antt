use Rattle.std.proofs.Common.{List, ℕ, subst, sym}
use Rattle.seh.specs.Words.{IsCompiled, IsRunAnswer, end_by, text_by}
use Rattle.seh.proofs.Images.{of_image, of_refusal}
use Rattle.seh.proofs.run.run_text.Goals as goal

pub returns-in-Ok : goal.returns-in-Ok
returns-in-Ok g c = of_image (text_by c.args.options) (end_by c.args.options) _ _ _ _
    c.run_image.result
    (subst (λ (bytes : List ℕ). IsCompiled c.args.text.now bytes) (sym c.deref.ensures.value)
    c.in-Ok.ensures.found) c.run_image.ensures

pub returns-in-Err : goal.returns-in-Err
returns-in-Err g c =
    of_refusal (IsRunAnswer c.args.options) _ _ c.in-Err.refusal c.in-Err.ensures.refused
