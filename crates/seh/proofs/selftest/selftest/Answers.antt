use Rattle.std.proofs.Common.{◌∙◌, List, ℕ, subst, sym}
use Rattle.seh.specs.Words.{IsCompiled, IsTextRefusal, IsSummaryAnswer, end_by, selftest_options, summary_by}
use Rattle.seh.proofs.Images.{of_image, of_refusal}
use Rattle.seh.proofs.selftest.selftest.Goals as goal

pub returns-in-Ok-compiled_image : goal.returns-in-Ok-compiled_image
returns-in-Ok-compiled_image g c =
    let image = c.deref-in-Ok-compiled_image.result.now in
    of_image (summary_by c.args.turns c.args.number) (end_by (selftest_options c.args.turns)) _
    image
    _ _ c.run_program.result
    (subst (λ (t : List ℕ). IsCompiled t image) (c.deref.ensures.value ∙ c.in-Ok.ensures.text)
    (subst (λ (bytes : List ℕ). IsCompiled c.deref.result.now bytes)
    (sym c.deref-in-Ok-compiled_image.ensures.value) c.in-Ok-compiled_image.ensures.found))
    c.run_program.ensures

pub returns : goal.returns
returns g c =
    of_refusal (IsSummaryAnswer c.args.turns c.args.number) _ _ c.in-Err.refusal
    (subst (λ (t : List ℕ). IsTextRefusal t c.in-Err.refusal)
    (c.deref.ensures.value ∙ c.in-Ok.ensures.text) c.in-Err.ensures.refused)
