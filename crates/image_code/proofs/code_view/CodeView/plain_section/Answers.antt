use Rattle.std.proofs.Common.{◌≡◌, ◌-◌, take, drop, sym, ap, subst, ◌∙◌, refl, arith}
use Rattle.flat_memory.specs.Memory.{executable}
use Rattle.host_model.specs.Loading.{section_of}
use Rattle.image_code.specs.Code.{code_of}
use Rattle.image_code.proofs.StoredCode.{in_one_section}
use Rattle.image_code.proofs.code_view.CodeView.plain_section.Goals as goal

pub returns-then-are_unbound : goal.returns-then-are_unbound
returns-then-are_unbound c = λ n few room fits.
    let image = c.self.inside.image.now in
    let s = c.in-Some.section.now in
    let at = c.args.at in
    let there = ap (section_of 0 at) (sym c.sections.ensures.value) ∙ sym c.in-Some.ensures in
    let up = c.sections.ensures.ascending in
    subst (λ i. executable (code_of i) n at ≡ take n (drop (at - s.address) s.raw)) c.self.view_is
    (in_one_section image c.self.inside.bound c.self.invariant s
    (sym c.if-is_executable.ensures) n at up there room fits
    (λ k lt. c.if-are_unbound.ensures refl k (omega (arith, lt, few))))
