use Rattle.std.proofs.Common.{◌≡◌, ◌∙◌, ℕ, ◌-◌, get_or, None, Some, Option, sym, ap, subst}
use Rattle.host_model.specs.Loading.{section_of}
use Rattle.image_code.specs.Code.{code_of, executable_byte, byte_or}
use Rattle.image_code.proofs.CodeBytes.{no_section, not_executed, executed}
use Rattle.image_code.proofs.code_view.CodeView.byte.Goals as goal

pub returns-in_default : goal.returns-in_default
returns-in_default c =
    let image = c.self.inside.image.now in
    let none = ap (section_of 0 c.args.rva) (sym c.sections.ensures.value)
    ∙ sym c.in_default.ensures in
    sym (subst (λ i. executable_byte (code_of i) c.args.rva ≡ None) c.self.view_is
    (no_section image c.args.rva none))

pub returns-then-not-is_executable : goal.returns-then-not-is_executable
returns-then-not-is_executable c =
    let image = c.self.inside.image.now in
    let there = ap (section_of 0 c.args.rva) (sym c.sections.ensures.value)
    ∙ sym c.in-Some.ensures in
    sym (subst (λ i. executable_byte (code_of i) c.args.rva ≡ None) c.self.view_is
    (not_executed image c.args.rva c.in-Some.section.now there
    (sym c.if-not-is_executable.ensures)))

pub returns-in-Some-get : goal.returns-in-Some-get
returns-in-Some-get c =
    let image = c.self.inside.image.now in
    let there = ap (section_of 0 c.args.rva) (sym c.sections.ensures.value)
    ∙ sym c.in-Some.ensures in
    let s = c.in-Some.section.now in
    let whole = executed image c.self.inside.bound c.self.invariant c.args.rva s there
    (sym c.if-not-is_executable.ensures) in
    let here = ap (λ (o : Option ℕ). Some (byte_or o (get_or s.raw (c.args.rva - s.address) 0)))
    (sym c.in-Some-get.ensures.value) in
    sym (subst (λ i. executable_byte (code_of i) c.args.rva ≡ Some c.in-Some-get.byte.now)
    c.self.view_is (whole ∙ here))

pub returns-in-None : goal.returns-in-None
returns-in-None c =
    let image = c.self.inside.image.now in
    let there = ap (section_of 0 c.args.rva) (sym c.sections.ensures.value)
    ∙ sym c.in-Some.ensures in
    let s = c.in-Some.section.now in
    let whole = executed image c.self.inside.bound c.self.invariant c.args.rva s there
    (sym c.if-not-is_executable.ensures) in
    let here = ap (λ (o : Option ℕ). Some (byte_or o (get_or s.raw (c.args.rva - s.address) 0)))
    (sym c.in-None.ensures.value) in
    sym (subst (λ i. executable_byte (code_of i) c.args.rva ≡ Some c.stored_byte.result)
    c.self.view_is (whole ∙ here ∙ ap (λ (n : ℕ). Some n) (sym c.stored_byte.ensures)))
