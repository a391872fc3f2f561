use Rattle.std.proofs.Common.{List, sym, ap, subst, ◌∙◌}
use Rattle.std.specs.Prelude.{is_ok}
use Rattle.std.proofs.lemmas.Result.{err_from_is_err_and}
use Rattle.pe_image.specs.Bound.{bound_name}
use Rattle.pe_image.specs.Image.{Section}
use Rattle.pe_image.specs.Imports.{imports_in, or_none}
use Rattle.pe_image.specs.Names.{AreEnds}
use Rattle.pe_image.proofs.Imported.{ok_is}
use Rattle.pe_image.proofs.Whole.{by_sections, by_imports, is_read}
use Rattle.pe_image.proofs.view.ImageView.importing.Goals as goal

pub returns-in_err-sections-clause-refusal : goal.returns-in_err-sections-clause-refusal
returns-in_err-sections-clause-refusal c =
    let p = err_from_is_err_and c.from_residual.result c.from_residual.ensures.1 in
    rw (p.1, p.2) (by_sections c.args.layout c.args.bytes.now c.args.import_directory _ _ _
    c.image_end.ensures c.section_count-count.ensures c.sections_at-at.ensures
    c.in_err-sections.field-0.0 c.in_err-sections.ensures.answer)

pub returns-in_err-name_ends-clause-refusal : goal.returns-in_err-name_ends-clause-refusal
returns-in_err-name_ends-clause-refusal c =
    let p = err_from_is_err_and c.from_residual-in_err-name_ends.result
    c.from_residual-in_err-name_ends.ensures.1 in
    rw (p.1, p.2) (by_imports c.args.layout c.args.bytes.now c.args.import_directory _ _ _
    c.image_end.ensures c.section_count-count.ensures c.sections_at-at.ensures
    c.in_ok-sections.sections.items c.in_ok-sections.ensures.answer _ c.deref.ensures.value
    c.in_err-name_ends.field-0.0 c.in_err-name_ends.ensures.refused)

pub returns-clause-image : goal.returns-clause-image
returns-clause-image c = is_read c.args.layout c.args.bytes.now c.args.import_directory _ _ _
    c.image_end.ensures c.section_count-count.ensures c.sections_at-at.ensures
    c.in_ok-sections.sections.items c.in_ok-sections.ensures.answer c.deref.result.now
    (or_none (imports_in c.deref.result.now c.args.import_directory)) _ _ _ _ c.deref.ensures.value
    (ok_is (imports_in c.deref.result.now c.args.import_directory) c.in_ok-name_ends.ensures.read)
    c.image_base.ensures c.entry_point.ensures c.image_size.ensures c.directory.ensures

pub invariant_of-result : goal.invariant_of-result
invariant_of-result c =
    let d = c.args.import_directory in (
      c.in_ok-sections.ensures.ascending,
      ap (λ (ss : List Section). is_ok (imports_in ss d)) (sym c.deref.ensures.value)
          ∙ c.in_ok-name_ends.ensures.read,
      subst (λ (ss : List Section). AreEnds ss c.in_ok-name_ends.name_ends) c.deref.ensures.value
          c.in_ok-name_ends.ensures.ends,
      λ slot. c.in_ok-names.ensures slot ∙ ap (bound_name slot) (c.new-imports.ensures
          ∙ ap (λ (ss : List Section). or_none (imports_in ss d)) c.deref-2.ensures.value),
      tt,
    )

pub new-imports-requires-clause-ends : goal.new-imports-requires-clause-ends
new-imports-requires-clause-ends c = subst
    (λ (ss : List Section). AreEnds ss c.in_ok-name_ends.name_ends)
    (c.deref.ensures.value ∙ sym c.deref-2.ensures.value) c.in_ok-name_ends.ensures.ends
