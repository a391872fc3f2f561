use Rattle.std.proofs.Common.{ap, ◌∙◌, arith}
use Rattle.pe_write.specs.ImportTables.{slots_offset, addresses_size}
use Rattle.pe_write.specs.Program.{ImageContents}
use Rattle.pe_write.proofs.Programs.{rdata_fits, text_fits, places_fit}
use Rattle.pe_write.proofs.image.Image.with_sections.Goals as goal

pub overflow_cast-rdata : goal.overflow_cast-rdata
overflow_cast-rdata c = let fits = rdata_fits c.args.self.now c.sizes-sizes.result
    c.rdata_at-rdata.result c.sizes-sizes.ensures.program c.sizes-sizes.ensures.value
    c.rdata_at-rdata.ensures in omega arith

pub overflow_cast-text_at : goal.overflow_cast-text_at
overflow_cast-text_at c = let fits = text_fits c.args.self.now c.sizes-sizes.result c.text_at.result
    c.sizes-sizes.ensures.program c.sizes-sizes.ensures.value c.text_at.ensures in omega arith

pub new-requires : goal.new-requires
new-requires c =
    let imports = ap (λ (p : ImageContents). p.imports) c.self.view_is in
    places_fit c.args.self.now c.sizes-sizes.result c.text_at.result c.self.inside.entry
    c.args.sections.items c.rdata_at-rdata.result c.pdata_at.result c.slots_offset.result
    c.addresses_size.result c.sizes-sizes.ensures.program c.sizes-sizes.ensures.value
    c.text_at.ensures (ap (λ (p : ImageContents). p.entry) c.self.view_is) c.requires
    c.rdata_at-rdata.ensures c.pdata_at.ensures
    (c.slots_offset.ensures.value ∙ ap slots_offset (c.deref.ensures.value ∙ imports))
    (c.addresses_size.ensures.value ∙ ap addresses_size (c.deref-2.ensures.value ∙ imports))
