use Rattle.std.proofs.Common.{List, ◌+◌, ◌^◌, ◌<◌, subst, sym, ap, ◌∙◌, ◌≡◌, arith}
use Rattle.host_layout.specs.declared.imported.ImportedService.{ImportedService}
use Rattle.pe_write.specs.ImportTables.{tables_size}
use Rattle.pe_write.specs.NameTable.{NameRow, name_table_size}
use Rattle.pe_write.specs.Program.{ImageContents}
use Rattle.std.specs.Prelude.{OnOk, IfOk}
use Rattle.pe_write.specs.Written.{CanBeWritten, written}
use Rattle.pe_write.proofs.Programs.{rdata_fits, names_fit, read_again, small_file, with_imports}
use Rattle.pe_write.proofs.image.write.Goals as goal

pub overflow_cast-rdata_at : goal.overflow_cast-rdata_at
overflow_cast-rdata_at c =
    let fits = rdata_fits c.args.image.now c.sizes-sizes.result c.rdata_at.result
    c.sizes-sizes.ensures.program c.sizes-sizes.ensures.value c.rdata_at.ensures in
    omega arith

pub import_tables-requires-clause-fits : goal.import_tables-requires-clause-fits
import_tables-requires-clause-fits c =
    subst (λ (is : List ImportedService). c.rdata_at.result + tables_size is < 2 ^ 32)
    (sym (c.deref.ensures.value ∙ ap (λ (p : ImageContents). p.imports) c.image.view_is))
    (rdata_fits c.args.image.now c.sizes-sizes.result c.rdata_at.result
    c.sizes-sizes.ensures.program c.sizes-sizes.ensures.value c.rdata_at.ensures)

pub overflow_cast-names_at : goal.overflow_cast-names_at
overflow_cast-names_at c = let fits = names_fit c.args.image.now c.sizes-sizes.result
    c.names_at.result c.sizes-sizes.ensures.program c.sizes-sizes.ensures.value
    c.names_at.ensures.value in omega arith

pub name_table-requires : goal.name_table-requires
name_table-requires c =
    subst (λ (rows : List NameRow). c.names_at.result + name_table_size rows < 2 ^ 32)
    (sym (c.deref-2.ensures.value ∙ ap (λ (p : ImageContents). p.names) c.image.view_is))
    (names_fit c.args.image.now c.sizes-sizes.result c.names_at.result
    c.sizes-sizes.ensures.program c.sizes-sizes.ensures.value c.names_at.ensures.value)

pub returns-clause-read_again : goal.returns-clause-read_again
returns-clause-read_again c =
    read_again c.args.image.now c.write_sections-2.result c.sizes-sizes.ensures.program
    (subst (λ i. OnOk c.write_sections-2.result (CanBeWritten i)) c.with_sections.ensures
    c.write_sections-2.ensures.fits)
    (subst (λ i. IfOk c.write_sections-2.result (λ bytes. bytes.items ≡ written i))
    c.with_sections.ensures c.write_sections-2.ensures.written)

pub returns-clause-imported : goal.returns-clause-imported
returns-clause-imported c = with_imports c.args.image.now c.write_sections-2.result
    c.sizes-sizes.ensures.program

pub returns-clause-small : goal.returns-clause-small
returns-clause-small c =
    small_file c.args.image.now c.write_sections-2.result c.sizes-sizes.ensures.program
    (subst (λ i. IfOk c.write_sections-2.result (λ bytes. bytes.items ≡ written i))
    c.with_sections.ensures c.write_sections-2.ensures.written)
