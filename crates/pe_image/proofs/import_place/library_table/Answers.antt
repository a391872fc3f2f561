use Rattle.std.proofs.Common.{sym, ◌∙◌}
use Rattle.pe_image.proofs.ImportsRead.{library_lacks, library_ends, libraries_first, library_reads, libraries_read}
use Rattle.pe_image.proofs.import_place.library_table.Goals as goal

pub returns-in_err-descriptor-clause-none : goal.returns-in_err-descriptor-clause-none
returns-in_err-descriptor-clause-none c = rw c.from_residual.ensures (library_lacks
    c.args.sections.now c.args.directory c.args.library c.if-directory-eq0.false
    (sym c.in_err-descriptor.ensures))

pub returns-then-is_zero-clause-none : goal.returns-then-is_zero-clause-none
returns-then-is_zero-clause-none c = library_ends c.args.sections.now c.args.directory
    c.args.library c.in_ok-descriptor.descriptor.now c.if-directory-eq0.false
    (sym c.in_ok-descriptor.ensures) (sym c.is_zero.ensures ∙ c.if-is_zero.true)

pub returns-clause-first : goal.returns-clause-first
returns-clause-first c = libraries_first c.args.sections.now c.args.directory c.args.library
    c.lookups.result c.slots.result c.in_ok-descriptor.descriptor.now c.requires.read
    c.if-directory-eq0.false (sym c.in_ok-descriptor.ensures)
    (sym c.is_zero.ensures ∙ c.if-is_zero.false) c.lookups.ensures.value c.slots.ensures.value
    c.lookups.ensures.fits c.slots.ensures.fits

pub returns-clause-table : goal.returns-clause-table
returns-clause-table c = library_reads c.args.sections.now c.args.directory c.args.library
    c.lookups.result c.slots.result c.in_ok-descriptor.descriptor.now c.requires.read
    c.if-directory-eq0.false (sym c.in_ok-descriptor.ensures)
    (sym c.is_zero.ensures ∙ c.if-is_zero.false) c.lookups.ensures.value c.slots.ensures.value
    c.lookups.ensures.fits c.slots.ensures.fits

pub returns-clause-others : goal.returns-clause-others
returns-clause-others c = libraries_read c.args.sections.now c.args.directory c.args.library
    c.lookups.result c.slots.result c.in_ok-descriptor.descriptor.now c.requires.read
    c.if-directory-eq0.false (sym c.in_ok-descriptor.ensures)
    (sym c.is_zero.ensures ∙ c.if-is_zero.false) c.lookups.ensures.value c.slots.ensures.value
    c.lookups.ensures.fits c.slots.ensures.fits
