use Rattle.std.proofs.Common.{◌+◌, ◌-◌, ◌*◌, sym, ap, ◌∙◌}
use Rattle.pe_image.specs.Imports.{import_at, max_count}
use Rattle.pe_image.proofs.ImportsRead.{entry_lacks, entry_ends, import_lacks, table_first, table_next}
use Rattle.pe_image.proofs.import_place.LookupTable.next_import.Goals as goal

pub returns-in_err-stored-clause-none : goal.returns-in_err-stored-clause-none
returns-in_err-stored-clause-none c =
    let t = c.args.self in
    rw c.from_residual.ensures (entry_lacks (max_count - t.read) c.args.sections.now
    (t.lookups + 8 * t.read) (t.slots + 8 * t.read) (sym c.in_err-stored.ensures))

pub returns-then-entry-eq0-clause-none : goal.returns-then-entry-eq0-clause-none
returns-then-entry-eq0-clause-none c =
    let t = c.args.self in
    entry_ends (max_count - t.read) c.args.sections.now (t.lookups + 8 * t.read)
    (t.slots + 8 * t.read) c.in_ok-stored.field-0.now (sym c.in_ok-stored.ensures)
    (sym c.u64_at-entry.ensures ∙ c.if-entry-eq0.true)

pub returns-in_err-import-clause-none : goal.returns-in_err-import-clause-none
returns-in_err-import-clause-none c =
    let t = c.args.self in
    rw c.from_residual-in_err-import.ensures (import_lacks (max_count - t.read)
    c.args.sections.now (t.lookups + 8 * t.read) (t.slots + 8 * t.read)
    c.in_ok-stored.field-0.now (sym c.in_ok-stored.ensures)
    (λ z. c.if-entry-eq0.false (c.u64_at-entry.ensures ∙ z))
    (ap (import_at c.args.sections.now (t.slots + 8 * t.read)) (sym c.u64_at-entry.ensures)
    ∙ sym c.in_err-import.ensures.import))

pub returns-clause-first : goal.returns-clause-first
returns-clause-first c =
    let t = c.args.self in
    table_first c.args.sections.now t c.in_ok-stored.field-0.now c.in_ok-import.import
    c.requires.table (sym c.in_ok-stored.ensures)
    (λ z. c.if-entry-eq0.false (c.u64_at-entry.ensures ∙ z))
    (ap (import_at c.args.sections.now (t.slots + 8 * t.read)) (sym c.u64_at-entry.ensures)
    ∙ sym c.in_ok-import.ensures.import)

pub returns-clause-table : goal.returns-clause-table
returns-clause-table c =
    let t = c.args.self in
    table_next c.args.sections.now t c.in_ok-stored.field-0.now c.in_ok-import.import
    c.requires.table (sym c.in_ok-stored.ensures)
    (λ z. c.if-entry-eq0.false (c.u64_at-entry.ensures ∙ z))
    (ap (import_at c.args.sections.now (t.slots + 8 * t.read)) (sym c.u64_at-entry.ensures)
    ∙ sym c.in_ok-import.ensures.import)
