use Rattle.std.proofs.Common.{sym, ap, ◌∙◌}
use Rattle.eh_tables.specs.Words.{parents}
use Rattle.eh_tables.proofs.KnownEntries.{entry_made}
use Rattle.eh_tables.proofs.entry.read_entry.Goals as goal

pub returns : goal.returns
returns c =
    sym (entry_made c.args.image.now c.args.index c.args.last c.args.range c.in_ok-info.info
    c.in_ok-parents.parents.items c.in_ok-check_range.field-0 (sym c.in_ok-check_range.ensures)
    (sym c.in_ok-info.ensures.answer) (sym (c.in_ok-parents.ensures
    ∙ ap (parents 31 c.args.image.now c.args.index) c.parent.ensures)))
