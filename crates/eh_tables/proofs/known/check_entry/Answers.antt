use Rattle.std.proofs.Common.{sym, ap, ◌∙◌}
use Rattle.eh_tables.specs.Known.{only}
use Rattle.eh_tables.proofs.KnownEntries.{said_by_chain}
use Rattle.eh_tables.proofs.known.check_entry.Goals as goal

pub returns-in-Ok-clause-answer : goal.returns-in-Ok-clause-answer
returns-in-Ok-clause-answer c =
    ap only (sym c.in-Ok.is)
    ∙ said_by_chain c.args.image.now c.args.index c.args.last c.args.range c.in_default.field-0
    c.in_ok-chain_len.field-0 c.in_default.ensures c.in_ok-chain_len.ensures.len

pub returns-in-Err-2-clause-answer : goal.returns-in-Err-2-clause-answer
returns-in-Err-2-clause-answer c =
    ap only (sym c.in-Err-2.is)
    ∙ said_by_chain c.args.image.now c.args.index c.args.last c.args.range c.in_default.field-0
    c.in_ok-chain_len.field-0 c.in_default.ensures c.in_ok-chain_len.ensures.len
