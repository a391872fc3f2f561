use Rattle.std.proofs.Common.{sym, ◌∙◌, arith}
use Rattle.eh_tables.proofs.Ranges.{continues}
use Rattle.eh_tables.proofs.tables.Tables.check.Goals as goal

pub loop-index-preserved : goal.loop-index-preserved
loop-index-preserved c =
    let t = c.args.self.now in
    continues t.image c.loop-index.index t.ranges c.in_ok-_entry._entry (omega arith)
    (sym c.in_ok-_entry.ensures) ∙ c.loop-index.invariant
