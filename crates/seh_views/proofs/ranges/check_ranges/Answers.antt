use Rattle.std.proofs.Common.{sym, ◌∙◌, arith}
use Rattle.seh_views.proofs.RangesHeld.{are_in_order, checked_over}
use Rattle.seh_views.proofs.ranges.check_ranges.Goals as goal

pub returns-clause-ordered : goal.returns-clause-ordered
returns-clause-ordered c =
    let l = c.loop-index in
    are_in_order c.args.ranges.now (sym l.invariant
    ∙ checked_over l.index l.end c.args.ranges.now (omega arith))
