use Rattle.std.proofs.Common.{sym, ap, ◌∙◌, arith}
use Rattle.seh_views.specs.Ranges.{held_from}
use Rattle.seh_views.proofs.RangesHeld.{are_placed, none_above, begun_last}
use Rattle.seh_views.proofs.snapshot.bytes_at.Goals as goal

pub returns-then-begun-eq0 : goal.returns-then-begun-eq0
returns-then-begun-eq0 c =
    sym (ap (held_from c.args.at) (none_above c.args.at c.args.ranges.now
    (λ k d lt. c.count_begun-begun.ensures.later k d (omega arith) lt)))

pub returns : goal.returns
returns c = c.bytes_from.ensures ∙ begun_last c.args.at c.count_begun-begun.result
    c.args.ranges.now _ (are_placed 0 c.args.ranges.now c.requires)
    c.count_begun-begun.ensures.within c.if-begun-eq0.false c.count_begun-begun.ensures.begun
    c.count_begun-begun.ensures.later
