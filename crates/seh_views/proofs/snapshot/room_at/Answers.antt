use Rattle.seh_views.proofs.RangesHeld.{are_placed, next_begins}
use Rattle.seh_views.proofs.snapshot.room_at.Goals as goal

pub returns-then-begun-ranges-clause-next : goal.returns-then-begun-ranges-clause-next
returns-then-begun-ranges-clause-next c = next_begins c.args.at c.count_begun-begun.result
    c.args.ranges.now _ (are_placed 0 c.args.ranges.now c.requires) c.if-begun-ranges.true
    c.count_begun-begun.ensures.begun c.count_begun-begun.ensures.later
