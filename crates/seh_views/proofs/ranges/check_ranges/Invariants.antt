use Rattle.std.proofs.Common.{◌≡◌, drop}
use Rattle.seh_views.specs.Ranges.{ranges_checked}
use Rattle.seh_views.proofs.ranges.check_ranges.Given as goal

abbrev pub invariant-loop-index : goal.invariant-loop-index
invariant-loop-index l =
    ranges_checked l.index l.end (drop l.index l.ranges) ≡ ranges_checked 0 0 l.ranges
