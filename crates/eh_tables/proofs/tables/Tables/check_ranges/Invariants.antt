use Rattle.std.proofs.Common.{◌≡◌, drop}
use Rattle.eh_tables.specs.Covering.{ranges_checked}
use Rattle.eh_tables.specs.Words.{end_before}
use Rattle.eh_tables.proofs.tables.Tables.check_ranges.Given as goal

abbrev pub invariant-loop-index : goal.invariant-loop-index
invariant-loop-index l = ranges_checked l.index (end_before l.self.ranges l.index)
    (drop l.index l.self.ranges) ≡ ranges_checked 0 0 l.self.ranges
