use Rattle.std.proofs.Common.{◌≡◌, drop}
use Rattle.eh_tables.specs.Known.{AreKnown}
use Rattle.eh_tables.specs.Records.{SeenPass}
use Rattle.eh_tables.specs.Words.{entries, end_before, passed, checked}
use Rattle.eh_tables.proofs.tables.Tables.check_in.Given as goal

abbrev pub invariant-loop-index : goal.invariant-loop-index
invariant-loop-index l = record {
  known : AreKnown l.self.image l.known;
  seen : SeenPass l.self.image l.seen;
  same : passed (entries l.self.image l.index (end_before l.self.ranges l.index)
      (drop l.index l.self.ranges)) ≡ checked l.self;
}
