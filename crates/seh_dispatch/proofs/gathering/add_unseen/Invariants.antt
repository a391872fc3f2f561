use Rattle.std.proofs.Common.{◌≡◌, ◌-◌, ◌≤◌, drop}
use Rattle.seh_dispatch.specs.Seen.{AreRowsSeen}
use Rattle.seh_dispatch.specs.Words.{of_rows, AreAscending, funclets_of}
use Rattle.seh_dispatch.proofs.gathering.add_unseen.Given as goal

abbrev pub invariant-loop-row : goal.invariant-loop-row
invariant-loop-row l = record {
  within : l.row ≤ l.count;
  ascending : AreAscending 0 (funclets_of l.gathered.entries);
  seen : AreRowsSeen l.tables.image l.seen (funclets_of l.gathered.entries);
  same : of_rows (drop l.row l.info.scopes) (funclets_of l.gathered.entries)
      ≡ of_rows l.info.scopes (funclets_of l.fn.gathered.entries);
}

abbrev pub decreases-loop-row : goal.decreases-loop-row
decreases-loop-row l = l.count - l.row
