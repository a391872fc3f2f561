use Rattle.std.proofs.Common.{◌≡◌, drop, []}
use Rattle.seh_dispatch.specs.Words.{entries_of, of_entries, AreAscending, funclets_of}
use Rattle.seh_dispatch.specs.Seen.{AreSeen, AreRowsSeen}
use Rattle.seh_dispatch.proofs.gathering.gather.Given as goal

abbrev pub invariant-loop-index : goal.invariant-loop-index
invariant-loop-index l = record {
  ascending : AreAscending 0 (funclets_of l.gathered.entries);
  infos : AreSeen l.tables.image l.infos (funclets_of l.gathered.entries);
  rows : AreRowsSeen l.tables.image l.seen (funclets_of l.gathered.entries);
  same : of_entries (drop l.index (entries_of l.tables)) (funclets_of l.gathered.entries)
      ≡ of_entries (entries_of l.tables) [];
}
