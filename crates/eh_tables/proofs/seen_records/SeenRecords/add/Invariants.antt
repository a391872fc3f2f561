use Rattle.std.proofs.Common.{ℕ, ◌≤◌, length}
use Rattle.eh_tables.specs.SeenRecords.{InRun}
use Rattle.eh_tables.proofs.SeenPlaces.{AreJoined}
use Rattle.eh_tables.proofs.seen_records.SeenRecords.add.Given as goal

abbrev pub invariant-loop-from : goal.invariant-loop-from
invariant-loop-from l = record {
  low : l.first ≤ l.begin;
  high : l.end ≤ l.last;
  kept : (p : ℕ) → InRun l.self.runs p → InRun l.fn.self.runs p;
  joined : AreJoined l.fn.self.runs l.begin l.end l.first l.last;
}

abbrev pub decreases-loop-from : goal.decreases-loop-from
decreases-loop-from l = length l.self.runs.entries
