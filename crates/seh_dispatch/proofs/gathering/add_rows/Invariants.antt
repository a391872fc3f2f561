use Rattle.std.proofs.Common.{◌≡◌}
use Rattle.seh_dispatch.specs.Words.{of_rows, AreAscending, funclets_of}
use Rattle.seh_dispatch.proofs.gathering.add_rows.Given as goal

abbrev pub invariant-loop-row : goal.invariant-loop-row
invariant-loop-row l = record {
  can : (goal.iterator-loop-row).can_next l.row-iterator;
  ends : (goal.iterator-loop-row).is_finite l.row-iterator;
  ascending : AreAscending 0 (funclets_of l.gathered.entries);
  same : of_rows l.row-iterator (funclets_of l.gathered.entries)
      ≡ of_rows l.fn.rows (funclets_of l.fn.gathered.entries);
}
