use Rattle.std.proofs.Common.{◌≡◌}
use Rattle.virtual_unwind.specs.CallerOf.{run_by}
use Rattle.abi_unwind.proofs.undo.undone_by.Given as goal

abbrev pub invariant-loop-code : goal.invariant-loop-code
invariant-loop-code g l = record {
  can : (goal.iterator-loop-code g).can_next l.left;
  ends : (goal.iterator-loop-code g).is_finite l.left;
  kept : l.undo ≡ l.initial.undo;
  same : run_by l.distance l.left ≡ run_by l.distance l.info.codes;
}
