use Rattle.std.proofs.Common.{◌≡◌}
use Rattle.virtual_unwind.specs.CallerOf.{run_by}
use Rattle.known_frames.proofs.unwound.undone_by.Given as goal

abbrev pub invariant-loop-code : goal.invariant-loop-code
invariant-loop-code l = record {
  can : goal.iterator-loop-code.can_next l.left;
  ends : goal.iterator-loop-code.is_finite l.left;
  same : run_by l.distance l.left ≡ run_by l.distance l.info.codes;
}
