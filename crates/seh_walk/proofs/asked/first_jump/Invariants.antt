use Rattle.std.proofs.Common.{◌≡◌, ◌+◌, ◌<◌, ◌^◌, length}
use Rattle.seh_walk.specs.Asked.{first_with_jump_target, holding}
use Rattle.seh_walk.proofs.asked.first_jump.Given as goal

abbrev pub invariant-loop-row : goal.invariant-loop-row
invariant-loop-row l = record {
  can : (goal.iterator-loop-row).can_next l.left;
  ends : (goal.iterator-loop-row).is_finite l.left;
  fits : l.k + length l.left < 2 ^ 64;
  same : first_with_jump_target (holding l.rva l.k l.left)
      ≡ first_with_jump_target (holding l.rva l.from l.fn.rows);
}
