use Rattle.std.proofs.Common.{◌≡◌, ◌≤◌, ◌+◌, ◌-◌, ◌++◌, [], length}
use Rattle.frame_rules.specs.Plan.{pops_then}
use Rattle.frame_layout.specs.Plans.{pushes_of}
use Rattle.frame_layout.proofs.instructions.put_pops.Given as goal

abbrev pub invariant-loop-index : goal.invariant-loop-index
invariant-loop-index l = record {
  value : l.instrs.items ++ pops_then (pushes_of (l.count - l.index) l.framed) []
      ≡ l.initial.instrs.items ++ pops_then (pushes_of l.count l.framed) [];
  few : length l.instrs.items ≤ length l.initial.instrs.items + l.index;
}
