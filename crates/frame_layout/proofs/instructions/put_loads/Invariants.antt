use Rattle.std.proofs.Common.{◌≡◌, ◌≤◌, ◌-◌, ◌++◌, [], length}
use Rattle.frame_rules.specs.Plan.{loads_then}
use Rattle.frame_layout.specs.Plans.{saves_of}
use Rattle.frame_layout.proofs.instructions.put_loads.Given as goal

abbrev pub invariant-loop-index : goal.invariant-loop-index
invariant-loop-index l = record {
  value : l.instrs.items ++ loads_then (saves_of l.slots (l.count - l.index)) []
      ≡ loads_then (saves_of l.slots l.count) [];
  few : length l.instrs.items ≤ l.index;
}
