use Rattle.std.proofs.Common.{◌≡◌, ◌≤◌, ◌++◌, length, take, drop}
use Rattle.lowering_registers.specs.Marks as marked
use Rattle.lowering_registers.proofs.registers.first_unmarked.Given as goal

abbrev pub invariant-loop-index : goal.invariant-loop-index
invariant-loop-index l = record {
  few : length l.chosen.items ≤ 7;
  chosen : take 7 (l.chosen.items ++ marked.unmarked (drop l.index l.marks) l.index)
      ≡ take 7 (marked.unmarked l.marks 0);
}
