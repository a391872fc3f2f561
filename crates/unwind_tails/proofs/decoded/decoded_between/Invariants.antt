use Rattle.std.proofs.Common.{◌≡◌, ◌-◌, ◌≤◌}
use Rattle.unwind_tails.specs.Instructions.{between}
use Rattle.unwind_tails.proofs.Decoding.{onto}
use Rattle.unwind_tails.proofs.decoded.decoded_between.Given as goal

abbrev pub invariant-loop-at : goal.invariant-loop-at
invariant-loop-at g l = record {
  inside : l.at ≤ l.end;
  same : onto l.items.items (between (g.S.CodeSpace.memory l.space) l.at l.end)
      ≡ between (g.S.CodeSpace.memory l.space) l.begin l.end;
}

abbrev pub decreases-loop-at : goal.decreases-loop-at
decreases-loop-at g l = l.end - l.at
