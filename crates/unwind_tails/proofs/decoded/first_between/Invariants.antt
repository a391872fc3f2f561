use Rattle.std.proofs.Common.{◌≡◌, ◌-◌, ◌≤◌, ◌++◌, take}
use Rattle.unwind_tails.specs.Instructions.{between}
use Rattle.unwind_tails.proofs.decoded.first_between.Given as goal

abbrev pub invariant-loop-n : goal.invariant-loop-n
invariant-loop-n g l =
    let m = g.S.CodeSpace.memory l.space in
    record {
      inside : l.at ≤ l.end;
      same : l.items.items ++ take (l.count - l._n) (between m l.at l.end).items
          ≡ take l.count (between m l.begin l.end).items;
    }
