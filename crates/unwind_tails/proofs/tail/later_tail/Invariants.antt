use Rattle.std.proofs.Common.{◌≡◌, ◌+◌, ◌-◌, ◌<◌, ◌≤◌, false, length}
use Rattle.virtual_unwind.specs.Tail.{tail}
use Rattle.unwind_tails.specs.Instructions.{between}
use Rattle.unwind_tails.specs.Tails.{counted}
use Rattle.unwind_tails.specs.TailEnds.{AreEnded}
use Rattle.unwind_tails.proofs.tail.later_tail.Given as goal

abbrev pub invariant-loop-here : goal.invariant-loop-here
invariant-loop-here g l =
    let m = g.S.CodeSpace.memory l.space in
    record {
      inside : l.here ≤ l.end;
      some : 0 < l.count;
      few : l.count + l.begin ≤ l.here + 1;
      items : 1 + length (between m l.begin l.end).items
          ≡ l.count + length (between m l.here l.end).items;
      same : counted l.count
          (tail (0xFFFF_FFFF_FFFF_FFFF - l.count) false l.register m l.here)
          ≡ counted 1 (tail 0xFFFF_FFFF_FFFF_FFFE false l.register m l.begin);
      ended : AreEnded m l.known;
    }

abbrev pub decreases-loop-here : goal.decreases-loop-here
decreases-loop-here g l = l.end - l.here
