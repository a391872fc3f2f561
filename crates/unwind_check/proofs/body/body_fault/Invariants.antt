use Rattle.std.proofs.Common.{◌-◌, ◌≤◌, []}
use Rattle.unwind_check.specs.Steps.{body_between}
use Rattle.unwind_tails.specs.TailEnds.{AreEnded}
use Rattle.unwind_check.proofs.BodySteps.{IsAhead}
use Rattle.unwind_check.proofs.body.body_fault.Given as goal

abbrev pub invariant-loop-at : goal.invariant-loop-at
invariant-loop-at g l =
    let m = g.S.CodeSpace.memory l.space in
    record {
      inside : l.at ≤ l.end;
      ahead : IsAhead m l.info l.loaded.items l.at l.end l.left
          (body_between m l.info l.begin l.end [] 0);
      ended : AreEnded m l.known;
    }

abbrev pub decreases-loop-at : goal.decreases-loop-at
decreases-loop-at g l = l.end - l.at
