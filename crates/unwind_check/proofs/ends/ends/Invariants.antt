use Rattle.std.proofs.Common.{◌≡◌, ◌+◌, ◌<◌, ◌^◌, ◌++◌, length}
use Rattle.frame_rules.specs.Prologue.{bytes}
use Rattle.unwind_check.specs.Codes.{ends}
use Rattle.unwind_check.proofs.ends.ends.Given as goal

abbrev pub invariant-loop-rest : goal.invariant-loop-rest
invariant-loop-rest l = record {
  low : l.at + bytes l.rest < 2 ^ 63;
  same : l.ends.items ++ ends l.at l.rest ≡ ends 0 l.items;
}

abbrev pub decreases-loop-rest : goal.decreases-loop-rest
decreases-loop-rest l = length l.rest
