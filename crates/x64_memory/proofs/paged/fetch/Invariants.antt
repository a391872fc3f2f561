use Rattle.std.proofs.Common.{◌≡◌, ◌-◌, ◌≤◌, ◌++◌, take}
use Rattle.x64_memory.specs.Words.{executable}
use Rattle.x64_memory.proofs.paged.fetch.Given as goal

abbrev pub invariant-loop-filled : goal.invariant-loop-filled
invariant-loop-filled g l =
    let m = g.P.ReadPages.memory l.space in
    record {
      most : l.filled ≤ 15;
      rest : executable m 15 l.at ≡ take l.filled l.into ++ executable m (15 - l.filled) l.here;
    }

abbrev pub decreases-loop-filled : goal.decreases-loop-filled
decreases-loop-filled g l = 15 - l.filled
