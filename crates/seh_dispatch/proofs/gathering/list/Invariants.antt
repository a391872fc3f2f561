use Rattle.std.proofs.Common.{◌≡◌, ◌++◌}
use Rattle.seh_dispatch.specs.Words.{funclets_of}
use Rattle.seh_dispatch.proofs.gathering.list.Given as goal

abbrev pub invariant-loop-address : goal.invariant-loop-address
invariant-loop-address l = l.funclets.items ++ funclets_of l.address-iterator
    ≡ funclets_of l.gathered.entries
