use Rattle.std.proofs.Common.{◌≡◌, length, take}
use Rattle.seh_dispatch.specs.Words.{REMAINDERS, AreMarked}
use Rattle.seh_dispatch.proofs.filter.mark.Given as goal

abbrev pub invariant-loop-funclet : goal.invariant-loop-funclet
invariant-loop-funclet l = record {
  size : length l.marks.items ≡ REMAINDERS;
  marked : AreMarked l.marks.items (take l.funclet-index l.funclets);
}
