use Rattle.std.proofs.Common.{◌≡◌, ◌-◌, Ok, true}
use Rattle.virtual_unwind.specs.Tail.{tail}
use Rattle.virtual_unwind.specs.After.{after}
use Rattle.virtual_unwind.proofs.tail.epilogue.Given as goal

abbrev pub invariant-loop-i : goal.invariant-loop-i
invariant-loop-i g l =
    let m = g.S.CodeSpace.memory l.space in
    after m l.answer (tail (0xFFFF_FFFF_FFFF_FFFF - l._i) l.first l.register m l.here)
    ≡ after m (Ok l.context) (tail 0xFFFF_FFFF_FFFF_FFFF true l.register m l.at)
