use Rattle.std.proofs.Common.{◌≡◌, ◌-◌, false}
use Rattle.virtual_unwind.specs.Tail.{tail}
use Rattle.unwind_tails.specs.Tails.{counted}
use Rattle.unwind_tails.proofs.tail.fetched_length.Given as goal

abbrev pub invariant-loop-n : goal.invariant-loop-n
invariant-loop-n g l =
    let m = g.S.CodeSpace.memory l.space in
    counted l.n (tail (0xFFFF_FFFF_FFFF_FFFF - l.n) false l.register m l.here)
    ≡ counted l.count (tail (0xFFFF_FFFF_FFFF_FFFF - l.count) false l.register m l.at)
