use Rattle.std.proofs.Common.{◌≡◌, ◌-◌}
use Rattle.abi_unwind.specs.Tail.{pops}
use Rattle.abi_unwind.specs.Ran.{ran_tail}
use Rattle.abi_unwind.proofs.tail.pops.Given as goal

abbrev pub invariant-loop-i : goal.invariant-loop-i
invariant-loop-i g l =
    let m = g.S.CodeSpace.memory l.space in
    ran_tail m l.answer (pops (0xFFFF_FFFF_FFFF_FFFF - l._i) m l.here)
    ≡ ran_tail m l.fn.start (pops 0xFFFF_FFFF_FFFF_FFFF m l.at)
