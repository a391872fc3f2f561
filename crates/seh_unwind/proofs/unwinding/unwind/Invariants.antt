use Rattle.std.proofs.Common.{◌≡◌, ◌-◌}
use Rattle.virtual_unwind.specs.CallerOf.{functions_of}
use Rattle.seh_walk.specs.Walk.{walk_in}
use Rattle.seh_unwind.specs.Unwind.{unwind}
use Rattle.seh_unwind.proofs.unwinding.unwind.Given as goal

abbrev pub invariant-loop-i : goal.invariant-loop-i
invariant-loop-i g l =
    let t = functions_of l.tables in
    let m = g.S.CodeSpace.memory l.space in
    unwind (0xFFFF_FFFF_FFFF_FFFF - l._i) t m l.dispatch.target_frame l.dispatch.target l.at
    ≡ unwind 0xFFFF_FFFF_FFFF_FFFF t m l.dispatch.target_frame l.dispatch.target
    (walk_in l.dispatch)
