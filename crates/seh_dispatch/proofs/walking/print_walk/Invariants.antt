use Rattle.std.proofs.Common.{◌-◌}
use Rattle.virtual_unwind.specs.CallerOf.{functions_of}
use Rattle.host_model.specs.HostStep.{printed, walk_from}
use Rattle.seh_dispatch.proofs.WalkSteps.{Shows}
use Rattle.seh_dispatch.proofs.walking.print_walk.Given as goal

abbrev pub invariant-loop-i : goal.invariant-loop-i
invariant-loop-i g l =
    let t = functions_of l.tables in
    let m = g.S.CodeSpace.memory l.space in
    Shows g.V.Events.took l.initial.to (printed 0xFFFF_FFFF_FFFF_FFFF t m (walk_from l.cpu)) l.to
    (printed (0xFFFF_FFFF_FFFF_FFFF - l._i) t m l.at)
