use Rattle.std.proofs.Common.{◌+◌, ◌-◌, None, Ok, Err, ap, refl, arith}
use Rattle.x64_machine.specs.declared.context.Context.{Context}
use Rattle.seh_dispatch.specs.Words.{functions_of, printed, walk_from}
use Rattle.seh_dispatch.proofs.WalkSteps.{no_more, shows_none, shows_same, shows_step, shows_all, stop_is, printed-none}
use Rattle.seh_dispatch.proofs.walking.print_walk.Goals as goal

pub loop-i-init : goal.loop-i-init
loop-i-init g c =
    let t = functions_of c.args.tables.now in
    let m = g.S.CodeSpace.memory c.args.space.now in
    let whole = printed 0xFFFF_FFFF_FFFF_FFFF t m (walk_from c.args.cpu.now) in
    shows_same g.V.Events.took c.args.to.now c.args.to.now whole whole
    (shows_none g.V.Events.took g.met.V.Events.none c.args.to.now whole)
    (printed 0xFFFF_FFFF_FFFF_FFFF t m (record { context = c.of.result; row = 0 }))
    (ap (λ (k : Context). printed 0xFFFF_FFFF_FFFF_FFFF t m (record { context = k; row = 0 }))
    c.of.ensures)

pub loop-i-preserved : goal.loop-i-preserved
loop-i-preserved g c =
    let t = functions_of c.args.tables.now in
    let m = g.S.CodeSpace.memory c.args.space.now in
    shows_step g.V.Events.took g.met.V.Events.more c.args.to.now c.loop-i.to c.print_step.new.to
    (printed 0xFFFF_FFFF_FFFF_FFFF t m (walk_from c.args.cpu.now))
    (0xFFFF_FFFF_FFFF_FFFF - c.loop-i._i) (0xFFFF_FFFF_FFFF_FFFF - (c.loop-i._i + 1)) t m
    c.loop-i.at (Ok c.in-Ok.next) c.loop-i.invariant (omega arith) c.in-Ok.ensures.next
    c.in-Ok.ensures.shown

pub returns-in-Err-clause-stop : goal.returns-in-Err-clause-stop
returns-in-Err-clause-stop g c =
    let t = functions_of c.args.tables.now in
    let m = g.S.CodeSpace.memory c.args.space.now in
    let whole = printed 0xFFFF_FFFF_FFFF_FFFF t m (walk_from c.args.cpu.now) in
    stop_is g.V.Events.took c.args.to.now c.print_step.new.to whole (no_more c.in-Err.stop)
    (shows_step g.V.Events.took g.met.V.Events.more c.args.to.now c.loop-i.to c.print_step.new.to
    whole (0xFFFF_FFFF_FFFF_FFFF - c.loop-i._i) (0xFFFF_FFFF_FFFF_FFFF - (c.loop-i._i + 1)) t m
    c.loop-i.at (Err c.in-Err.stop) c.loop-i.invariant (omega arith) c.in-Err.ensures.next
    c.in-Err.ensures.shown) c.in-Err.stop refl

pub returns-in-Err-clause-shown : goal.returns-in-Err-clause-shown
returns-in-Err-clause-shown g c =
    let t = functions_of c.args.tables.now in
    let m = g.S.CodeSpace.memory c.args.space.now in
    let whole = printed 0xFFFF_FFFF_FFFF_FFFF t m (walk_from c.args.cpu.now) in
    shows_all g.V.Events.took c.args.to.now c.print_step.new.to whole (no_more c.in-Err.stop)
    (shows_step g.V.Events.took g.met.V.Events.more c.args.to.now c.loop-i.to c.print_step.new.to
    whole (0xFFFF_FFFF_FFFF_FFFF - c.loop-i._i) (0xFFFF_FFFF_FFFF_FFFF - (c.loop-i._i + 1)) t m
    c.loop-i.at (Err c.in-Err.stop) c.loop-i.invariant (omega arith) c.in-Err.ensures.next
    c.in-Err.ensures.shown) c.in-Err.stop refl

pub returns-clause-stop : goal.returns-clause-stop
returns-clause-stop g c =
    let t = functions_of c.args.tables.now in
    let m = g.S.CodeSpace.memory c.args.space.now in
    let n = 0xFFFF_FFFF_FFFF_FFFF - c.loop-i._i in
    stop_is g.V.Events.took c.args.to.now c.loop-i.to
    (printed 0xFFFF_FFFF_FFFF_FFFF t m (walk_from c.args.cpu.now)) (printed n t m c.loop-i.at)
    c.loop-i.invariant None (printed-none n t m c.loop-i.at (omega arith))

pub returns-clause-shown : goal.returns-clause-shown
returns-clause-shown g c =
    let t = functions_of c.args.tables.now in
    let m = g.S.CodeSpace.memory c.args.space.now in
    let n = 0xFFFF_FFFF_FFFF_FFFF - c.loop-i._i in
    shows_all g.V.Events.took c.args.to.now c.loop-i.to
    (printed 0xFFFF_FFFF_FFFF_FFFF t m (walk_from c.args.cpu.now)) (printed n t m c.loop-i.at)
    c.loop-i.invariant None (printed-none n t m c.loop-i.at (omega arith))
