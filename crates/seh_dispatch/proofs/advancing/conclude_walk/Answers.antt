use Rattle.std.proofs.Common.{sym, ap, subst, ◌∙◌}
use Rattle.seh_walk.specs.Walk.{steps}
use Rattle.seh_dispatch.specs.Words.{Turn, functions_of, distance, shown_in, arrivals, after, left, printed, walk_from}
use Rattle.seh_dispatch.proofs.TurnOutcomes.{walk_stops, walk_goes, left_over}
use Rattle.seh_dispatch.proofs.advancing.conclude_walk.Goals as goal

pub returns-in-Some-clause-host : goal.returns-in-Some-clause-host
returns-in-Some-clause-host g c =
    let t = functions_of c.args.tables.now in
    let m = g.S.CodeSpace.memory c.args.space.now in
    sym (ap after (walk_stops t c.args.funclets.now c.args.machine.now m
    (printed steps t m (walk_from c.args.machine.now.cpu)) c.in-Some.cause c.in-Some.ensures.stop))

pub returns-in-Some-clause-shown : goal.returns-in-Some-clause-shown
returns-in-Some-clause-shown g c =
    let t = functions_of c.args.tables.now in
    let m = g.S.CodeSpace.memory c.args.space.now in
    subst (λ (x : Turn). g.V.Events.took c.args.to.now (shown_in x) c.print_walk.new.to)
    (sym (walk_stops t c.args.funclets.now c.args.machine.now m
    (printed steps t m (walk_from c.args.machine.now.cpu)) c.in-Some.cause c.in-Some.ensures.stop))
    c.in-Some.ensures.shown

pub returns-in-None-clause-host : goal.returns-in-None-clause-host
returns-in-None-clause-host g c =
    let t = functions_of c.args.tables.now in
    let m = g.S.CodeSpace.memory c.args.space.now in
    let machine = c.args.machine.now in
    ap (left machine m) c.arrive.ensures.end
    ∙ left_over machine m
    ∙ sym (ap after (walk_goes t c.args.funclets.now machine m
    (printed steps t m (walk_from machine.cpu))
    c.in-None.ensures.stop))

pub returns-in-None-clause-shown : goal.returns-in-None-clause-shown
returns-in-None-clause-shown g c =
    let t = functions_of c.args.tables.now in
    let m = g.S.CodeSpace.memory c.args.space.now in
    let machine = c.args.machine.now in
    let cpu = machine.cpu in
    let shown = printed steps t m (walk_from cpu) in
    let fs = c.args.funclets.now in
    subst (λ (x : Turn). g.V.Events.took c.args.to.now (shown_in x) c.arrive.new.to)
    (sym (walk_goes t fs machine m shown c.in-None.ensures.stop))
    (g.met.V.Events.more c.args.to.now c.print_walk.new.to c.arrive.new.to shown.events
    (arrivals cpu (distance t.base cpu.rip) 1 fs) c.in-None.ensures.shown
    c.arrive.ensures.shown)
