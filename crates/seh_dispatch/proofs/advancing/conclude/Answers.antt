use Rattle.std.proofs.Common.{◌++◌, append-nil, sym, ap, ◌∙◌, subst}
use Rattle.seh_dispatch.specs.Words.{functions_of, distance, shown_in, arrivals, after, listed, left}
use Rattle.seh_dispatch.proofs.TurnOutcomes.{goes_turn, ends_turn, left_over}
use Rattle.seh_dispatch.proofs.advancing.conclude.Goals as goal

pub returns-in-Ends-clause-host : goal.returns-in-Ends-clause-host
returns-in-Ends-clause-host g c m =
    sym (ap after (ends_turn (functions_of c.args.tables.now) c.args.funclets.now
    c.args.machine.now m c.args.made c.in-Ends.end c.in-Ends.is))

pub returns-in-Ends-clause-shown : goal.returns-in-Ends-clause-shown
returns-in-Ends-clause-shown g c m =
    let made = c.args.made in
    let turned = ends_turn (functions_of c.args.tables.now) c.args.funclets.now c.args.machine.now m
    made c.in-Ends.end c.in-Ends.is in
    subst (λ es. g.V.Events.took c.args.to.now es c.tell-2.new.to)
    (ap (λ es. listed made.first ++ es) (sym (append-nil (listed made.rest.first)))
    ∙ sym (ap shown_in turned))
    (g.met.V.Events.more c.args.to.now c.tell.new.to c.tell-2.new.to (listed made.first)
    (listed made.rest.first) c.tell.ensures c.tell-2.ensures)

pub returns-in-Continues-clause-host : goal.returns-in-Continues-clause-host
returns-in-Continues-clause-host g c m =
    let machine = c.args.machine.now in
    ap (left machine m) c.arrive.ensures.end
    ∙ left_over machine m
    ∙ sym (ap after (goes_turn (functions_of c.args.tables.now) c.args.funclets.now machine m
    c.args.made c.in-Continues.event c.in-Continues.is))

pub returns-in-Continues-clause-shown : goal.returns-in-Continues-clause-shown
returns-in-Continues-clause-shown g c m =
    let machine = c.args.machine.now in
    let cpu = machine.cpu in
    let made = c.args.made in
    let fs = c.args.funclets.now in
    let t = functions_of c.args.tables.now in
    let first = listed made.first in
    let second = listed made.rest.first in
    let event = listed c.in-Continues.event in
    let more = g.met.V.Events.more in
    let turned = goes_turn t fs machine m made c.in-Continues.event c.in-Continues.is in
    subst (λ es. g.V.Events.took c.args.to.now es c.arrive.new.to)
    (sym (ap shown_in turned))
    (more c.args.to.now c.tell-in-Continues.new.to c.arrive.new.to
    (first ++ (second ++ event)) (arrivals cpu (distance t.base cpu.rip) 1 fs)
    (more c.args.to.now c.tell.new.to c.tell-in-Continues.new.to first (second ++ event)
    c.tell.ensures (more c.tell.new.to c.tell-2.new.to c.tell-in-Continues.new.to second event
    c.tell-2.ensures c.tell-in-Continues.ensures))
    c.arrive.ensures.shown)
