use Rattle.std.proofs.Common.{ap, subst, ◌∙◌}
use Rattle.seh_dispatch.specs.Words.{Turn, functions_of, state_of, shown_in, after, Told, Walks}
use Rattle.seh_dispatch.proofs.TurnOutcomes.{turn_is}
use Rattle.seh_dispatch.proofs.advancing.dispatch.Goals as goal

pub returns-in-Told-clause-host : goal.returns-in-Told-clause-host
returns-in-Told-clause-host g c =
    let m = g.S.CodeSpace.memory c.make.new.space in
    c.conclude.ensures.host m
    ∙ ap after (turn_is (functions_of c.args.tables.now) c.args.funclets.now
    (state_of c.args.machine.now (g.S.CodeSpace.memory c.args.space.now)) c.make.new.machine m
    c.make.result (Told c.in-Told.made) c.make.ensures c.in-Told.is)

pub returns-in-Told-clause-shown : goal.returns-in-Told-clause-shown
returns-in-Told-clause-shown g c =
    let m = g.S.CodeSpace.memory c.make.new.space in
    subst (λ (x : Turn). g.V.Events.took c.args.to.now (shown_in x) c.conclude.new.to)
    (turn_is (functions_of c.args.tables.now) c.args.funclets.now
    (state_of c.args.machine.now (g.S.CodeSpace.memory c.args.space.now)) c.make.new.machine m
    c.make.result (Told c.in-Told.made) c.make.ensures c.in-Told.is) (c.conclude.ensures.shown m)

pub returns-in-Walks-clause-host : goal.returns-in-Walks-clause-host
returns-in-Walks-clause-host g c =
    let m = g.S.CodeSpace.memory c.make.new.space in
    c.conclude_walk.ensures.host
    ∙ ap after (turn_is (functions_of c.args.tables.now) c.args.funclets.now
    (state_of c.args.machine.now (g.S.CodeSpace.memory c.args.space.now)) c.make.new.machine m
    c.make.result Walks c.make.ensures c.in-Walks.is)

pub returns-in-Walks-clause-shown : goal.returns-in-Walks-clause-shown
returns-in-Walks-clause-shown g c =
    let m = g.S.CodeSpace.memory c.make.new.space in
    subst (λ (x : Turn). g.V.Events.took c.args.to.now (shown_in x) c.conclude_walk.new.to)
    (turn_is (functions_of c.args.tables.now) c.args.funclets.now
    (state_of c.args.machine.now (g.S.CodeSpace.memory c.args.space.now)) c.make.new.machine m
    c.make.result Walks c.make.ensures c.in-Walks.is) c.conclude_walk.ensures.shown
