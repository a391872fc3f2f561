use Rattle.std.proofs.Common.{take, ap, sym, ◌∙◌, subst, add-one, arith}
use Rattle.std.proofs.Math.Seq.{take-suc}
use Rattle.std.proofs.lemmas.List.{take_all}
use Rattle.seh_io.proofs.receiver.replay.Goals as goal

pub loop-event-init : goal.loop-event-init
loop-event-init g c = g.met.V.Events.none c.args.to.now

pub loop-event-preserved : goal.loop-event-preserved
loop-event-preserved g c =
    subst (λ es. g.V.Events.took c.args.to.now es c.take.new.self)
    (sym (ap (λ k. take k c.args.events.now) (add-one c.loop-event.event-index)
    ∙ take-suc c.args.events.now c.loop-event.event-index _ (omega arith)))
    (g.met.V.Events.more c.args.to.now c.loop-event.to c.take.new.self
    (take c.loop-event.event-index c.args.events.now) _ c.loop-event.invariant c.take.ensures)

pub returns : goal.returns
returns g c =
    subst (λ es. g.V.Events.took c.args.to.now es c.loop-event.to)
    (take_all c.loop-event.event-index c.args.events.now c.loop-event-test.false)
    c.loop-event.invariant
