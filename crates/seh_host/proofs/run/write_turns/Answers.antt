use Rattle.std.proofs.Common.{refl, ◌∙◌, arith}
use Rattle.seh_host.specs.Words.{running_of, event_count}
use Rattle.seh_host.proofs.Writing.{next_host, next_took, stops, over, all_made, none_made, none_taken}
use Rattle.seh_host.proofs.Counts.{none_counted, next_counted, turns_counted, ended_counted, all_made_counted}
use Rattle.seh_host.proofs.run.write_turns.Goals as goal

pub loop-i-init : goal.loop-i-init
loop-i-init g c = (
  none_made (running_of c.args.host.now),
  c.requires.whole,
  none_taken g.O.Sink.taken g.O.Sink.faults c.args.lines.now (running_of c.args.host.now),
  refl,
  none_counted (running_of c.args.host.now) (event_count c.args.host.now),
)

pub loop-i-preserved : goal.loop-i-preserved
loop-i-preserved g c =
    let i = c.loop-i.invariant in
    let r = running_of c.args.host.now in (
      next_host g.O.Sink.taken g.O.Sink.faults c.args.lines.now c.loop-i.lines c.turn.new.to
          c.args.turns c.loop-i._i r (running_of c.loop-i.host) (running_of c.turn.new.host) i.0 i.1
          c.requires.named i.2 c.turn.ensures.host c.turn.ensures.shown,
      c.if-lines.false,
      next_took g.O.Sink.taken g.O.Sink.faults c.args.lines.now c.loop-i.lines c.turn.new.to
          c.args.turns c.loop-i._i r (running_of c.loop-i.host) (running_of c.turn.new.host) i.0 i.1
          c.requires.named i.2 c.turn.ensures.host c.turn.ensures.shown,
      c.turn.ensures.image ∙ i.3,
      next_counted c.args.turns c.loop-i._i (event_count c.args.host.now)
          (event_count c.loop-i.host)
          (event_count c.turn.new.host) r (running_of c.loop-i.host) (running_of c.turn.new.host)
          i.0 i.4 c.turn.ensures.host c.turn.ensures.counted,
    )

pub returns-in-Ended-clause-written : goal.returns-in-Ended-clause-written
returns-in-Ended-clause-written g c =
    let i = c.loop-i.invariant in
    over g.O.Sink.taken g.O.Sink.faults c.args.lines.now c.loop-i.lines c.turn.new.to c.args.turns
    c.loop-i._i (running_of c.args.host.now) (running_of c.loop-i.host)
    (running_of c.turn.new.host) i.0 i.1 c.requires.named i.2 c.turn.ensures.host
    c.turn.ensures.shown
    c.loop-i-test.true c.in-Ended.ensures.answer

pub returns-in-Ended-clause-counted : goal.returns-in-Ended-clause-counted
returns-in-Ended-clause-counted g c =
    let i = c.loop-i.invariant in
    turns_counted c.args.turns c.loop-i._i (event_count c.args.host.now) (event_count c.loop-i.host)
    (event_count c.turn.new.host) (running_of c.args.host.now) (running_of c.loop-i.host)
    (running_of c.turn.new.host) i.0 i.4 c.turn.ensures.host c.turn.ensures.counted
    c.loop-i-test.true

pub returns-in-Ended-clause-all_counted : goal.returns-in-Ended-clause-all_counted
returns-in-Ended-clause-all_counted g c _ =
    let i = c.loop-i.invariant in
    ended_counted c.args.turns c.loop-i._i (event_count c.args.host.now) (event_count c.loop-i.host)
    (event_count c.turn.new.host) (running_of c.args.host.now) (running_of c.loop-i.host)
    (running_of c.turn.new.host) i.0 i.4 c.turn.ensures.host c.turn.ensures.counted
    c.loop-i-test.true c.in-Ended.ensures.answer

pub returns-then-lines-clause-written : goal.returns-then-lines-clause-written
returns-then-lines-clause-written g c =
    let i = c.loop-i.invariant in
    stops g.O.Sink.taken g.O.Sink.faults c.args.lines.now c.loop-i.lines c.turn.new.to c.args.turns
    c.loop-i._i (running_of c.args.host.now) (running_of c.loop-i.host)
    (running_of c.turn.new.host) i.0 i.1 c.requires.named i.2 c.turn.ensures.host
    c.turn.ensures.shown
    c.loop-i-test.true c.if-lines.true

pub returns-then-lines-clause-counted : goal.returns-then-lines-clause-counted
returns-then-lines-clause-counted g c =
    let i = c.loop-i.invariant in
    turns_counted c.args.turns c.loop-i._i (event_count c.args.host.now) (event_count c.loop-i.host)
    (event_count c.turn.new.host) (running_of c.args.host.now) (running_of c.loop-i.host)
    (running_of c.turn.new.host) i.0 i.4 c.turn.ensures.host c.turn.ensures.counted
    c.loop-i-test.true

pub returns-clause-counted : goal.returns-clause-counted
returns-clause-counted g c =
    let i = c.loop-i.invariant in
    (all_made_counted c.args.turns c.loop-i._i (event_count c.args.host.now)
    (event_count c.loop-i.host) (running_of c.args.host.now) (running_of c.loop-i.host)
    (omega arith) i.0 i.4).0

pub returns-clause-all_counted : goal.returns-clause-all_counted
returns-clause-all_counted g c _ =
    let i = c.loop-i.invariant in
    (all_made_counted c.args.turns c.loop-i._i (event_count c.args.host.now)
    (event_count c.loop-i.host) (running_of c.args.host.now) (running_of c.loop-i.host)
    (omega arith) i.0 i.4).1

pub returns-clause-written : goal.returns-clause-written
returns-clause-written g c =
    let i = c.loop-i.invariant in
    all_made g.O.Sink.taken g.O.Sink.faults c.args.lines.now c.loop-i.lines c.args.turns c.loop-i._i
    (running_of c.args.host.now) (running_of c.loop-i.host) (omega arith) i.0 i.1
    c.requires.named i.2
