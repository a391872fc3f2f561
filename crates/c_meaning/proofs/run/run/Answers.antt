use Rattle.std.proofs.Common.{[]}
use Rattle.seh_io.specs.Writer.{TookEvents}
use Rattle.seh_io.specs.Successive.{took_none, took_more}
use Rattle.c_checked.specs.Whole as whole
use Rattle.source_steps.specs.Machines.{machine_of}
use Rattle.source_plans.specs.Views.{next_of}
use Rattle.c_meaning.proofs.Reached.{at_first, one_more, nearer, at_most, so_far, stops, not_over}
use Rattle.c_meaning.proofs.run.run.Goals as goal

pub loop-how-init : goal.loop-how-init
loop-how-init g c = (
  at_first (TookEvents g.O.Sink.taken g.O.Sink.faults g.N.Names.named)
      (whole.program c.args.program.now) c.args.machine.now (next_of c.args.first) c.args.lines.now
      (took_none g.O.Sink.taken g.O.Sink.faults g.N.Names.named c.args.lines.now),
  c.requires.fresh,
)

pub loop-how-preserved : goal.loop-how-preserved
loop-how-preserved g c = (
  one_more (TookEvents g.O.Sink.taken g.O.Sink.faults g.N.Names.named)
      (whole.program c.args.program.now)
      (took_more g.O.Sink.taken g.O.Sink.faults g.N.Names.named)
      (machine_of c.args.machine.now (next_of c.args.first) []) c.args.lines.now
      c.loop-how.machine (next_of c.loop-how.next) c.loop-how.lines c.turn.new.machine
      (next_of c.in-Ok.after) c.turn.new.to c.loop-how.invariant.0 c.in-Ok.ensures.turned,
  c.if-lines.false,
)

pub loop-how-smaller : goal.loop-how-smaller
loop-how-smaller g c =
    nearer (TookEvents g.O.Sink.taken g.O.Sink.faults g.N.Names.named)
    (whole.program c.args.program.now)
    c.loop-how.machine (next_of c.loop-how.next) c.loop-how.lines c.turn.new.machine
    (next_of c.in-Ok.after) c.turn.new.to
    (not_over _ c.finish_of.result c.finish_of.ensures c.in_default.not-Some)
    c.in-Ok.ensures.turned

pub returns-in_default-turn-clause-part : goal.returns-in_default-turn-clause-part
returns-in_default-turn-clause-part g c =
    at_most (TookEvents g.O.Sink.taken g.O.Sink.faults g.N.Names.named)
    (whole.program c.args.program.now)
    (took_more g.O.Sink.taken g.O.Sink.faults g.N.Names.named)
    (machine_of c.args.machine.now (next_of c.args.first) []) c.args.lines.now
    c.loop-how.machine (next_of c.loop-how.next) c.loop-how.lines c.turn.new.to
    c.loop-how.invariant.0 c.in_default-turn.ensures.nothing

pub returns-then-lines-clause-part : goal.returns-then-lines-clause-part
returns-then-lines-clause-part g c =
    let from = machine_of c.args.machine.now (next_of c.args.first) [] in
    so_far (TookEvents g.O.Sink.taken g.O.Sink.faults g.N.Names.named)
    (whole.program c.args.program.now) from
    c.args.lines.now c.turn.new.machine (next_of c.in-Ok.after) c.turn.new.to
    (one_more (TookEvents g.O.Sink.taken g.O.Sink.faults g.N.Names.named)
    (whole.program c.args.program.now)
    (took_more g.O.Sink.taken g.O.Sink.faults g.N.Names.named) from c.args.lines.now
    c.loop-how.machine (next_of c.loop-how.next) c.loop-how.lines c.turn.new.machine
    (next_of c.in-Ok.after) c.turn.new.to c.loop-how.invariant.0 c.in-Ok.ensures.turned)

pub returns-then-lines-clause-stopped : goal.returns-then-lines-clause-stopped
returns-then-lines-clause-stopped g c =
    stops g.O.Sink.taken g.O.Sink.faults g.N.Names.named (whole.program c.args.program.now)
    (machine_of c.args.machine.now (next_of c.args.first) []) c.args.lines.now
    c.loop-how.machine (next_of c.loop-how.next) c.loop-how.lines c.turn.new.machine
    (next_of c.in-Ok.after) c.turn.new.to c.loop-how.invariant.0 c.in-Ok.ensures.turned
    c.loop-how.invariant.1 c.if-lines.true
