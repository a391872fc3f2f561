use Rattle.std.proofs.Common.{◌++◌, ap, rules}
use Rattle.seh_io.specs.Text.{lines, end_line}
use Rattle.seh_io.proofs.Writers.{ran_whole, ran_part, on_ok, on_err, same_grew, same_part}
use Rattle.seh_io.proofs.receiver.put_text.Goals as goal

pub returns-clause-ok : goal.returns-clause-ok
returns-clause-ok g c =
    on_ok c.end.result _ _ _ c.end.ensures.outcome (λ is.
    same_grew (g.O.Sink.taken c.new-lines.result.sink.now) (g.O.Sink.taken c.args.sink.now)
    (g.O.Sink.taken c.end.new.self.sink.now) _ _ _
    (ap g.O.Sink.taken c.new-lines.ensures.sink)
    (λ i. lines (c.new-lines.ensures.trace i) c.args.events.now
    (g.N.Names.named (c.new-lines.ensures.names i)) ++ end_line c.args.end.now)
    (search rules)
    (ran_whole _ _ _ _ _ c.replay.ensures.wrote c.end.ensures.wrote is))

pub returns-clause-part : goal.returns-clause-part
returns-clause-part g c =
    on_err c.end.result _ _ _ c.end.ensures.outcome (λ e q.
    same_part (g.O.Sink.taken c.new-lines.result.sink.now) (g.O.Sink.taken c.args.sink.now)
    (g.O.Sink.taken c.end.new.self.sink.now) _ _ _ e.taken
    (ap g.O.Sink.taken c.new-lines.ensures.sink)
    (λ i. lines (c.new-lines.ensures.trace i) c.args.events.now
    (g.N.Names.named (c.new-lines.ensures.names i)) ++ end_line c.args.end.now)
    (search rules)
    (ran_part _ _ _ _ _ c.replay.ensures.wrote c.end.ensures.wrote e.taken c.new-lines.ensures.taken
    q.1))
