use Rattle.std.proofs.Common.{refl, ap, rules}
use Rattle.seh_io.proofs.Writers.{on_ok, on_err, same_grew, same_part}
use Rattle.table_view.proofs.Texts.{whole, part}
use Rattle.table_view.proofs.writing.view.Goals as goal

pub returns-clause-ok : goal.returns-clause-ok
returns-clause-ok g c =
    on_ok c.outcome.result _ _ _ c.outcome.ensures (λ is.
    same_grew (g.O.Sink.taken c.new-lines.result.sink.now) (g.O.Sink.taken c.args.sink.now)
    (g.O.Sink.taken c.put_table.new.out.sink.now) _ _ _
    (ap g.O.Sink.taken c.new-lines.ensures.sink)
    refl
    (search rules)
    (whole _ _ _ c.put_table.ensures.wrote is))

pub returns-clause-part : goal.returns-clause-part
returns-clause-part g c =
    on_err c.outcome.result _ _ _ c.outcome.ensures (λ e q.
    same_part (g.O.Sink.taken c.new-lines.result.sink.now) (g.O.Sink.taken c.args.sink.now)
    (g.O.Sink.taken c.put_table.new.out.sink.now) _ _ _ e.taken
    (ap g.O.Sink.taken c.new-lines.ensures.sink)
    refl
    (search rules)
    (part _ _ _ e.taken c.put_table.ensures.wrote c.new-lines.ensures.taken q.1))
