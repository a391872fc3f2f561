use Rattle.std.proofs.Common.{◌++◌, ◌+◌, length, refl, arith, length-append}
use Rattle.std.specs.Prelude.{codes}
use Rattle.std.proofs.lemmas.Result.{err_from_is_err_and}
use Rattle.seh_io.specs.Successive.{grew_more}
use Rattle.seh_io.proofs.Pieces.{grew_first, grew_second, whole_after, part_after}
use Rattle.seh_io.proofs.text.put_at.Goals as goal

pub returns-in_err-put_all-clause-part : goal.returns-in_err-put_all-clause-part
returns-in_err-put_all-clause-part g c =
    let p = err_from_is_err_and c.from_residual.result c.from_residual.ensures.1 in
    rw (p.1, p.2) (grew_first (g.O.Sink.taken c.args.sink.now) (g.O.Sink.taken c.put_all.new.sink)
    (codes "at ") (c.args.name.now ++ codes "\n") c.in_err-put_all.field-0.0.taken
    (omega (arith, c.in_err-put_all.ensures.short)) c.in_err-put_all.ensures.part)

pub returns-in_err-put_after-clause-part : goal.returns-in_err-put_after-clause-part
returns-in_err-put_after-clause-part g c =
    let p = err_from_is_err_and c.from_residual-in_err-put_after.result
    c.from_residual-in_err-put_after.ensures.1 in
    let fault = c.in_err-put_after.field-0.0 in
    rw (p.1, p.2) (grew_first (g.O.Sink.taken c.args.sink.now)
    (g.O.Sink.taken c.put_after.new.sink) (codes "at " ++ c.args.name.now) (codes "\n") fault.taken
    (omega (arith, c.in_err-put_after.ensures.short, length-append (codes "at ") c.args.name.now))
    (grew_second (g.O.Sink.taken c.args.sink.now) (g.O.Sink.taken c.put_all.new.sink)
    (g.O.Sink.taken c.put_after.new.sink) (codes "at ") c.args.name.now 3 fault.taken refl
    c.in_err-put_after.ensures.after c.in_ok-put_all.ensures.ok c.in_err-put_after.ensures.part))

pub returns-clause-ok : goal.returns-clause-ok
returns-clause-ok g c =
    let named = grew_more (g.O.Sink.taken c.args.sink.now) (g.O.Sink.taken c.put_all.new.sink)
    (g.O.Sink.taken c.put_after.new.sink) (codes "at ") c.args.name.now
    c.in_ok-put_all.ensures.ok c.in_ok-put_after.ensures.ok in
    whole_after c.put_after-2.result (g.O.Sink.taken c.args.sink.now)
    (g.O.Sink.taken c.put_after.new.sink)
    (g.O.Sink.taken c.put_after-2.new.sink) (codes "at " ++ c.args.name.now) (codes "\n") named
    c.put_after-2.ensures.ok

pub returns-clause-part : goal.returns-clause-part
returns-clause-part g c =
    let named = grew_more (g.O.Sink.taken c.args.sink.now) (g.O.Sink.taken c.put_all.new.sink)
    (g.O.Sink.taken c.put_after.new.sink) (codes "at ") c.args.name.now
    c.in_ok-put_all.ensures.ok c.in_ok-put_after.ensures.ok in
    part_after c.put_after-2.result (g.O.Sink.taken c.args.sink.now)
    (g.O.Sink.taken c.put_after.new.sink)
    (g.O.Sink.taken c.put_after-2.new.sink) (codes "at " ++ c.args.name.now) (codes "\n")
    (3 + length c.args.name.now) (length-append (codes "at ") c.args.name.now) named
    c.put_after-2.ensures.after c.put_after-2.ensures.part
