use Rattle.std.proofs.Common.{◌++◌, subst}
use Rattle.std.specs.Prelude.{codes}
use Rattle.seh_io.specs.Text.{at_line}
use Rattle.seh_io.specs.Writer.{Wrote, writer_of}
use Rattle.seh_io.specs.Successive.{wrote_none, wrote_more}
use Rattle.seh_io.proofs.receiver.Lines.put_at.Goals as goal

pub returns-in-Some-clause-wrote : goal.returns-in-Some-clause-wrote
returns-in-Some-clause-wrote g c =
    let x = writer_of g.O.Sink.taken g.O.Sink.faults c.args.self.now in
    let y = writer_of g.O.Sink.taken g.O.Sink.faults c.put.new.self in
    let z = writer_of g.O.Sink.taken g.O.Sink.faults c.put-in-Some.new.self in
    let w = writer_of g.O.Sink.taken g.O.Sink.faults c.put-in-Some-2.new.self in
    let name = c.in-Some.name.now in
    let named = wrote_more x y z (codes "at ") name c.put.ensures.wrote c.put-in-Some.ensures.wrote in
    let all = wrote_more x z w (codes "at " ++ name) (codes "\n") named c.put-in-Some-2.ensures.wrote in
    subst (λ shown. Wrote x (at_line shown) w) c.in-Some.ensures all

pub returns-in_default-clause-wrote : goal.returns-in_default-clause-wrote
returns-in_default-clause-wrote g c =
    let x = writer_of g.O.Sink.taken g.O.Sink.faults c.args.self.now in
    subst (λ shown. Wrote x (at_line shown) x) c.in_default.ensures (wrote_none x)
