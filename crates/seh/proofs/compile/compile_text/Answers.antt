use Rattle.std.proofs.Common.{subst}
use Rattle.seh.specs.Words.{Grew, TookPart}
use Rattle.seh.proofs.Inputs.{took_front}
use Rattle.seh.proofs.compile.compile_text.Goals as goal

pub returns-in-Ok-put_all : goal.returns-in-Ok-put_all
returns-in-Ok-put_all g c = (
  c.in-Ok.image.items,
  c.in-Ok.ensures.found,
  record {
    grew = subst (λ t. Grew (g.O.Sink.taken c.args.out.now) t (g.O.Sink.taken c.put_all.new.sink))
        c.deref.ensures.value c.in-Ok-put_all.ensures.ok;
    faultless = c.in-Ok-put_all.ensures.faultless;
  },
)

pub returns : goal.returns
returns g c = (
  c.in-Ok.image.items,
  c.in-Ok.ensures.found,
  (
    c.in-Err-put_all.ensures.cause,
    (
      c.in-Err-put_all.field-0.taken,
      subst (λ t. TookPart (g.O.Sink.taken c.args.out.now) t (g.O.Sink.taken c.put_all.new.sink)
          c.in-Err-put_all.field-0.taken) c.deref.ensures.value
          (took_front (g.O.Sink.taken c.args.out.now) c.deref.result.now
          (g.O.Sink.taken c.put_all.new.sink) c.in-Err-put_all.field-0.taken
          c.in-Err-put_all.ensures.short c.in-Err-put_all.ensures.part),
    ),
  ),
)
