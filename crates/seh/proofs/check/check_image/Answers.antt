use Rattle.std.proofs.Common.{◌≡◌, ◌∙◌, List, ℕ, subst}
use Rattle.seh_io.specs.Writer.{TookPart}
use Rattle.seh.specs.Checks.{verdict_line}
use Rattle.seh.proofs.Inputs.{took_front}
use Rattle.seh.proofs.check.check_image.Goals as goal

pub returns-in-Err-put_all : goal.returns-in-Err-put_all
returns-in-Err-put_all g c =
    let taken = g.O.Sink.taken in
    let count = c.in-Err-put_all.field-0.taken in
    let line : c.as_bytes.result.now ≡ verdict_line c.in-Ok.verdict =
    c.as_bytes.ensures.value ∙ c.verdict_line.ensures in (
      c.in-Ok.verdict,
      c.in-Ok.ensures.found,
      (
        c.in-Err-put_all.ensures.cause,
        (
          count,
          subst (λ (t : List ℕ). TookPart (taken c.args.out.now) t (taken c.put_all.new.sink) count)
              line
              (took_front (taken c.args.out.now) c.as_bytes.result.now
              (taken c.put_all.new.sink) count c.in-Err-put_all.ensures.short
              c.in-Err-put_all.ensures.part),
        ),
      ),
    )
