use Rattle.std.proofs.Common.{◌≡◌, ◌∙◌, List, ℕ, ap, inr, refl, subst}
use Rattle.seh.specs.Words.{ended, TookPart, refusal_text}
use Rattle.seh.proofs.Inputs.{took_front}
use Rattle.seh.proofs.refusal.report.Goals as goal

pub returns-in-Err : goal.returns-in-Err
returns-in-Err g c =
    let taken = g.E.Sink.taken in
    let count = c.in-Err.field-0.taken in
    let line : c.as_bytes.result.now ≡ ended (refusal_text c.args.refusal.now) =
    c.as_bytes.ensures.value ∙ c.end.ensures ∙ ap ended c.refusal_text-line.ensures.value in
    inr (
      refl,
      c.in-Err.ensures.cause,
      (
        count,
        subst (λ (t : List ℕ). TookPart (taken c.args.err.now) t (taken c.put_all.new.sink) count)
            line
            (took_front (taken c.args.err.now) c.as_bytes.result.now (taken c.put_all.new.sink)
            count c.in-Err.ensures.short c.in-Err.ensures.part),
      ),
    )
