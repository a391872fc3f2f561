use Rattle.std.proofs.Common.{◌≡◌, ◌∙◌, List, ℕ, ap, subst}
use Rattle.seh_io.specs.Writer.{TookPart}
use Rattle.seh.specs.EntryChecks.{entries_text}
use Rattle.seh.proofs.Inputs.{took_front}
use Rattle.seh.proofs.check_entries.check_image_entries.Goals as goal

pub returns : goal.returns
returns g c =
    let taken = g.O.Sink.taken in
    let count = c.in-Err-put_all.field-0.taken in
    let line : c.deref-2.result.now ≡ entries_text c.in-Ok.verdicts.items =
    c.deref-2.ensures.value ∙ c.in-Ok-entries_text.ensures
    ∙ ap entries_text c.deref.ensures.value in (
      c.in-Ok.verdicts.items,
      c.in-Ok.ensures.found,
      (
        c.in-Err-put_all.ensures.cause,
        (
          count,
          subst (λ (t : List ℕ). TookPart (taken c.args.out.now) t (taken c.put_all.new.sink) count)
              line
              (took_front (taken c.args.out.now) c.deref-2.result.now
              (taken c.put_all.new.sink) count c.in-Err-put_all.ensures.short
              c.in-Err-put_all.ensures.part),
        ),
      ),
    )
