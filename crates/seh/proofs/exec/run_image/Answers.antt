use Rattle.std.proofs.Common.{rules, ap, ◌∙◌, subst, w64, FitsSigned}
use Rattle.std.proofs.lemmas.Int.{to_z-of_z}
use Rattle.seh.specs.Words.{Shown, RunEnd, end_by, running_of, first_running, end_within, taken_before, Grew, text, TookPart, shown_by}
use Rattle.seh_host.specs.Running.{run_names}
use Rattle.seh.proofs.Shown.{shown_is, named_is}
use Rattle.seh.proofs.exec.run_image.Goals as goal

pub returns-in-Ok-run : goal.returns-in-Ok-run
returns-in-Ok-run g c =
    let fits : FitsSigned w64 c.args.options.argument = search rules in
    let same = shown_is c.args.options c.args.bytes.now c.in-Ok.image (running_of c.in-Ok-load.host)
    c.in-Ok.ensures.image (c.in-Ok-load.ensures.loaded
    ∙ ap (first_running c.in-Ok.image) (to_z-of_z w64 c.args.options.argument fits)) in
    let r = running_of c.in-Ok-load.host in
    let named = named_is c.args.bytes.now c.in-Ok.image c.args.options.argument r
    c.in-Ok.ensures.image (c.in-Ok-load.ensures.loaded
    ∙ ap (first_running c.in-Ok.image) (to_z-of_z w64 c.args.options.argument fits)) in
    let ends = c.in-Ok-run.ensures.end ∙ ap (λ (s : Shown RunEnd). end_within c.args.options.turns
    s.end) same in (
      record {
        image = c.in-Ok.image;
        is = c.in-Ok.ensures.image;
        loads = c.in-Ok-load.ensures.accepted;
      },
      ends,
      record {
        grew =
            subst (λ t. Grew (g.O.Sink.taken c.args.out.now) t (g.O.Sink.taken c.run.new.sink))
            (ap (λ (s : Shown RunEnd). text s.events c.in-Ok-run.end c.args.options.trace
            (run_names r)) same
            ∙ ap (λ e. text (shown_by c.args.options c.args.bytes.now).events e
            c.args.options.trace (run_names r)) ends
            ∙ ap (text (shown_by c.args.options c.args.bytes.now).events
            (end_by c.args.options c.args.bytes.now) c.args.options.trace) named)
            c.in-Ok-run.ensures.text;
        faultless = c.in-Ok-run.ensures.faultless;
      },
    )

pub returns : goal.returns
returns g c =
    let fits : FitsSigned w64 c.args.options.argument = search rules in
    let same = shown_is c.args.options c.args.bytes.now c.in-Ok.image (running_of c.in-Ok-load.host)
    c.in-Ok.ensures.image (c.in-Ok-load.ensures.loaded
    ∙ ap (first_running c.in-Ok.image) (to_z-of_z w64 c.args.options.argument fits)) in
    let r = running_of c.in-Ok-load.host in
    let named = named_is c.args.bytes.now c.in-Ok.image c.args.options.argument r
    c.in-Ok.ensures.image (c.in-Ok-load.ensures.loaded
    ∙ ap (first_running c.in-Ok.image) (to_z-of_z w64 c.args.options.argument fits)) in (
      record {
        image = c.in-Ok.image;
        is = c.in-Ok.ensures.image;
        loads = c.in-Ok-load.ensures.accepted;
      },
      (
        c.in-Err-run.ensures.cause,
        (
          taken_before c.in-Err-run.field-0,
          subst (λ t. TookPart (g.O.Sink.taken c.args.out.now) t (g.O.Sink.taken c.run.new.sink)
              (taken_before c.in-Err-run.field-0))
              (ap (λ (s : Shown RunEnd). text s.events (end_within c.args.options.turns s.end)
              c.args.options.trace (run_names r)) same
              ∙ ap (text (shown_by c.args.options c.args.bytes.now).events
              (end_by c.args.options c.args.bytes.now) c.args.options.trace) named)
              c.in-Err-run.ensures.part,
        ),
      ),
    )
