use Rattle.std.proofs.Common.{ap, ◌∙◌, subst, sym, Err}
use Rattle.seh.specs.Words.{Shown, RunEnd, running_of, run_of, names_by, end_within, TookWhole, Refusal, IsSummaryAnswer, selftest_options, summary_of, stream}
use Rattle.seh.specs.Answers.{IsCutOff}
use Rattle.seh.proofs.Shown.{shown_is, named_is}
use Rattle.seh.proofs.selftest.run_program.Goals as goal

pub returns-in-Ok-write_summary : goal.returns-in-Ok-write_summary
returns-in-Ok-write_summary g c =
    let options = selftest_options c.args.turns in
    let same = shown_is options c.args.bytes.now c.in-Ok.image (running_of c.in-Ok-load.host)
    c.in-Ok.ensures.image c.in-Ok-load.ensures.loaded in
    let named = named_is c.args.bytes.now c.in-Ok.image options.argument
    (running_of c.in-Ok-load.host) c.in-Ok.ensures.image c.in-Ok-load.ensures.loaded in (
      record {
        image = c.in-Ok.image;
        is = c.in-Ok.ensures.image;
        loads = c.in-Ok-load.ensures.accepted;
      },
      c.in-Ok-write_summary.ensures.end
          ∙ ap (λ (s : Shown RunEnd). end_within c.args.turns s.end) same,
      subst (λ t. TookWhole t (stream g.O.Sink.taken g.O.Sink.faults c.args.out.now)
          (stream g.O.Sink.taken g.O.Sink.faults c.write_summary.new.out))
          (ap (λ names. summary_of c.args.turns c.args.number names
          (run_of c.args.turns (running_of c.in-Ok-load.host))) named
          ∙ ap (summary_of c.args.turns c.args.number (names_by c.args.bytes.now)) same)
          c.in-Ok-write_summary.ensures.whole,
    )

pub returns : goal.returns
returns g c =
    let options = selftest_options c.args.turns in
    let same = shown_is options c.args.bytes.now c.in-Ok.image (running_of c.in-Ok-load.host)
    c.in-Ok.ensures.image c.in-Ok-load.ensures.loaded in
    let named = named_is c.args.bytes.now c.in-Ok.image options.argument
    (running_of c.in-Ok-load.host) c.in-Ok.ensures.image c.in-Ok-load.ensures.loaded in
    let before = stream g.O.Sink.taken g.O.Sink.faults c.args.out.now in
    let after = stream g.O.Sink.taken g.O.Sink.faults c.write_summary.new.out in
    subst (λ (r : Refusal). IsSummaryAnswer c.args.turns c.args.number c.args.bytes.now before after
    (Err r)) (sym c.in-Err-write_summary.ensures.fault) (
      record {
        image = c.in-Ok.image;
        is = c.in-Ok.ensures.image;
        loads = c.in-Ok-load.ensures.accepted;
      },
      subst (λ (s : Shown RunEnd). IsCutOff (summary_of c.args.turns c.args.number
          (names_by c.args.bytes.now) s) before after) same
          (subst (λ names. IsCutOff (summary_of c.args.turns c.args.number names
          (run_of c.args.turns (running_of c.in-Ok-load.host))) before after) named
          c.in-Err-write_summary.ensures.cut_off),
    )
