use Rattle.std.proofs.Common.{◌≡◌, ◌∙◌, ℕ, length, false, ap, subst, arith}
use Rattle.std.specs.Prelude.{codes}
use Rattle.seh_io.specs.Successive.{faulted_later}
use Rattle.seh_io.specs.Text.{ended, text}
use Rattle.seh_host.specs.Running.{event_count, run_names}
use Rattle.seh.specs.Words.{RunEnd, Grew, taken_before, running_of, run_of}
use Rattle.seh.specs.Refusals.{named}
use Rattle.seh.specs.Selftests.{program_line, events_line}
use Rattle.seh.proofs.Summaries.{counted_all, cut_in_program, cut_in_run, cut_in_events, wrote_summary}
use Rattle.seh.proofs.selftest.write_summary.Goals as goal

pub returns-in-Err-clause-cut_off : goal.returns-in-Err-clause-cut_off
returns-in-Err-clause-cut_off g c =
    let taken = g.O.Sink.taken in
    let shown = run_of c.args.turns (running_of c.args.host.now) in
    let line : c.as_bytes.result.now ≡ program_line c.args.number =
    c.as_bytes.ensures.value ∙ c.number_line-first.ensures in (
      c.in-Err.ensures.cause,
      cut_in_program c.args.turns c.args.number
          (run_names (running_of c.args.host.now)) shown (taken c.args.out.now)
          (taken c.put_all.new.sink) c.as_bytes.result.now c.in-Err.field-0.taken line
          c.in-Err.ensures.short c.in-Err.ensures.part,
    )

pub returns-in-Err-run-clause-cut_off : goal.returns-in-Err-run-clause-cut_off
returns-in-Err-run-clause-cut_off g c =
    let taken = g.O.Sink.taken in
    let shown = run_of c.args.turns (running_of c.args.host.now) in
    let line : c.as_bytes.result.now ≡ program_line c.args.number =
    c.as_bytes.ensures.value ∙ c.number_line-first.ensures in (
      faulted_later (g.O.Sink.faults c.args.out.now) (g.O.Sink.faults c.put_all.new.sink)
          (g.O.Sink.faults c.run.new.sink) c.in-Ok.ensures.faultless c.in-Err-run.ensures.cause,
      cut_in_run c.args.turns c.args.number
          (run_names (running_of c.args.host.now)) shown
          (taken c.args.out.now) (taken c.put_all.new.sink)
          c.as_bytes.result.now line c.in-Ok.ensures.ok (taken c.run.new.sink)
          (taken_before c.in-Err-run.field-0) c.in-Err-run.ensures.part,
    )

pub returns-in-Err-put_all-clause-cut_off : goal.returns-in-Err-put_all-clause-cut_off
returns-in-Err-put_all-clause-cut_off g c =
    let taken = g.O.Sink.taken in
    let shown = run_of c.args.turns (running_of c.args.host.now) in
    let line : c.as_bytes.result.now ≡ program_line c.args.number =
    c.as_bytes.ensures.value ∙ c.number_line-first.ensures in
    let ran = subst
    (λ (e : RunEnd). Grew (taken c.put_all.new.sink) (text shown.events e false
    (run_names (running_of c.args.host.now)))
    (taken c.run.new.sink)) c.in-Ok-run.ensures.end c.in-Ok-run.ensures.text in
    let counted = c.events.ensures
    ∙ counted_all (event_count c.args.host.now) (length shown.events) (event_count c.run.new.host)
    c.requires (let is = c.events.ensures in omega arith) c.in-Ok-run.ensures.all_counted in
    let ends : c.as_bytes-2.result.now ≡ events_line (length shown.events) =
    c.as_bytes-2.ensures.value ∙ c.number_line-last.ensures
    ∙ ap (λ (n : ℕ). ended (named (codes "events ") n)) counted in (
      faulted_later (g.O.Sink.faults c.args.out.now) (g.O.Sink.faults c.put_all.new.sink)
          (g.O.Sink.faults c.put_all-2.new.sink) c.in-Ok.ensures.faultless
          (faulted_later (g.O.Sink.faults c.put_all.new.sink) (g.O.Sink.faults c.run.new.sink)
          (g.O.Sink.faults c.put_all-2.new.sink) c.in-Ok-run.ensures.faultless
          c.in-Err-put_all.ensures.cause),
      cut_in_events c.args.turns c.args.number
          (run_names (running_of c.args.host.now)) shown (taken c.args.out.now)
          (taken c.put_all.new.sink) c.as_bytes.result.now line c.in-Ok.ensures.ok
          (taken c.run.new.sink) (taken c.put_all-2.new.sink) ran c.as_bytes-2.result.now ends
          c.in-Err-put_all.field-0.taken c.in-Err-put_all.ensures.short
          c.in-Err-put_all.ensures.part,
    )

pub returns-in-Ok-put_all-clause-whole : goal.returns-in-Ok-put_all-clause-whole
returns-in-Ok-put_all-clause-whole g c =
    let taken = g.O.Sink.taken in
    let shown = run_of c.args.turns (running_of c.args.host.now) in
    let line : c.as_bytes.result.now ≡ program_line c.args.number =
    c.as_bytes.ensures.value ∙ c.number_line-first.ensures in
    let ran = subst
    (λ (e : RunEnd). Grew (taken c.put_all.new.sink) (text shown.events e false
    (run_names (running_of c.args.host.now)))
    (taken c.run.new.sink)) c.in-Ok-run.ensures.end c.in-Ok-run.ensures.text in
    let counted = c.events.ensures
    ∙ counted_all (event_count c.args.host.now) (length shown.events) (event_count c.run.new.host)
    c.requires (let is = c.events.ensures in omega arith) c.in-Ok-run.ensures.all_counted in
    let ends : c.as_bytes-2.result.now ≡ events_line (length shown.events) =
    c.as_bytes-2.ensures.value ∙ c.number_line-last.ensures
    ∙ ap (λ (n : ℕ). ended (named (codes "events ") n)) counted in
    record {
      grew = wrote_summary c.args.turns c.args.number
          (run_names (running_of c.args.host.now)) shown
          (taken c.args.out.now) (taken c.put_all.new.sink)
          c.as_bytes.result.now line c.in-Ok.ensures.ok (taken c.run.new.sink)
          (taken c.put_all-2.new.sink) ran c.as_bytes-2.result.now ends c.in-Ok-put_all.ensures.ok;
      faultless = c.in-Ok-put_all.ensures.faultless ∙ c.in-Ok-run.ensures.faultless
          ∙ c.in-Ok.ensures.faultless;
    }
