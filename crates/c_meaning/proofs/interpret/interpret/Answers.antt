use Rattle.std.proofs.Common.{◌++◌, refl, sym, ap, ◌∙◌, rules, w64, to_z, of_z}
use Rattle.std.proofs.lemmas.Int.{to_z-of_z}
use Rattle.seh_io.specs.Text.{lines}
use Rattle.seh_io.proofs.Writers.{ran_whole, ran_part, same_grew, same_part}
use Rattle.c_checked.specs.Whole as whole
use Rattle.source_meaning.specs.Meaning as meaning
use Rattle.c_meaning.specs.Texts as texts
use Rattle.c_meaning.specs.FunctionNames.{named_by}
use Rattle.c_meaning.proofs.TextLemmas.{whole_text, front_of_text, front_written}
use Rattle.c_meaning.proofs.interpret.interpret.Goals as goal

pub returns-in-Err-Memory-clause-part : goal.returns-in-Err-Memory-clause-part
returns-in-Err-Memory-clause-part g c =
    let again = to_z w64 (of_z w64 c.args.arg) in
    let shown = meaning.meaning (whole.program c.args.program.now) again c.args.budget in
    let names = named_by c.new-lines.result.names.now in
    let text_is = ap (λ a. texts.text c.args.trace c.args.budget
    (meaning.meaning (whole.program c.args.program.now) a c.args.budget) names)
    (to_z-of_z w64 c.args.arg c.ranges.arg)
    ∙ ap (λ ns. texts.text c.args.trace c.args.budget
    (meaning.meaning (whole.program c.args.program.now) c.args.arg c.args.budget) (named_by ns))
    c.new-lines.ensures.names in
    let q = c.in-Err-Memory.ensures.part in
    let w = q.took_shown.wrote in
    let end = texts.ended_line (texts.ended_within c.args.budget shown.end) in (
      w.part,
      (
        w.begins.0 ++ (lines c.args.trace q.front.0 names ++ end),
        sym text_is ∙ front_of_text names c.args.trace q.shown q.front.0 shown.events end w.part
            w.begins.0
            (ap (λ b. lines b q.shown names) (sym c.new-lines.ensures.trace) ∙ w.begins.1)
            q.front.1,
      ),
      same_grew (g.O.Sink.taken c.new-lines.result.sink.now) (g.O.Sink.taken c.args.sink.now)
          (g.O.Sink.taken c.run_program.new.lines.sink.now) _ w.part w.part
          (ap g.O.Sink.taken c.new-lines.ensures.sink) refl (search rules) w.grew,
    )

pub returns-in-Err-Write-clause-part : goal.returns-in-Err-Write-clause-part
returns-in-Err-Write-clause-part g c =
    let again = to_z w64 (of_z w64 c.args.arg) in
    let shown = meaning.meaning (whole.program c.args.program.now) again c.args.budget in
    let names = named_by c.new-lines.result.names.now in
    let text_is = ap (λ a. texts.text c.args.trace c.args.budget
    (meaning.meaning (whole.program c.args.program.now) a c.args.budget) names)
    (to_z-of_z w64 c.args.arg c.ranges.arg)
    ∙ ap (λ ns. texts.text c.args.trace c.args.budget
    (meaning.meaning (whole.program c.args.program.now) c.args.arg c.args.budget) (named_by ns))
    c.new-lines.ensures.names in
    let q = c.in-Err-Write.ensures.part in
    same_part (g.O.Sink.taken c.new-lines.result.sink.now) (g.O.Sink.taken c.args.sink.now)
    (g.O.Sink.taken c.run_program.new.lines.sink.now) _ _ _ c.run_program.new.lines.taken
    (ap g.O.Sink.taken c.new-lines.ensures.sink) text_is (search rules)
    (front_written names _ _ c.args.trace c.new-lines.result.trace c.args.budget shown q.shown
    q.front.0
    c.new-lines.ensures.trace q.front.1 q.took_shown.wrote c.new-lines.ensures.taken)

pub returns-in-Ok-outcome-clause-text : goal.returns-in-Ok-outcome-clause-text
returns-in-Ok-outcome-clause-text g c =
    let again = to_z w64 (of_z w64 c.args.arg) in
    let shown = meaning.meaning (whole.program c.args.program.now) again c.args.budget in
    let names = named_by c.new-lines.result.names.now in
    let text_is = ap (λ a. texts.text c.args.trace c.args.budget
    (meaning.meaning (whole.program c.args.program.now) a c.args.budget) names)
    (to_z-of_z w64 c.args.arg c.ranges.arg)
    ∙ ap (λ ns. texts.text c.args.trace c.args.budget
    (meaning.meaning (whole.program c.args.program.now) c.args.arg c.args.budget) (named_by ns))
    c.new-lines.ensures.names in
    let means = c.in-Ok.ensures.means in
    let whole_is = whole_text names c.args.trace c.new-lines.result.trace c.args.budget shown
    c.in-Ok.end _ c.as_bytes.result.now c.new-lines.ensures.trace means.ended
    c.unwrap_or-ended.ensures (c.as_bytes.ensures.value ∙ c.ended_line.ensures) in
    same_grew (g.O.Sink.taken c.new-lines.result.sink.now) (g.O.Sink.taken c.args.sink.now)
    (g.O.Sink.taken c.put.new.self.sink.now) _ _ _
    (ap g.O.Sink.taken c.new-lines.ensures.sink)
    (whole_is ∙ text_is)
    (search rules)
    (ran_whole _ _ _ _ _ means.took_events.wrote c.put.ensures.wrote c.in-Ok-outcome.ensures)

pub returns-clause-part : goal.returns-clause-part
returns-clause-part g c =
    let again = to_z w64 (of_z w64 c.args.arg) in
    let shown = meaning.meaning (whole.program c.args.program.now) again c.args.budget in
    let names = named_by c.new-lines.result.names.now in
    let text_is = ap (λ a. texts.text c.args.trace c.args.budget
    (meaning.meaning (whole.program c.args.program.now) a c.args.budget) names)
    (to_z-of_z w64 c.args.arg c.ranges.arg)
    ∙ ap (λ ns. texts.text c.args.trace c.args.budget
    (meaning.meaning (whole.program c.args.program.now) c.args.arg c.args.budget) (named_by ns))
    c.new-lines.ensures.names in
    let means = c.in-Ok.ensures.means in
    let whole_is = whole_text names c.args.trace c.new-lines.result.trace c.args.budget shown
    c.in-Ok.end _ c.as_bytes.result.now c.new-lines.ensures.trace means.ended
    c.unwrap_or-ended.ensures (c.as_bytes.ensures.value ∙ c.ended_line.ensures) in
    same_part (g.O.Sink.taken c.new-lines.result.sink.now) (g.O.Sink.taken c.args.sink.now)
    (g.O.Sink.taken c.put.new.self.sink.now) _ _ _ c.in-Err.fault.taken
    (ap g.O.Sink.taken c.new-lines.ensures.sink)
    (whole_is ∙ text_is)
    (search rules)
    (ran_part _ _ _ _ _ means.took_events.wrote c.put.ensures.wrote c.in-Err.fault.taken
    c.new-lines.ensures.taken (c.in-Err.ensures).1)
