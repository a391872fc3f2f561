use Rattle.std.proofs.Common.{◌≡◌, ◌<◌, ◌^◌, ◌++◌, ◌∙◌, sym, ap, arith}
use Rattle.std.specs.Fmt.{decimal}
use Rattle.std.specs.Str.Parse.{digits_value, without_leading_plus}
use Rattle.command_line.proofs.Numbers.{is_read, unlike}
use Rattle.command_line.proofs.reading.number_of.Goals as goal

pub returns-in_default-clause-none : goal.returns-in_default-clause-none
returns-in_default-clause-none c none n lt e =
    let r = is_read c.args.text.now n lt e in
    let fits : digits_value 10 (without_leading_plus c.args.text.now) < 2 ^ 64 = omega arith in
    c.in_default.ensures.value.0 (r.0, fits)

pub returns-then-number-clause-none : goal.returns-then-number-clause-none
returns-then-number-clause-none c none n lt e =
    let r = is_read c.args.text.now n lt e in
    let same : c.in-Ok.number ≡ n = c.in-Ok.ensures.value.0.1 ∙ r.1 in
    let large = c.if-number.true in
    absurd (omega arith)

pub returns-else-eq-clause-none : goal.returns-else-eq-clause-none
returns-else-eq-clause-none c none n lt e =
    let r = is_read c.args.text.now n lt e in
    let same : c.in-Ok.number ≡ n = c.in-Ok.ensures.value.0.1 ∙ r.1 in
    unlike c.as_bytes.result.now c.as_bytes-2.result.now
    (c.as_bytes.ensures.value ∙ c.natural.ensures.value
    ∙ ap (λ t. t ++ decimal c.in-Ok.number) c.new-line.ensures ∙ ap decimal same ∙ sym e
    ∙ sym c.as_bytes-2.ensures.value) c.if-eq.ensures
