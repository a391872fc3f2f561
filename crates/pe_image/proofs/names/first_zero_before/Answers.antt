use Rattle.std.proofs.Common.{◌≡◌, ℕ, ◌+◌, ◌-◌, Some, sym, ap, ◌∙◌, arith}
use Rattle.pe_image.proofs.Zeros.{first_in_front, first_past_front}
use Rattle.pe_image.proofs.names.first_zero_before.Goals as goal

pub returns-in-Some-clause-place : goal.returns-in-Some-clause-place
returns-in-Some-clause-place c = sym (first_in_front c.args.unread c.in-Some.place c.args.bytes.now
    (omega arith) (sym c.first_zero-2.ensures.place ∙ c.in-Some.is))

pub returns-in-None-clause-place : goal.returns-in-None-clause-place
returns-in-None-clause-place c =
    let whole : c.args.unread + (c.args.end - c.args.unread)
    ≡ c.args.end = omega (arith, c.requires.ordered) in
    sym (first_past_front c.args.unread (c.args.end - c.args.unread) c.args.bytes.now (omega arith)
    (sym c.first_zero-2.ensures.place ∙ c.in-None.is) (c.requires.known c.if-bytes-unread.false)
    ∙ ap (λ (k : ℕ). Some k) whole)
