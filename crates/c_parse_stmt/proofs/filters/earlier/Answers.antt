use Rattle.c_parse_stmt.proofs.Filtering.{placed_none, placed_stays}
use Rattle.c_parse_stmt.proofs.filters.earlier.Goals as goal

pub returns-then-continues : goal.returns-then-continues
returns-then-continues c = λ h.
    rw (c.too_many_funclets.ensures, c.place.ensures)
    (c.departure-continues.ensures.many c.if-continues.true
    (placed_none c.args.refusal c.args.text.now c.args.tokens.now c.in_default.not-Memory h))

pub returns-else-continues : goal.returns-else-continues
returns-else-continues c = λ h.
    placed_stays c.args.refusal c.args.text.now c.args.tokens.now c.departure-continues.result.0.now
    (c.departure-continues.ensures.none c.if-continues.false
    (placed_none c.args.refusal c.args.text.now c.args.tokens.now c.in_default.not-Memory h)) h
