use Rattle.std.proofs.Common.{subst, arith}
use Rattle.c_parse_stmt.specs.Words.{AreClosing}
use Rattle.c_parse_stmt.proofs.Departing.{unopened, continues_inside, departs_inside, failed_after, departs_after, whole}
use Rattle.c_parse_stmt.proofs.filters.departure.Goals as goal

pub returns-then-opened-eq0-clause-none : goal.returns-then-opened-eq0-clause-none
returns-then-opened-eq0-clause-none c = λ h none.
    let o = c.past_opening-opened in
    unopened o.result.0 c.args.text.now c.args.tokens.now o.result.1.now c.if-opened-eq0.true
    o.ensures.opened o.ensures.all

pub returns-then-closed-opened-clause-none : goal.returns-then-closed-opened-clause-none
returns-then-closed-opened-clause-none c = λ h none.
    let o = c.past_opening-opened in
    let q = c.past_closing-closed in
    let s = c.in-Some in
    absurd (whole o.result.0 c.args.text.now s.token c.args.tokens.now o.result.1.now
    s.following.now q.result.1.now (omega (arith, c.if-opened-eq0.false)) o.ensures.most
    o.ensures.opened s.ensures.found s.ensures.accepts
    (subst (λ n. AreClosing n s.following.now q.result.1.now) c.if-closed-opened.true
    q.ensures.closed) none)

pub continues_after-requires-clause-unclosed : goal.continues_after-requires-clause-unclosed
continues_after-requires-clause-unclosed c =
    let q = c.past_closing-closed in
    q.ensures.all (omega (arith, q.ensures.most, c.if-closed-opened.false))

pub returns-else-closed-opened-clause-many : goal.returns-else-closed-opened-clause-many
returns-else-closed-opened-clause-many c = λ h none.
    let o = c.past_opening-opened in
    let q = c.past_closing-closed in
    let s = c.in-Some in
    failed_after o.result.0 q.result.0 c.args.text.now s.token c.args.tokens.now o.result.1.now
    s.following.now q.result.1.now (omega (arith, q.ensures.most, c.if-closed-opened.false))
    o.ensures.most o.ensures.opened s.ensures.found s.ensures.accepts q.ensures.closed
    (q.ensures.all (omega (arith, q.ensures.most, c.if-closed-opened.false)))
    (c.continues_after.ensures.some h)

pub returns-else-closed-opened-clause-none : goal.returns-else-closed-opened-clause-none
returns-else-closed-opened-clause-none c = λ h none.
    let o = c.past_opening-opened in
    let q = c.past_closing-closed in
    let s = c.in-Some in
    departs_after o.result.0 q.result.0 c.args.text.now s.token c.args.tokens.now o.result.1.now
    s.following.now q.result.1.now (omega (arith, q.ensures.most, c.if-closed-opened.false))
    o.ensures.most o.ensures.opened s.ensures.found s.ensures.accepts q.ensures.closed
    (c.continues_after.ensures.none h)

pub returns-in-None-clause-many : goal.returns-in-None-clause-many
returns-in-None-clause-many c = λ h none.
    let o = c.past_opening-opened in
    continues_inside o.result.0 c.args.text.now c.args.tokens.now o.result.1.now
    (omega (arith, c.if-opened-eq0.false)) o.ensures.most o.ensures.opened o.ensures.all
    c.in-None.ensures.none (c.continues_inside.ensures.some h)

pub returns-in-None-clause-none : goal.returns-in-None-clause-none
returns-in-None-clause-none c = λ h none.
    let o = c.past_opening-opened in
    departs_inside o.result.0 c.args.text.now c.args.tokens.now o.result.1.now
    (omega (arith, c.if-opened-eq0.false)) o.ensures.most o.ensures.opened
    (c.continues_inside.ensures.none h)
