use Rattle.std.proofs.Common.{◌-◌, arith}
use Rattle.std.proofs.lemmas.Result.{err_from_is_err_and}
use Rattle.c_parse_stmt.proofs.Placing.{placed_so}
use Rattle.c_parse_stmt.proofs.Declarations.{no_first, after, begins, full, no_next, continues, unended, ends}
use Rattle.c_parse_stmt.proofs.locals.locals.Goals as goal

pub returns-in_err-first-clause-refused : goal.returns-in_err-first-clause-refused
returns-in_err-first-clause-refused c =
    let p = err_from_is_err_and c.from_residual.result c.from_residual.ensures.1 in
    rw (p.1, p.2) (placed_so c.in_err-first.field-0.0 _ _ _ _ c.args.text.now _ _
    (no_first c.args.text.now c.args.base c.args.room c.args.left c.args.tokens.now c.requires)
    c.in_err-first.ensures.refused)

pub loop-following-init : goal.loop-following-init
loop-following-init c =
    let k = c.in_ok-first in
    let a = c.after_local-left in
    rw (c.in_ok-push.ensures.items, c.new-found.ensures.items)
    (begins c.args.text.now c.args.base c.args.room c.args.left a.result c.args.tokens.now
    k.rest.now k.first k.ensures.found k.ensures.stops k.ensures.low k.ensures.over
    (after c.args.base c.args.left a.result k.first k.bytes a.ensures.locals a.ensures.bytes
    a.ensures.funclets k.ensures.end))

pub returns-then-left-eq0-clause-refused : goal.returns-then-left-eq0-clause-refused
returns-then-left-eq0-clause-refused c =
    let s = c.loop-following in
    rw c.too_many_locals.ensures (full c.args.text.now c.args.base c.args.room c.args.left s.left
    c.args.tokens.now s.rest.now c.in-Some.following.now s.found.items s.invariant
    c.if-left-eq0.true c.in-Some.ensures.found)

pub returns-in_err-next-clause-refused : goal.returns-in_err-next-clause-refused
returns-in_err-next-clause-refused c =
    let r = c.from_residual-in_err-next in
    let p = err_from_is_err_and r.result r.ensures.1 in
    let s = c.loop-following in
    rw (p.1, p.2) (placed_so c.in_err-next.field-0.0 _ _ _ _ c.args.text.now _ _
    (no_next c.args.text.now c.args.base c.args.room c.args.left s.left c.args.tokens.now s.rest.now
    c.in-Some.following.now s.found.items s.invariant c.in-Some.ensures.found (omega arith))
    c.in_err-next.ensures.refused)

pub loop-following-preserved : goal.loop-following-preserved
loop-following-preserved c =
    let s = c.loop-following in
    let k = c.in_ok-next in
    let a = c.after_local-left-in-Some in
    rw c.in_ok-push-2.ensures.items (continues c.args.text.now c.args.base c.args.room c.args.left
    s.left a.result c.args.tokens.now s.rest.now c.in-Some.following.now k.after.now s.found.items
    k.next s.invariant c.in-Some.ensures.found k.ensures.found k.ensures.stops k.ensures.low
    k.ensures.over (after c.args.base s.left a.result k.next k.bytes a.ensures.locals
    a.ensures.bytes a.ensures.funclets k.ensures.end))

pub returns-in_err-end-clause-refused : goal.returns-in_err-end-clause-refused
returns-in_err-end-clause-refused c =
    let r = c.from_residual-in_err-end in
    let p = err_from_is_err_and r.result r.ensures.1 in
    let s = c.loop-following in
    rw (p.1, p.2) (placed_so c.in_err-end.field-0.0 _ _ _ _ c.args.text.now _ _
    (unended c.args.text.now c.args.base c.args.room c.args.left s.left c.args.tokens.now s.rest.now
    s.found.items s.invariant c.in_default.ensures.none) c.in_err-end.ensures.refused)

pub returns-clause-found : goal.returns-clause-found
returns-clause-found c =
    let s = c.loop-following in
    ends c.args.text.now c.args.base c.args.room c.args.left s.left c.args.tokens.now s.rest.now
    c.in_ok-end.end.now s.found.items s.invariant c.in_ok-end.ensures.found
