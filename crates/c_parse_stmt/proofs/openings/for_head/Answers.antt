use Rattle.std.proofs.Common.{arith, option_map}
use Rattle.std.proofs.lemmas.Result.{err_from_is_err_and}
use Rattle.c_parse_stmt.specs.Words.{expression, first}
use Rattle.c_parse_stmt.proofs.ForHeads.{for_open, for_initialiser, for_condition, for_next}
use Rattle.c_parse_stmt.proofs.Heading.{for_too_deep}
use Rattle.c_parse_stmt.proofs.Sequences.{placed}
use Rattle.c_parse_stmt.proofs.openings.for_head.Goals as goal

pub returns-then-room-eq0-clause-refused : goal.returns-then-room-eq0-clause-refused
returns-then-room-eq0-clause-refused c = λ ts k. for_too_deep c.args.room c.args.at c.args.left
    c.args.text.now ts c.args.tokens.now c.if-room-eq0.true k

pub returns-in_err-following-clause-refused : goal.returns-in_err-following-clause-refused
returns-in_err-following-clause-refused c =
    let p = err_from_is_err_and c.from_residual.result c.from_residual.ensures.1 in
    rw (p.1, p.2) (λ ts k. placed c.in_err-following.field-0.0 _ _ _ _ c.args.text.now
    c.args.tokens.now ts (for_open c.args.room c.args.at c.args.left c.args.text.now ts
    c.args.tokens.now (omega arith) k) c.in_err-following.ensures.refused)

pub returns-in_err-first-clause-refused : goal.returns-in_err-first-clause-refused
returns-in_err-first-clause-refused c =
    let r = c.from_residual-in_err-first in
    let p = err_from_is_err_and r.result r.ensures.1 in
    let o = c.in_ok-following in
    rw (p.1, p.2) (λ ts k. placed c.in_err-first.field-0.0 _ _ _ _ c.args.text.now o.following.now
    ts (for_initialiser c.args.room c.args.at c.args.left c.args.text.now ts c.args.tokens.now
    o.following.now (omega arith) k o.ensures.found) c.in_err-first.ensures.refused)

pub returns-in-Err-clause-refused : goal.returns-in-Err-clause-refused
returns-in-Err-clause-refused c =
    let o = c.in_ok-following in
    let f = c.in_ok-first in
    λ ts k. placed c.in-Err.refusal _ _ _ _ c.args.text.now f.following.now ts
    (for_condition c.args.room c.args.at c.args.left f.left (first f.first) c.args.text.now ts
    c.args.tokens.now o.following.now f.following.now (omega arith) k o.ensures.found
    f.ensures.found f.ensures.low f.ensures.taken f.ensures.funclets f.ensures.end)
    c.in-Err.ensures.refused

pub returns-in-Err-optional-clause-refused : goal.returns-in-Err-optional-clause-refused
returns-in-Err-optional-clause-refused c =
    let o = c.in_ok-following in
    let f = c.in_ok-first in
    let i = c.in-Ok in
    λ ts k. placed c.in-Err-optional.refusal _ _ _ _ c.args.text.now i.following.now ts
    (for_next c.args.room c.args.at c.args.left f.left (first f.first)
    (option_map expression i.condition) c.args.text.now ts c.args.tokens.now o.following.now
    f.following.now i.following.now (omega arith) k o.ensures.found f.ensures.found
    f.ensures.low f.ensures.taken f.ensures.funclets f.ensures.end i.ensures.found
    i.ensures.low)
    c.in-Err-optional.ensures.refused
