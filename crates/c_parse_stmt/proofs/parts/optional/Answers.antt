use Rattle.std.proofs.Common.{arith}
use Rattle.std.proofs.lemmas.Result.{err_from_is_err_and}
use Rattle.c_parse_stmt.specs.Words.{expression}
use Rattle.c_parse_stmt.proofs.Placing.{placed_so}
use Rattle.c_parse_stmt.proofs.Ends.{no_expression, unended}
use Rattle.c_parse_stmt.proofs.parts.optional.Goals as goal

pub returns-then-room-eq0-clause-refused : goal.returns-then-room-eq0-clause-refused
returns-then-room-eq0-clause-refused c = rw c.if-room-eq0.true
    (c.no_room_for_expression.ensures c.args.end c.in-None.ensures.none)

pub returns-in_err-parsed-in-None-clause-refused : goal.returns-in_err-parsed-in-None-clause-refused
returns-in_err-parsed-in-None-clause-refused c =
    let r = c.from_residual in
    let p = err_from_is_err_and r.result r.ensures.1 in
    rw (p.1, p.2) (placed_so c.in_err-parsed-in-None.field-0.0 _ _ _ _ c.args.text.now _ _
    (no_expression c.args.text.now c.args.end c.args.room c.args.tokens.now c.requires
    c.in-None.ensures.none (omega arith)) c.in_err-parsed-in-None.ensures.refused)

pub returns-in-Err-clause-refused : goal.returns-in-Err-clause-refused
returns-in-Err-clause-refused c =
    let k = c.in_ok-parsed-in-None in
    placed_so c.in-Err.refusal _ _ _ _ c.args.text.now _ _
    (unended c.args.text.now c.args.end c.args.room (expression k.parsed.expr) c.args.tokens.now
    k.parsed.rest.now c.requires c.in-None.ensures.none k.ensures.found k.ensures.stops
    (omega (arith, k.ensures.low, k.parsed.exact)) (omega arith)) c.in-Err.ensures.refused
