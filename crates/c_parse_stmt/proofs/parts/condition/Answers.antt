use Rattle.std.proofs.Common.{arith}
use Rattle.std.proofs.lemmas.Result.{err_from_is_err_and}
use Rattle.c_parse_stmt.specs.Words.{expression}
use Rattle.c_parse_stmt.proofs.Placing.{placed_so}
use Rattle.c_parse_stmt.proofs.Ends.{unopened, in_condition, unclosed}
use Rattle.c_parse_stmt.proofs.parts.condition.Goals as goal

pub returns-in_err-inner-clause-refused : goal.returns-in_err-inner-clause-refused
returns-in_err-inner-clause-refused c =
    let p = err_from_is_err_and c.from_residual.result c.from_residual.ensures.1 in
    rw (p.1, p.2) (placed_so c.in_err-inner.field-0.0 _ _ _ _ c.args.text.now _ _
    (unopened c.args.text.now c.args.tokens.now) c.in_err-inner.ensures.refused)

pub returns-in_err-parsed-clause-refused : goal.returns-in_err-parsed-clause-refused
returns-in_err-parsed-clause-refused c =
    let r = c.from_residual-in_err-parsed in
    let p = err_from_is_err_and r.result r.ensures.1 in
    rw (p.1, p.2) (placed_so c.in_err-parsed.field-0.0 _ _ _ _ c.args.text.now _ _
    (in_condition c.args.text.now c.args.tokens.now c.in_ok-inner.inner.now
    c.in_ok-inner.ensures.found) c.in_err-parsed.ensures.refused)

pub returns-in-Err-clause-refused : goal.returns-in-Err-clause-refused
returns-in-Err-clause-refused c =
    let k = c.in_ok-parsed in
    placed_so c.in-Err.refusal _ _ _ _ c.args.text.now _ _
    (unclosed c.args.text.now (expression k.parsed.expr) c.args.tokens.now c.in_ok-inner.inner.now
    k.parsed.rest.now c.in_ok-inner.ensures.found k.ensures.found k.ensures.stops
    (omega (arith, k.ensures.low, k.parsed.exact))) c.in-Err.ensures.refused
