use Rattle.std.proofs.lemmas.Result.{err_from_is_err_and}
use Rattle.c_parse_stmt.proofs.Placing.{placed_so}
use Rattle.c_parse_stmt.proofs.Specified.{full, no_locals, undeclared}
use Rattle.c_parse_stmt.proofs.locals.declaration.Goals as goal

pub returns-then-left-eq0-clause-refused : goal.returns-then-left-eq0-clause-refused
returns-then-left-eq0-clause-refused c =
    let s = c.in-Some in
    rw c.too_many_locals.ensures (full c.args.text.now c.args.room c.args.left c.args.tokens.now
    s.following.now s.base c.if-left-eq0.true s.ensures.found)

pub returns-in_err-locals-in-Some-clause-refused : goal.returns-in_err-locals-in-Some-clause-refused
returns-in_err-locals-in-Some-clause-refused c =
    let p = err_from_is_err_and c.from_residual.result c.from_residual.ensures.1 in
    let s = c.in-Some in
    rw (p.1, p.2) (placed_so c.in_err-locals-in-Some.field-0.0 _ _ _ _ c.args.text.now _ _
    (no_locals c.args.text.now c.args.room c.args.left c.args.tokens.now s.following.now s.base
    s.ensures.found s.ensures.far) c.in_err-locals-in-Some.ensures.refused)

pub returns-in-None-clause-refused : goal.returns-in-None-clause-refused
returns-in-None-clause-refused c = rw c.unexpected.ensures
    (undeclared c.args.text.now c.args.room c.args.left c.args.tokens.now c.in-None.ensures.none)
